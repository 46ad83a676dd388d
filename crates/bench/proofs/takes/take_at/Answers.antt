-- The inspection, and the action if it passes, are the two in turn. A refused inspection changes nothing.
use mathlib.Core.Path.{◌≡◌, refl, sym, ap, subst, ◌∙◌}
use mathlib.Core.Bool.{Bool, true, false}
use mathlib.Core.List.{List}
use Prim.Native.Nat.{ℕ}
use lib.ListN.{set}
use lib.Seq.{set-get_or}
use Rattle.clock.specs.declared.Counter.{Counter}
use Rattle.net_table.specs.declared.NetTable.{NetTable}
use Rattle.table.specs.declared.Entry.{Entry}
use Rattle.host.specs.declared.Reply.{Reply}
use Rattle.host.specs.Guard.{done}
use Rattle.host.specs.CallState.{CallState}
use Rattle.calls.specs.Perform.{Outcome, inspect, act, perform, in_turn}
use Rattle.calls.proofs.Pair.{leaves, looks as keeps}
use Rattle.bench.specs.declared.HostState.{HostState}
use Rattle.bench.specs.declared.takes.Taking.{Taking}
use Rattle.bench.specs.code.Takes.{TakeDone, LookLeaves, ActLeaves, TakeLeaves, host_of, packet}
use Rattle.bench.proofs.takes.take_at.Goals as goal

module _ (i : ℕ) (k : Counter) (octets : List ℕ) (x : CallState) where
  passing : done (perform (inspect i octets) x).reply.answer ≡ true → perform (act i k octets) x ≡ in_turn i k octets x
  passing e = rw e (ap (perform (act i k octets)) (sym (keeps i octets x)))

  refusing : done (perform (inspect i octets) x).reply.answer ≡ false → perform (inspect i octets) x ≡ in_turn i k octets x
  refusing e = rw e refl

module _ (t : NetTable) (hosts : List HostState) (copies : List ℕ) (entries : List Entry) (octets : List ℕ) (w : Taking) (o : Reply) (o_is : LookLeaves w t hosts copies entries octets o)
    (b : Bool) (b-is : b ≡ done o.answer) where
  passes : b ≡ true → (hosts' : List HostState) (entries' : List Entry) (r : Reply) → ActLeaves w t hosts copies entries octets hosts' entries' r → TakeLeaves w t hosts copies entries octets hosts' entries' r
  passes e hosts' entries' r did d =
      subst (λ (z : Outcome). TakeDone w z hosts hosts' entries' r)
      (passing w.link w.counter (packet w t hosts copies entries octets d) (host_of w t hosts copies entries octets d) (ap (λ (r : Reply). done r.answer) (sym (o_is d)) ∙ sym b-is ∙ e)) (did d)

  refuses : b ≡ false → TakeLeaves w t hosts copies entries octets hosts entries o
  refuses e d =
      let x : CallState = host_of w t hosts copies entries octets d in
      let p : List ℕ = packet w t hosts copies entries octets d in
      subst (λ (z : Outcome). TakeDone w z hosts hosts entries o)
      (refusing w.link w.counter p x (ap (λ (r : Reply). done r.answer) (sym (o_is d)) ∙ sym b-is ∙ e))
      record {
        states = sym (set-get_or hosts w.host d) ∙ ap (λ (z : Outcome). set hosts w.host record { clock = z.clock; links = z.links; walk = z.walk }) (sym (leaves w.link p x));
        own_entries = ap (λ (z : Outcome). z.entries) (sym (leaves w.link p x));
        reply = o_is d;
      }

pub returns : goal.returns
returns c =
    let a = c.args in
    passes a.net_table.now a.hosts.now a.copies.now a.entries.now a.slots.now a.w c.look_at-reply.result c.look_at-reply.ensures c.passes.result c.passes.ensures c.if-not-passes.false _ _ _ c.act_at.ensures

pub returns-then-not-passes : goal.returns-then-not-passes
returns-then-not-passes c =
    let a = c.args in
    refuses a.net_table.now a.hosts.now a.copies.now a.entries.now a.slots.now a.w c.look_at-reply.result c.look_at-reply.ensures c.passes.result c.passes.ensures c.if-not-passes.true
