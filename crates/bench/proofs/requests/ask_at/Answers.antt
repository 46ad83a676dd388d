-- The call borrows the host's state in its place.
use mathlib.Core.Path.{◌≡◌, ap, ◌∙◌}
use mathlib.Core.List.{List}
use Prim.Native.Nat.{ℕ, ◌*◌}
use lib.ListN.{get_or, set}
use Rattle.lists.specs.Lists.{part}
use Rattle.net_table.specs.declared.NetTable.{NetTable}
use Rattle.table.specs.declared.Entry.{Entry}
use Rattle.host.specs.Guard.{longest}
use Rattle.host.specs.CallState.{call_state}
use Rattle.calls.specs.Perform.{Outcome, perform}
use Rattle.calls.specs.Perform as definition
use Rattle.bench.specs.declared.HostState.{HostState}
use Rattle.bench.specs.declared.requests.Ask.{Ask}
use Rattle.bench.specs.code.Asks.{outcome_of}
use Rattle.bench.proofs.Defaults.{any_default, nobody}
use Rattle.bench.proofs.requests.ask_at.Goals as goal

-- the call borrows what the definition says
same : (w : Ask) (t : NetTable) (hosts : List HostState) (copies : List ℕ) (entries : List Entry)
    → (copy : List ℕ) → copy ≡ part (longest * w.host) longest copies → (v d : HostState) → v ≡ get_or hosts w.host d
    → perform (definition.ask w.request) (call_state w.settings t w.host v.clock v.links v.walk copy entries) ≡ outcome_of w t hosts copies entries d
same w t hosts copies entries copy copy_is v d v-is = rw (copy_is, v-is)

pub returns : goal.returns
returns c d =
    let a = c.args in
    let r = c.call.ensures in
    let e = same a.w a.net_table.now a.hosts.now a.copies.now a.entries.now c.copy_of.result.now c.copy_of.ensures (get_or a.hosts.now a.w.host nobody) d (any_default a.hosts.now a.w.host nobody d c.requires.there) in
    record {
      states = λ i. set a.hosts.now a.w.host record {
        clock = (r.clock ∙ ap (λ (o : Outcome). o.clock) e) i;
        links = (r.links ∙ ap (λ (o : Outcome). o.links) e) i;
        walk = (r.walk ∙ ap (λ (o : Outcome). o.walk) e) i;
      };
      own_entries = r.entries ∙ ap (λ (o : Outcome). o.entries) e;
      reply = r.reply ∙ ap (λ (o : Outcome). o.reply) e;
    }
