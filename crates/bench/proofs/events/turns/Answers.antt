-- A turn is the next event, so n turns are n steps.
use mathlib.Core.Path.{◌≡◌, subst⁻¹}
use Prim.Native.Nat.{ℕ, suc, ◌+◌, ◌-◌}
use native.Mathlib.Omega.{arith}
use Rattle.bench.specs.Bench.{bench}
use Rattle.bench.specs.Run.{steps}
use Rattle.bench.specs.code.Turns.{HostAfter}
use Rattle.bench.proofs.Turned.{no_turn, one_turn, may}
use Rattle.bench.proofs.events.turns.Goals as goal

pub loop-i-init : goal.loop-i-init
loop-i-init c =
    let a = c.args in
    let none : a.w.first - a.w.first ≡ 0 = omega arith in (
      omega arith,
      subst⁻¹ (λ (n : ℕ). HostAfter (steps a.file.now a.net_table.now n (bench a.hosts.now a.copies.now a.entries.now a.slots.now a.answers.now a.w.first)) a.hosts.now a.entries.now a.slots.now a.answers.now) none
          (no_turn a.file.now a.net_table.now a.hosts.now a.copies.now a.entries.now a.slots.now a.answers.now a.w),
    )

pub event_at-requires : goal.event_at-requires
event_at-requires c =
    let a = c.args in
    let l = c.loop-i in
    let first = l.invariant.0 in
    let here : a.w.first + (l.i - a.w.first) ≡ l.i = omega arith in
    may a.file.now a.net_table.now a.hosts.now a.copies.now a.entries.now a.slots.now a.answers.now a.w c.requires (l.i - a.w.first) l.i here c.loop-i-test.true
    l.hosts l.entries l.slots l.answers l.invariant.1 l.auto.hosts l.auto.entries l.auto.slots l.auto.answers

pub loop-i-preserved : goal.loop-i-preserved
loop-i-preserved c =
    let a = c.args in
    let l = c.loop-i in
    let first = l.invariant.0 in
    let here : a.w.first + (l.i - a.w.first) ≡ l.i = omega arith in
    let more : l.i + 1 - a.w.first ≡ suc (l.i - a.w.first) = omega arith in (
      omega arith,
      subst⁻¹ (λ (n : ℕ). HostAfter (steps a.file.now a.net_table.now n (bench a.hosts.now a.copies.now a.entries.now a.slots.now a.answers.now a.w.first)) c.event_at.new.hosts c.event_at.new.entries c.event_at.new.slots c.event_at.new.answers) more
          (one_turn a.file.now a.net_table.now a.hosts.now a.copies.now a.entries.now a.slots.now a.answers.now a.w c.requires (l.i - a.w.first) l.i here c.loop-i-test.true
          l.hosts l.entries l.slots l.answers l.invariant.1 _ _ _ _ c.event_at.ensures),
    )
