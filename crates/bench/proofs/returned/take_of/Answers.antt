-- The label of the slot names the cable, and the packet goes to its other end.
-- it is filled
use mathlib.Core.Path.{◌≡◌, sym, ◌∙◌, ap, subst⁻¹}
use mathlib.Core.Bool.{false, true≢false}
use mathlib.Core.List.{List}
use Prim.Native.Nat.{ℕ, ◌-◌, ◌≤◌, ◌<◌}
use native.Mathlib.Omega.{arith}
use borrow.Author.Tests.{eq-eqb}
use Rattle.bench_file.specs.declared.End.{End}
use Rattle.bench.specs.declared.slots.Label.{Label}
use Rattle.bench.specs.Slots.{label_of, empty}
use Rattle.bench.proofs.Named.{end_host, named}
use Rattle.bench.proofs.returned.take_of.Goals as goal

some-length : (n : ℕ) (octets : List ℕ) (l : Label) → l ≡ label_of n octets → empty n octets ≡ false → l.length ≡ 0 → ⊥
some-length n octets l is e z = true≢false (sym (eq-eqb (label_of n octets).length 0 (ap (λ (l : Label). l.length) (sym is) ∙ z)) ∙ e)

pub overflow_sub-l : goal.overflow_sub-l
overflow_sub-l c = let label = c.label_at-l in
    let n = named c.args.w.header c.args.octets.now c.requires.3 c.args.x.slot c.requires.4 label.result label.ensures (some-length c.args.x.slot c.args.octets.now label.result label.ensures c.requires.5) in
    let end : label.result.end ≤ 1 = n.3 in
    omega (arith, end)

pub end_at-e-requires : goal.end_at-e-requires
end_at-e-requires c = let label = c.label_at-l in
    let n = named c.args.w.header c.args.octets.now c.requires.3 c.args.x.slot c.requires.4 label.result label.ensures (some-length c.args.x.slot c.args.octets.now label.result label.ensures c.requires.5) in
    (c.requires.0, n.2, omega arith)

pub settings_at-s-requires : goal.settings_at-s-requires
settings_at-s-requires c = let label = c.label_at-l in
    let n = named c.args.w.header c.args.octets.now c.requires.3 c.args.x.slot c.requires.4 label.result label.ensures (some-length c.args.x.slot c.args.octets.now label.result label.ensures c.requires.5) in (
      c.requires.0,
      subst⁻¹ (λ (e : End). e.host < c.args.w.header.hosts) c.end_at-e.ensures
          (end_host c.args.file.now c.args.w.header c.requires.1 label.result.cable (1 - label.result.end) n.2 (omega arith)),
    )
