-- An adjust moves its share from DELTA to CLOCK, and a midnight moves CLOCK by full days. So what the adjusts added and what DELTA lost are the same except for days.
use mathlib.Core.Path.{◌≡◌, refl, sym, ap, subst, ◌∙◌}
use mathlib.Core.Bool.{true, false≢true}
use mathlib.Core.List.{List, [], ◌∷◌}
use Prim.Native.Nat.{ℕ, zero, suc}
use native.Mathlib.Omega.{arith}
use lib.IntN.{ℤ, pos, neg_ℤ, ◌+ℤ◌, ◌-ℤ◌, ◌*ℤ◌}
use Rattle.lists.proofs.Tests.{both}
use Rattle.quantity.specs.declared.Units.{Units}
use Rattle.quantity.specs.declared.Count.{Count}
use Rattle.quantity.specs.Quantity.{units, add_units, sub_units}
use Rattle.quantity.proofs.Ints.{one, same, sum, diff, neg, times, abs, of-≤ℤ, to-≤ℤ}
use Rattle.clock.specs.declared.Clock.{Clock}
use Rattle.clock.specs.Midnight.{day}
use Rattle.clock.specs.Clock.{adjust, share}
use Rattle.host.specs.declared.Settings.{Settings}
use Rattle.clock_laws.specs.Moves.{Move, reads, ticks, adjusts, sets, dates, second, initialized, moved, moved_by}
use Rattle.clock_laws.specs.Kinds.{kind, adjusts_in}
use Rattle.clock_laws.specs.Turns.{moves_of_all}
use Rattle.clock_laws.specs.Slewed.{setless, no_set, gain, gained, ButForDays, Shrinks, clock_set, moves_after, delta_remaining, Slewed}
use Rattle.clock_laws.specs.Lasts.{worn}
use Rattle.clock_laws.proofs.Moved.{turns_moved}
use Rattle.clock_laws.proofs.Worn.{D, midnight_days, wear, worn_by, delta_moved, delta_worn, set_delta}

-- ---- the sum

share_goes : (k d f z : ℤ) → ((((k +ℤ f) +ℤ z *ℤ pos D) -ℤ k) +ℤ (d -ℤ f)) +ℤ neg_ℤ z *ℤ pos D ≡ d
share_goes k d f z =
    let a : ℤ = k +ℤ f in
    let b : ℤ = a +ℤ z *ℤ pos D in
    let g : ℤ = (b -ℤ k) +ℤ (d -ℤ f) in
    same _ _
    (omega (arith, sum k f, sum a (z *ℤ pos D), diff b k, diff d f, sum (b -ℤ k) (d -ℤ f), sum g (neg_ℤ z *ℤ pos D), times z D, neg z, times (neg_ℤ z) D))

-- an adjust adds its share, and some days
adjusted : (s : Settings) (n : Count) (c : Clock) → ButForDays (add_units (gain s c (adjusts n)) (moved s (adjusts n) c).delta) c.delta
unfolding adjust
adjusted s n c =
    let p = midnight_days s.hold_interval record { clock = add_units c.clock (share c); delta = sub_units c.delta (share c); hold = c.hold; date = c.date } n in
    let z : ℤ = p.moved_days in
    let clock_is : (moved s (adjusts n) c).clock.0 ≡ (c.clock.0 +ℤ (share c).0) +ℤ z *ℤ day.0 = ap (λ (u : Units). u.0) p.clock in
    let delta-is : (moved s (adjusts n) c).delta.0 ≡ c.delta.0 -ℤ (share c).0 = ap (λ (u : Units). u.0) p.delta in
    record { whole_days = neg_ℤ z; same = ap units (rw (clock_is, delta-is) (share_goes c.clock.0 c.delta.0 (share c).0 z)) }

days_add : (a b e z w : ℤ) → ((a +ℤ b) +ℤ e) +ℤ (z +ℤ w) *ℤ pos D ≡ (a +ℤ ((b +ℤ e) +ℤ w *ℤ pos D)) +ℤ z *ℤ pos D
days_add a b e z w =
    let l : ℤ = (a +ℤ b) +ℤ e in
    let r : ℤ = (b +ℤ e) +ℤ w *ℤ pos D in
    same _ _
    (omega (arith, sum a b, sum (a +ℤ b) e, sum z w, times (z +ℤ w) D, sum l ((z +ℤ w) *ℤ pos D), sum b e, times w D, sum (b +ℤ e) (w *ℤ pos D), sum a r, times z D, sum (a +ℤ r) (z *ℤ pos D)))

-- nothing is added, and DELTA stays
kept : (a b : Units) → a ≡ b → ButForDays (add_units (units (pos 0)) a) b
kept a b e =
    let is : a.0 ≡ b.0 = ap (λ (u : Units). u.0) e in
    record {
      whole_days = pos 0;
      same = ap units (rw is (same _ _ (omega (arith, sum (pos 0) b.0, sum (pos 0 +ℤ b.0) (pos 0 *ℤ day.0)))));
    }

-- a list's first move, and the rest
joined : (a b d e f : Units) → ButForDays (add_units a d) f → ButForDays (add_units b e) d → ButForDays (add_units (add_units a b) e) f
joined a b d e f p q =
    let z : ℤ = p.whole_days in
    let w : ℤ = q.whole_days in
    let first : (a.0 +ℤ d.0) +ℤ z *ℤ day.0 ≡ f.0 = ap (λ (u : Units). u.0) p.same in
    let rest : (b.0 +ℤ e.0) +ℤ w *ℤ day.0 ≡ d.0 = ap (λ (u : Units). u.0) q.same in
    record { whole_days = z +ℤ w; same = ap units (days_add a.0 b.0 e.0 z w ∙ ap (λ (x : ℤ). (a.0 +ℤ x) +ℤ z *ℤ pos D) rest ∙ first) }

module _ (s : Settings) where
  -- any move without a set
  step : (m : Move) (c : Clock) → setless (kind m).set ≡ true → ButForDays (add_units (gain s c m) (moved s m c).delta) c.delta
  step (reads k) c e = kept _ _ (delta_moved s (reads k) c e)
  step (ticks n) c e = kept _ _ (delta_moved s (ticks n) c e)
  step (adjusts n) c e = adjusted s n c
  step (sets n m) c e = absurd (false≢true e)
  step (dates d) c e = kept _ _ (delta_moved s (dates d) c e)
  step second c e = kept _ _ (delta_moved s second c e)
  step initialized c e = absurd (false≢true e)

  along : (ms : List Move) (c : Clock) → no_set ms ≡ true → ButForDays (add_units (gained s c ms) (moved_by s ms c).delta) c.delta
  along [] c e = kept _ _ refl
  along (m ∷ ms) c e =
      let b = both (setless (kind m).set) _ e in
      joined (gain s c m) (gained s (moved s m c) ms) (moved s m c).delta (moved_by s ms (moved s m c)).delta c.delta (step m c b.0) (along ms (moved s m c) b.1)

-- ---- the size

worn_shrinks : (d : Units) → Shrinks d (worn d)
worn_shrinks d =
    let w = wear d in
    let o = one d.0 in
    record {
      smaller = omega (arith, abs d.0, abs (worn d).0, one (worn d).0);
      stays_positive = λ h. to-≤ℤ _ _ (omega (arith, of-≤ℤ h));
      stays_negative = λ h. to-≤ℤ _ _ (omega (arith, of-≤ℤ h));
    }

pub shrinks_by : (n : ℕ) (d : Units) → Shrinks d (worn_by n d)
shrinks_by zero d = record { smaller = omega arith; stays_positive = λ h. h; stays_negative = λ h. h }
shrinks_by (suc n) d =
    let a = worn_shrinks d in
    let b = shrinks_by n (worn d) in
    record {
      smaller = omega (arith, a.smaller, b.smaller);
      stays_positive = λ h. b.stays_positive (a.stays_positive h);
      stays_negative = λ h. b.stays_negative (a.stays_negative h);
    }

pub slewed_holds : Slewed
slewed_holds =
    record {
      sum = λ y o.
          let s : Settings = y.settings in
          let c : Clock = clock_set y in
          let left : delta_remaining y ≡ (moved_by s (moves_after y) c).delta = ap (λ (d : Clock). d.delta) (turns_moved s c y.after) in
          subst (λ (u : Units). ButForDays (add_units (gained s c (moves_after y)) (delta_remaining y)) u) (set_delta y o)
          (subst (λ (u : Units). ButForDays (add_units (gained s c (moves_after y)) u) c.delta) (sym left) (along s (moves_after y) c o.no_other));
      shrinks = λ s c ts e.
          subst (Shrinks c.delta) (sym (ap (λ (d : Clock). d.delta) (turns_moved s c ts) ∙ delta_worn s (moves_of_all s c ts) c e))
          (shrinks_by (adjusts_in (moves_of_all s c ts)) c.delta);
    }
