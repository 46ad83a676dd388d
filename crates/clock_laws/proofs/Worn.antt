-- Midnight moves CLOCK by full days and keeps DELTA. So without a set only adjusts change DELTA.
use mathlib.Core.Path.{◌≡◌, refl, ap, ◌∙◌}
use mathlib.Core.Bool.{Bool, true, false, cond, not, ◌&&◌, false≢true}
use mathlib.Core.List.{List, [], ◌∷◌}
use Prim.Native.Nat.{ℕ, zero, suc, ◌+◌, ◌^◌}
use native.Mathlib.Omega.{arith}
use lib.Dec.{lit<}
use lib.IntN.{ℤ, pos, negsuc, ◌+ℤ◌, ◌*ℤ◌}
use Rattle.lists.proofs.Tests.{either, both}
use Rattle.quantity.specs.declared.Units.{Units}
use Rattle.quantity.specs.declared.Seconds.{Seconds}
use Rattle.quantity.specs.declared.Count.{Count}
use Rattle.quantity.specs.Quantity.{units, to_units, add_units, sub_units, div_units}
use Rattle.quantity.proofs.Ints.{up, same, sum, Diff, diff, times, Floor, floor}
use Rattle.calendar.specs.Date.{real, awaited}
use Rattle.clock.specs.declared.Clock.{Clock}
use Rattle.clock.specs.Midnight.{day, days_away, exceeds_day, day_on, below_zero, day_back, days_on, days_back, midnight}
use Rattle.clock.specs.Clock.{adjust_fraction, tick, adjust, set_by, marked, reading, hold_second}
use Rattle.clock.proofs.While.{keeps}
use Rattle.host.specs.declared.Settings.{Settings}
use Rattle.clock_laws.specs.Moves.{Move, reads, ticks, adjusts, sets, dates, second, initialized, moved, moved_by}
use Rattle.clock_laws.specs.Kinds.{kind, adjusts_in}
use Rattle.clock_laws.specs.Turns.{state_for}
use Rattle.clock_laws.specs.Slewed.{setless, no_set, days, Slew, SetsOnce, clock_set, moves_after, delta_remaining}
use Rattle.clock_laws.specs.Lasts.{worn}
use Rattle.clock_laws.proofs.Moved.{moved_on, turns_moved, clock_moves_hold}
use Rattle.clock_laws.proofs.Along.{small_slews}

-- ---- midnight

-- d is c some days on or back
pub record Days (c d : Clock) : Type 0 where
  pub moved_days : ℤ
  pub clock : d.clock ≡ add_units c.clock (days moved_days)
  pub delta : d.delta ≡ c.delta

-- in integers, of which D is a day's
abbrev pub D : ℕ
D = up day.0

further : (k z u : ℤ) → (k +ℤ z *ℤ pos D) +ℤ u *ℤ pos D ≡ k +ℤ (z +ℤ u) *ℤ pos D
further k z u =
    same _ _
    (omega (arith, sum k (z *ℤ pos D), sum (k +ℤ z *ℤ pos D) (u *ℤ pos D), sum z u, sum k ((z +ℤ u) *ℤ pos D), times z D, times u D, times (z +ℤ u) D))

module _ (h : Seconds) (c : Clock) where
  day_on_lem : (d : Clock) → Days c d → Days c (day_on h d)
  unfolding day_on
  day_on_lem d p =
      let z : ℤ = p.moved_days in
      let u : ℤ = negsuc 0 in
      record { moved_days = z +ℤ u; clock = ap (λ (k : Units). sub_units k day) p.clock ∙ ap units (further c.clock.0 z u); delta = p.delta }

  day_back_lem : (d : Clock) → Days c d → Days c (day_back h d)
  unfolding day_back
  day_back_lem d p =
      let z : ℤ = p.moved_days in
      let u : ℤ = pos 1 in
      record { moved_days = z +ℤ u; clock = ap (λ (k : Units). add_units k day) p.clock ∙ ap units (further c.clock.0 z u); delta = p.delta }

  none : Days c c
  none = record { moved_days = pos 0; clock = ap units (same _ _ (omega (arith, sum c.clock.0 (pos 0 *ℤ pos D)))); delta = refl }

  pub midnight_days : (n : Count) → Days c (midnight h n c)
  unfolding midnight days_on days_back
  midnight_days n =
      keeps (Days c) (days_away n) (below_zero n) (day_back h) (λ d _. day_back_lem d) (days_on h n c)
      (keeps (Days c) (days_away n) (exceeds_day n) (day_on h) (λ d _. day_on_lem d) c none)

-- ---- DELTA

-- what an adjust takes off, and what remains
abbrev off : Units → ℤ
off d = (div_units d (2 ^ adjust_fraction)).0

pub wear : (d : Units) → Floor (2 ^ adjust_fraction) d.0 (off d) × Diff d.0 (off d) (worn d).0
wear d = (floor d.0 (2 ^ adjust_fraction) (lit< tt), diff d.0 (off d))

abbrev pub worn_by : ℕ → Units → Units
worn_by zero d = d
worn_by (suc n) d = worn_by n (worn d)

module _ (s : Settings) where
  abbrev h : Seconds
  h = s.hold_interval

  pub delta_moved : (m : Move) (c : Clock) → setless (kind m).set ≡ true → (moved s m c).delta ≡ cond (kind m).adjust (worn c.delta) c.delta
  unfolding tick adjust reading hold_second
  delta_moved (reads k) c e = (midnight_days h _ _).delta ∙ either (λ (d : Clock). d.delta ≡ c.delta) (marked k) _ _ (λ _. refl) (λ _. refl)
  delta_moved (ticks n) c e = (midnight_days h _ n).delta
  delta_moved (adjusts n) c e = (midnight_days h _ n).delta
  delta_moved (sets n m) c e = absurd (false≢true e)
  delta_moved (dates d) c e = either (λ (x : Clock). x.delta ≡ c.delta) (real d && not (awaited d)) _ _ (λ _. refl) (λ _. refl)
  delta_moved second c e = refl
  delta_moved initialized c e = absurd (false≢true e)

  pub delta_worn : (ms : List Move) (c : Clock) → no_set ms ≡ true → (moved_by s ms c).delta ≡ worn_by (adjusts_in ms) c.delta
  delta_worn [] c e = refl
  delta_worn (m ∷ ms) c e =
      let b = both (setless (kind m).set) _ e in
      delta_worn ms (moved s m c) b.1 ∙ ap (worn_by (adjusts_in ms)) (delta_moved m c b.0) ∙ go (kind m).adjust
    where
      go : (b : Bool) → worn_by (adjusts_in ms) (cond b (worn c.delta) c.delta) ≡ worn_by (cond b 1 0 + adjusts_in ms) c.delta
      go true = let one : suc (adjusts_in ms) ≡ 1 + adjusts_in ms = omega arith in ap (λ (n : ℕ). worn_by n c.delta) one
      go false = let none : adjusts_in ms ≡ 0 + adjusts_in ms = omega arith in ap (λ (n : ℕ). worn_by n c.delta) none

-- ---- a slew

module _ (y : Slew) (o : SetsOnce y) where
  abbrev s : Settings
  s = y.settings

  -- the set replaces DELTA
  pub set_delta : (clock_set y).delta ≡ to_units y.amount
  unfolding set_by
  set_delta =
      ap (λ (c : Clock). c.delta)
      (clock_moves_hold.clock y.first.call (state_for s y.clock y.first)
      ∙ ap (λ (ms : List Move). moved_by s ms y.clock) o.its_moves
      ∙ moved_on s o.before (sets o.count y.amount ∷ []) y.clock)
      ∙ (midnight_days s.hold_interval _ o.count).delta
      ∙ rw (small_slews y.amount o.is_small)

  pub after_worn : delta_remaining y ≡ worn_by (adjusts_in (moves_after y)) (to_units y.amount)
  after_worn =
      ap (λ (c : Clock). c.delta) (turns_moved s (clock_set y) y.after)
      ∙ delta_worn s (moves_after y) (clock_set y) o.no_other
      ∙ ap (worn_by (adjusts_in (moves_after y))) set_delta
