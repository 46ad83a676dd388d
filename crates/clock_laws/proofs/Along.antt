-- Where DATE stays, no midnight passes. Then a tick adds CLOCK-TICK, an adjust takes a millisecond at most, and no other move changes CLOCK; so along a list CLOCK gains at least its ticks less a millisecond for each adjust.
use mathlib.Core.Path.{◌≡◌, refl, sym, subst}
use mathlib.Core.Bool.{Bool, true, false, cond, not, ◌&&◌, false≢true}
use mathlib.Core.List.{List, [], ◌∷◌}
use Prim.Native.Nat.{ℕ, ◌+◌, ◌*◌, ◌≤◌, ◌<◌, ◌^◌}
use native.Mathlib.Omega.{arith}
use borrow.Author.Tests.{ltb-true}
use lib.IntN.{pos}
use Rattle.lists.proofs.Tests.{either, both, is_not}
use Rattle.quantity.specs.declared.Units.{Units}
use Rattle.quantity.specs.declared.Millis.{Millis}
use Rattle.quantity.specs.declared.Seconds.{Seconds}
use Rattle.quantity.specs.declared.Count.{Count}
use Rattle.quantity.specs.Quantity.{units, units_per_milli, count_units, to_units, less_millis}
use Rattle.quantity.proofs.Ints.{up, dn, sum, lt_no, not_lt}
use Rattle.calendar.specs.declared.Date.{Date}
use Rattle.calendar.specs.Date.{real, awaited}
use Rattle.clock.specs.declared.Clock.{Clock}
use Rattle.clock.specs.Midnight.{midnight}
use Rattle.clock.specs.Clock.{moved_on, tick, adjust, share, slew_least, slew_most, slews, set_by, marked, count_used, overflowed, reading, hold_second, tick_most, tick_in_range, clock_in_range}
use Rattle.clock.proofs.Bounds.{range_says, tick_says}
use Rattle.clock.proofs.Turns.{count_up, count_not_below}
use Rattle.clock.proofs.Slew.{share_small}
use Rattle.clock.proofs.Range.{tick_in_range_lem, adjust_in_range, set_in_range, reading_in_range_lem, second_in_range}
use Rattle.table.specs.Forms.{every}
use Rattle.table.proofs.Kept.{date_in_range}
use Rattle.host.specs.declared.Settings.{Settings}
use Rattle.clock_laws.specs.Moves.{Move, reads, ticks, adjusts, sets, dates, second, initialized, moved, moved_by}
use Rattle.clock_laws.specs.Kinds.{kind, adjusts_in, tick_of, ticks_in}
use Rattle.clock_laws.specs.NeverBack.{set_least, set_most, small, not_anew, by_small, same_day, date_stays, count_fits}
use Rattle.clock_laws.proofs.SameDay.{no_midnight}

-- a set of the law slews
pub small_slews : (m : Millis) → small m ≡ true → slews m ≡ true
small_slews m e =
    let b = both (not (less_millis m set_least)) (not (less_millis set_most m)) e in
    let low = lt_no m.0 set_least.0 (is_not _ b.0) in
    let high = lt_no set_most.0 m.0 (is_not _ b.1) in
    rw (not_lt m.0 slew_least.0 (omega arith), not_lt slew_most.0 m.0 (omega arith))

-- ---- one move

-- b is at least a and what ticks add, less a millisecond for each adjust
pub record Gains (a ticks b : Units) (adjusts : ℕ) : Type 0 where
  pub at_least : up a.0 + up ticks.0 + dn b.0 ≤ up b.0 + dn a.0 + dn ticks.0 + units_per_milli * adjusts

module _ (s : Settings) (hold-few : s.hold_interval.0 ≤ 255) (tick_good : tick_in_range s.clock_tick ≡ true) where
  abbrev h : Seconds
  h = s.hold_interval

  abbrev t : Units
  t = s.clock_tick

  -- a clock d that a move makes of c, before midnight is tested
  record Alters (c : Clock) (ticks : Units) (adjusts : ℕ) (d : Clock) : Type 0 where
    dated : d.date ≡ c.date
    low : dn d.clock.0 ≤ dn c.clock.0 + units_per_milli
    high : up d.clock.0 ≤ up c.clock.0 + up (to_units tick_most).0
    gains : Gains c.clock ticks d.clock adjusts

  -- CLOCK as it was, with any DELTA
  unaltered : (c : Clock) (delta : Units) → Alters c (units (pos 0)) 0 record { clock = c.clock; delta = delta; hold = c.hold; date = c.date }
  unaltered c delta = record { dated = refl; low = omega arith; high = omega arith; gains = record { at_least = omega arith } }

  ticked : (c : Clock) → Alters c t 0 (moved_on t c)
  ticked c =
      let k = tick_says t tick_good in
      let u = sum c.clock.0 t.0 in
      record { dated = refl; low = omega arith; high = omega arith; gains = record { at_least = omega arith } }

  overflows : (b : Bool) (c : Clock) → Alters c (cond b t (units (pos 0))) 0 (cond b (moved_on t c) c)
  overflows true c = ticked c
  overflows false c = unaltered c c.delta

  -- where the date stays, midnight does nothing to it
  settles : (c : Clock) → clock_in_range c ≡ true → (n : Count) → n.0 < 2 ^ 16 → {ticks : Units} {adjusts : ℕ} (d : Clock) → Alters c ticks adjusts d
      → same_day c.date (midnight h n d).date ≡ true → Gains c.clock ticks (midnight h n d).clock adjusts
  settles c e n few d a same =
      let r = range_says c e in
      let k = sum d.clock.0 (count_units n).0 in
      let rest : midnight h n d ≡ d =
      no_midnight h n d (subst (λ (a : Date). real a ≡ true) (sym a.dated) r.rest.dated)
      record { near_low = omega (arith, count_not_below n); near_high = omega (arith, count_up n few) }
      (subst (λ (a : Date). same_day a (midnight h n d).date ≡ true) (sym a.dated) same) in
      rw rest a.gains

  record Step (m : Move) (c : Clock) : Type 0 where
    in_range : clock_in_range (moved s m c) ≡ true
    gains : Gains c.clock (tick_of s m) (moved s m c).clock (cond (kind m).adjust 1 0)

  step : (m : Move) (c : Clock) → clock_in_range c ≡ true → count_fits m ≡ true → not_anew (kind m).set ≡ true → by_small (kind m).set ≡ true
      → same_day c.date (moved s m c).date ≡ true → Step m c
  unfolding tick adjust set_by reading hold_second
  step (reads k) c e fits a b same =
      let few : (count_used k).0 < 2 ^ 16 = ltb-true _ _ fits in
      record { in_range = reading_in_range_lem h hold-few c e t k few; gains = settles c e (count_used k) few (overflowed t k c) (overflows (marked k) c) same }
  step (ticks n) c e fits a b same =
      let few : n.0 < 2 ^ 16 = ltb-true _ _ fits in
      record { in_range = tick_in_range_lem h hold-few c e n few t; gains = settles c e n few (moved_on t c) (ticked c) same }
  step (adjusts n) c e fits a b same =
      let few : n.0 < 2 ^ 16 = ltb-true _ _ fits in
      let k = share_small c e in
      let u = sum c.clock.0 (share c).0 in
      record {
        in_range = adjust_in_range h hold-few c e n few;
        gains = settles c e n few _ record { dated = refl; low = omega arith; high = omega arith; gains = record { at_least = omega arith } } same;
      }
  step (sets n m) c e fits a b same =
      let few : n.0 < 2 ^ 16 = ltb-true _ _ fits in
      record {
        in_range = set_in_range h hold-few c e n few m;
        gains = settles c e n few _ (rw (small_slews m b) (unaltered c (to_units m))) same;
      }
  step (dates d) c e fits a b same =
      record {
        in_range = date_in_range d c e;
        gains = either (λ (x : Clock). Gains c.clock (units (pos 0)) x.clock 0) (real d && not (awaited d)) _ _ (λ _. (unaltered c c.delta).gains) (λ _. (unaltered c c.delta).gains);
      }
  step second c e fits a b same = record { in_range = second_in_range c e; gains = (unaltered c c.delta).gains }
  step initialized c e fits a b same = absurd (false≢true a)

  -- ---- a list of moves

  pub along : (ms : List Move) (c : Clock) → clock_in_range c ≡ true → every count_fits ms ≡ true → every (λ m. not_anew (kind m).set) ms ≡ true
      → every (λ m. by_small (kind m).set) ms ≡ true → date_stays s c ms ≡ true
      → Gains c.clock (ticks_in s ms) (moved_by s ms c).clock (adjusts_in ms)
  along [] c e fits a b d = record { at_least = omega arith }
  along (m ∷ ms) c e fits a b d =
      let f = both (count_fits m) _ fits in
      let a₂ = both (not_anew (kind m).set) _ a in
      let b₂ = both (by_small (kind m).set) _ b in
      let d₂ = both (same_day c.date (moved s m c).date) _ d in
      let here = step m c e f.0 a₂.0 b₂.0 d₂.0 in
      let rest = along ms (moved s m c) here.in_range f.1 a₂.1 b₂.1 d₂.1 in
      let u = sum (tick_of s m).0 (ticks_in s ms).0 in
      record { at_least = omega (arith, here.gains, rest) }
