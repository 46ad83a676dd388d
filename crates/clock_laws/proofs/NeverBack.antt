-- The moves between the two readings gain the ticks, less a millisecond at most, and the counter makes up for the rest.
use mathlib.Core.Path.{◌≡◌, refl, sym, ap, ◌∙◌}
use mathlib.Core.Bool.{Bool, true, false, cond, not}
use mathlib.Core.List.{List, [], ◌∷◌, ◌++◌}
use Prim.Native.Nat.{ℕ, ◌≤◌}
use native.Mathlib.Omega.{arith}
use borrow.Author.Tests.{ltb-true, leb-true}
use lib.Dec.{leb, lit<}
use lib.ListN.{take, drop}
use lib.Signed.{◌≤ℤ◌}
use Rattle.lists.proofs.Tests.{both, is_not}
use Rattle.quantity.specs.declared.Units.{Units}
use Rattle.quantity.specs.declared.Count.{Count}
use Rattle.quantity.specs.Quantity.{units_per_milli, count_units, whole_millis, add_units, sub_millis, less_units}
use Rattle.quantity.proofs.Ints.{sum, diff, floor, lt_no, to-≤ℤ}
use Rattle.clock.specs.declared.Clock.{Clock}
use Rattle.clock.specs.declared.Counter.{Counter}
use Rattle.clock.specs.Clock.{count_used, reading, clock_in_range}
use Rattle.clock.proofs.Range.{reading_in_range_lem}
use Rattle.table.specs.Forms.{every}
use Rattle.host.specs.declared.Settings.{Settings}
use Rattle.host.specs.Settings.{settings_good}
use Rattle.host.specs.CallState.{CallState}
use Rattle.host.specs.Guard.{done}
use Rattle.host.specs.code.Returned as returned
use Rattle.host.proofs.Guarded.{passed, clock_state}
use Rattle.host.proofs.Sound.{sound}
use Rattle.calls.specs.declared.Request.TheVariants.{Initialize, Tick, Adjust, Set, Read, Second, SelfReport, Lookup, Step}
use Rattle.calls.specs.Perform.{Call, ask, send, deliver, open_walk, scope_of_call}
use Rattle.network_laws.proofs.Performs.{guard_of}
use Rattle.clock_laws.specs.Moves.{Move, reads, moved_by, work_moves, moves}
use Rattle.clock_laws.specs.Kinds.{kind, adjusts_in, ticks_in}
use Rattle.clock_laws.specs.Turns.{state_for, clock_after, moves_of, moves_of_all}
use Rattle.clock_laws.specs.NeverBack.{Readings, earlier, later, ReadsTwice, since, not_anew, by_small, date_stays, most_adjusts, most_back, not_falling, count_fits, NeverBack}
use Rattle.clock_laws.proofs.Moved.{moved_on, turns_moved, clock_moves_hold}
use Rattle.clock_laws.proofs.Along.{Gains, along}

-- ---- a call that reads has passed its guard

record Sane (x : CallState) : Type 0 where
  settings : settings_good x.host.settings ≡ true
  clock : clock_in_range x.host.clock ≡ true

module _ (x : CallState) (k : Counter) where
  scoped : (c : Call) → take 1 (work_moves c x) ≡ reads k ∷ [] → returned.initialized (scope_of_call c) ≡ false
  scoped (ask Initialize) e = absurd (let z : ◌≡◌ {A = ℕ} 0 1 = cc in omega arith)
  scoped (ask (Tick n)) e = refl
  scoped (ask (Adjust n)) e = refl
  scoped (ask (Set ms n)) e = refl
  scoped (ask (Read j)) e = refl
  scoped (ask Second) e = refl
  scoped (ask (SelfReport j)) e = refl
  scoped (ask (Lookup a)) e = refl
  scoped (ask (Step j)) e = refl
  scoped (send i j buffer) e = refl
  scoped (deliver d packet) e = refl
  scoped (open_walk i packet) e = refl

  reader : (c : Call) → take 1 (moves c x) ≡ reads k ∷ [] → Sane x
  unfolding moves
  reader c = go (done (guard_of c x)) refl
    where
      go : (b : Bool) → done (guard_of c x) ≡ b → take 1 (cond (not b) [] (work_moves c x)) ≡ reads k ∷ [] → Sane x
      go true e h = let p = passed (scope_of_call c) x e in record { settings = p.settings; clock = clock_state x (p.call_state (scoped c h)) }
      go false e h = absurd (let z : ◌≡◌ {A = ℕ} 0 1 = cc in omega arith)

-- ---- the two readings

first_rest : {A : Type 0} (l : List A) (a : A) → take 1 l ≡ a ∷ [] → l ≡ a ∷ drop 1 l
first_rest [] a e = absurd (let z : ◌≡◌ {A = ℕ} 0 1 = cc in omega arith)
first_rest (b ∷ l) a e = let same : b ≡ a = cc in ap (λ x. x ∷ l) same

module _ (y : Readings) (twice : ReadsTwice y) where
  abbrev s : Settings
  s = y.settings

  abbrev x : CallState
  x = state_for s y.clock y.first

  -- what the earlier reading's call does after it
  abbrev own : List Move
  own = drop 1 (moves_of s y.clock y.first)

  -- the clock after that call
  abbrev c : Clock
  c = clock_after s y.clock y.first

  abbrev mid : List Move
  mid = moves_of_all s c y.between

  first_after : c ≡ moved_by s own (earlier y).clock
  first_after =
      clock_moves_hold.clock y.first.call x
      ∙ ap (λ (ms : List Move). moved_by s ms y.clock) (first_rest (moves_of s y.clock y.first) (reads y.counter) twice.once)

  to_last : (later y).clock ≡ moved_by s (since y) (earlier y).clock
  to_last =
      ap (moved_by s (reads y.counter_again ∷ [])) (turns_moved s c y.between)
      ∙ sym (moved_on s mid (reads y.counter_again ∷ []) c)
      ∙ ap (moved_by s (mid ++ reads y.counter_again ∷ [])) first_after
      ∙ sym (moved_on s own (mid ++ reads y.counter_again ∷ []) (earlier y).clock)

  gains : every count_fits (reads y.counter ∷ since y) ≡ true → every (λ m. not_anew (kind m).set) (since y) ≡ true
      → every (λ m. by_small (kind m).set) (since y) ≡ true → date_stays s (earlier y).clock (since y) ≡ true
      → Gains (earlier y).clock.clock (ticks_in s (since y)) (later y).clock.clock (adjusts_in (since y))
  gains fits kept small stays =
      let its = reader x y.counter y.first.call twice.once in
      let good = sound s its.settings in
      let f = both (count_fits (reads y.counter)) _ fits in
      let start = reading_in_range_lem s.hold_interval good.hold_to y.clock its.clock s.clock_tick y.counter (ltb-true _ _ f.0) in
      rw to_last (along s good.hold_to good.tick (since y) (earlier y).clock start f.1 kept small stays)

-- a counter that with the ticks does not fall, and full milliseconds
whole : (a ticks b : Units) (adjusts : ℕ) (n m : Count) → Gains a ticks b adjusts → adjusts ≤ most_adjusts
    → less_units (add_units ticks (count_units m)) (count_units n) ≡ false
    → (sub_millis (whole_millis (add_units a (count_units n))) most_back).0 ≤ℤ (whole_millis (add_units b (count_units m))).0
whole a ticks b adjusts n m g few level =
    let u = sum a.0 (count_units n).0 in
    let v = sum b.0 (count_units m).0 in
    let w = sum ticks.0 (count_units m).0 in
    let l = lt_no (add_units ticks (count_units m)).0 (count_units n).0 level in
    let f = floor (add_units a (count_units n)).0 units_per_milli (lit< tt) in
    let k = floor (add_units b (count_units m)).0 units_per_milli (lit< tt) in
    let d = diff (whole_millis (add_units a (count_units n))).0 most_back.0 in
    to-≤ℤ _ _ (omega arith)

pub never_back_holds : NeverBack
unfolding NeverBack reading
never_back_holds y twice met =
    let fits : every count_fits (reads y.counter ∷ since y) ≡ true = cc in
    let kept : every (λ m. not_anew (kind m).set) (since y) ≡ true = cc in
    let small : every (λ m. by_small (kind m).set) (since y) ≡ true = cc in
    let few : leb (adjusts_in (since y)) most_adjusts ≡ true = cc in
    let stays : date_stays y.settings (earlier y).clock (since y) ≡ true = cc in
    let level : not_falling y ≡ true = cc in
    whole (earlier y).clock.clock (ticks_in y.settings (since y)) (later y).clock.clock (adjusts_in (since y)) (count_used y.counter) (count_used y.counter_again)
    (gains y twice fits kept small stays) (leb-true _ _ few) (is_not _ level)
