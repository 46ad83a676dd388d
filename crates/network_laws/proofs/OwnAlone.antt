-- Where the own id alone is marked, and entries have the settings' marks, the mark tests pass and the one entry with a mark is the own.
use Rattle.std.specs.Prelude.{Option, Some, None, is_some}
use mathlib.Core.Path.{◌≡◌, refl, sym, ap, ◌∙◌}
use mathlib.Core.Bool.{Bool, true, false, false≢true, cond, not, ◌&&◌, and-true}
use mathlib.Core.List.{List, [], ◌∷◌}
use Prim.Native.Nat.{ℕ, zero, suc, ◌+◌, ◌-◌, ◌*◌, ◌/◌, ◌%◌, ◌≤◌, ◌<◌, ◌^◌}
use native.Mathlib.Nat.{pow-suc, pow-succ', zero-div, div-eq_of_lt, div-div-eq-div-mul}
use native.Mathlib.Omega.{arith}
use borrow.Author.Tests.{eqb-true, eqb-false, eq-eqb, ne_eqb}
use lib.Dec.{eqb}
use lib.Pow.{pow_pos}
use lib.ListN.{length, get_or, set, replicate, length-set}
use lib.Seq.{ext_get_or, get_or-set_same, get_or-set_other}
use Rattle.lists.specs.Lists.{over}
use Rattle.lists.proofs.Parts.{part_more}
use Rattle.quantity.specs.declared.Millis.{Millis}
use Rattle.answer.specs.declared.Answer.{Answer}
use Rattle.answer.specs.declared.Answer.TheVariants.{Done}
use Rattle.clock.specs.declared.Counter.{Counter}
use Rattle.route.proofs.Ids.{local_id_below}
use Rattle.table.specs.declared.Entry.{Entry}
use Rattle.table.specs.declared.entries.Change.TheVariants.{Reported}
use Rattle.table.specs.Forms.{every, up_from, map_from}
use Rattle.table.specs.Marks.{only_mark, bit, mark, marked, none_from}
use Rattle.table.specs.Entry.{fresh_entry, lives_here, as_marked}
use Rattle.table.specs.Update.{self_reported, reported_here}
use Rattle.table.specs.Runs.{changes}
use Rattle.table.proofs.Loops.{map_length}
use Rattle.host.specs.declared.Settings.{Settings}
use Rattle.host.specs.declared.guard.Scope.{Scope}
use Rattle.host.specs.declared.guard.Scope.TheVariants.{Places, All, OnLink, Opening, Walking}
use Rattle.host.specs.Settings.{own_id, found_marked, numbers_good, settings_good}
use Rattle.host.specs.State.{host_count, with_entries}
use Rattle.host.specs.CallState.{CallState, our_reading, entries_of, marks_as_set, state_in_range}
use Rattle.host.specs.Guard.{guard, done}
use Rattle.host.specs.Effect.{each}
use Rattle.host.specs.Reply.{plainly}
use Rattle.host.specs.code.Returned.{initialized}
use Rattle.host.proofs.Places.{entries_length}
use Rattle.host.proofs.Sound.{sound}
use Rattle.host.proofs.Guarded.{passed}
use Rattle.calls.specs.declared.Request.TheVariants.{Initialize, Tick, Adjust, Set, Read, Second, SelfReport, Lookup, Step}
use Rattle.calls.specs.Effects.{self_report}
use Rattle.calls.specs.Perform.{Call, ask, send, deliver, open_walk, Outcome, scope_of_call, refused, carried_out, work, perform}
use Rattle.network_laws.specs.OwnAlone.{is_own, MarksOwn, settings_unmarked, state_unmarked, guard_unmarked, own_work, own_report, work_unmarked, perform_unmarked, OwnAlone}
use Rattle.network_laws.proofs.Lists.{all_there, each_all}
use Rattle.network_laws.proofs.Performs.{guard_of, performs, there}
use Rattle.network_laws.proofs.Swept.{changes_each}
use Rattle.network_laws.proofs.Bare.{calls_bare}
use Rattle.network_laws.proofs.MarksStay.{marks_stay}
use Rattle.network_laws.proofs.Demand1.Range.{initialized_in}

-- ---- the settings

all_pass : (test : ℕ → Bool) (first n : ℕ) → ((id : ℕ) → first ≤ id → test id ≡ true) → every test (up_from first n) ≡ true
all_pass test first zero pass = refl
all_pass test first (suc n) pass = rw (pass first (omega arith), all_pass test (suc first) n (λ id l. pass id (omega (arith, l)))) refl

module _ (s : Settings) (own : MarksOwn s) where
  marks_pass : (f : Option ℕ) → own_id s ≡ f → (is_some f && found_marked s.marks f && none_from s.marks s.layout.nhosts) ≡ is_some f
  unfolding none_from
  marks_pass None is = refl
  marks_pass (Some i) is =
      let alone : (id : ℕ) → marked s.marks id ≡ eqb id i = λ id. own id ∙ ap (λ (f : Option ℕ). is_own f id) is in
      let below = local_id_below s.layout s.address i is in
      let here : marked s.marks i ≡ true = alone i ∙ eq-eqb i i refl in
      let none = all_pass (λ (id : ℕ). not (marked s.marks id)) s.layout.nhosts (256 - s.layout.nhosts)
      (λ id l. ap not (alone id ∙ ne_eqb id i (λ e. omega (arith, e, l, below)))) in
      rw (here, none) refl

  settings_same : settings_good s ≡ settings_unmarked s
  unfolding settings_good
  settings_same = ap (λ (b : Bool). numbers_good s && b) (marks_pass (own_id s) refl)

-- ---- the guard

module _ (x : CallState) (own : MarksOwn x.host.settings) where
  range_same : marks_as_set x ≡ true → state_in_range x ≡ state_unmarked x
  unfolding state_in_range
  range_same set = rw set (and-true (state_unmarked x))

  guard_same : (a : Scope) → (initialized a ≡ false → marks_as_set x ≡ true) → guard a x ≡ guard_unmarked a x
  unfolding guard
  guard_same Places set = rw (settings_same x.host.settings own) refl
  guard_same All set = rw (settings_same x.host.settings own, range_same (set refl)) refl
  guard_same (OnLink i) set = rw (settings_same x.host.settings own, range_same (set refl)) refl
  guard_same (Opening i) set = rw (settings_same x.host.settings own, range_same (set refl)) refl
  guard_same Walking set = rw (settings_same x.host.settings own, range_same (set refl)) refl

-- ---- a self-report

get_d_counted : (i : ℕ) (f : ℕ → Entry → Entry) (es : List Entry) (j : ℕ) (d : Entry) → j < length es → get_or (map_from i f es) j d ≡ f (i + j) (get_or es j d)
get_d_counted i f [] j d h = absurd (omega (arith, h))
get_d_counted i f (e ∷ es) zero d h = let z : i + 0 ≡ i = omega arith in rw z refl
get_d_counted i f (e ∷ es) (suc j) d h =
    let s : i + suc j ≡ suc i + j = omega arith in
    rw s (get_d_counted (suc i) f es j d (omega (arith, h)))

over_one : (es : List Entry) (i : ℕ) (y : Entry) → i < length es → over es i (y ∷ []) ≡ set es i y
over_one [] i y h = absurd (omega (arith, h))
over_one (e ∷ es) zero y h = refl
over_one (e ∷ es) (suc i) y h =
    let m : suc i + 1 ≡ suc (i + 1) = omega arith in
    rw m (ap (λ (l : List Entry). e ∷ l) (over_one es i y (omega (arith, h))))

-- one entry alone lives here
one_reported : (t : Millis) (own : ℕ) (es : List Entry) → own < length es
    → ((i : ℕ) → i < length es → lives_here (get_or es i fresh_entry) ≡ eqb i own)
    → map_from 0 (λ (n : ℕ) (e : Entry). reported_here t e) es ≡ set es own (self_reported t (get_or es own fresh_entry))
unfolding reported_here
one_reported t own es inside alone =
    ext_get_or fresh_entry made (set es own y) (map_length 0 f es ∙ sym (length-set es own y))
    (λ i h. (let small : i < length es = omega (arith, h, map_length 0 f es) in get_d_counted 0 f es i fresh_entry small ∙ go i small (eqb i own) refl))
  where
    f : ℕ → Entry → Entry
    f n e = reported_here t e

    made : List Entry
    made = map_from 0 f es

    y : Entry
    y = self_reported t (get_or es own fresh_entry)

    go : (i : ℕ) → i < length es → (b : Bool) → eqb i own ≡ b → f (0 + i) (get_or es i fresh_entry) ≡ get_or (set es own y) i fresh_entry
    go i h true is =
        let same = eqb-true i own is in
        rw (alone i h ∙ is, same, get_or-set_same es own y fresh_entry inside) refl
    go i h false is = rw (alone i h ∙ is, get_or-set_other es own i y fresh_entry (eqb-false i own is)) refl

module _ (x : CallState) (k : Counter) (own : MarksOwn x.host.settings) (set : marks_as_set x ≡ true) (passes : done (guard_of (ask (SelfReport k)) x) ≡ true) where
  abbrev s : Settings
  s = x.host.settings

  abbrev es : List Entry
  es = entries_of x

  abbrev t : Millis
  t = (our_reading k x.host).time

  size : length es ≡ host_count s
  size = entries_length s x.number x.entries (there (ask (SelfReport k)) x passes)

  here_is : (i : ℕ) → i < length es → lives_here (get_or es i fresh_entry) ≡ is_own (own_id s) i
  here_is i h =
      let e = all_there (λ (j : ℕ) (y : Entry). as_marked s.marks j y ≡ true) fresh_entry es (each_all (as_marked s.marks) es set) i h in
      ap (λ (n : ℕ). eqb n 1) (eqb-true _ (mark s.marks i) e) ∙ own i

  work_same : (f : Option ℕ) → own_id s ≡ f → changes (each s (Reported t)) es ≡ changes (own_work t f x) es
  unfolding changes
  work_same None is = absurd (false≢true (ap is_some (sym is) ∙ (sound s (passed All x passes).settings).own_id_lem))
  work_same (Some i) is =
      let below = local_id_below s.layout s.address i is in
      let most = (sound s (passed All x passes).settings).hosts_to in
      let inside : i < length es = omega (arith, size, below, most) in
      let n : i + 1 - i ≡ 1 = omega arith in
      changes_each (host_count s) (Reported t) s.marks es (omega (arith, size))
      ∙ one_reported t i es inside (λ j h. here_is j h ∙ ap (λ (f : Option ℕ). is_own f j) is)
      ∙ sym (over_one es i _ inside)
      ∙ rw (n, part_more i 0 es fresh_entry (omega (arith, inside))) refl

  report_same : work (ask (SelfReport k)) x ≡ carried_out (own_report k x) x
  unfolding self_report
  report_same =
      ap
      (λ (now : List Entry).
      record {
        reply = plainly Done;
        clock = (our_reading k x.host).clock;
        links = x.host.links;
        walk = x.walk;
        copy = x.copy;
        entries = with_entries x.number now x.entries;
        buffer = [];
      })
      (work_same (own_id s) refl)

-- ---- every call

module _ (x : CallState) (own : MarksOwn x.host.settings) where
  works_same : (c : Call) → (initialized (scope_of_call c) ≡ false → marks_as_set x ≡ true) → done (guard_of c x) ≡ true → work c x ≡ work_unmarked c x
  works_same (ask Initialize) set e = refl
  works_same (ask (Tick n)) set e = refl
  works_same (ask (Adjust n)) set e = refl
  works_same (ask (Set ms n)) set e = refl
  works_same (ask (Read k)) set e = refl
  works_same (ask Second) set e = refl
  works_same (ask (SelfReport k)) set e = report_same x k own (set refl) e
  works_same (ask (Lookup a)) set e = refl
  works_same (ask (Step k)) set e = refl
  works_same (send i k buffer) set e = refl
  works_same (deliver d packet) set e = refl
  works_same (open_walk i packet) set e = refl

  calls_same : (c : Call) → (initialized (scope_of_call c) ≡ false → marks_as_set x ≡ true) → perform c x ≡ perform_unmarked c x
  calls_same c set =
      performs c x (λ (o : Outcome). o ≡ after_guard (guard_of c x)) (λ no. rw no refl) (λ yes. rw yes (works_same c set yes))
      ∙ ap after_guard (guard_same x own (scope_of_call c) set)
    where
      after_guard : Answer → Outcome
      after_guard g = cond (not (done g)) (refused g c x) (work_unmarked c x)

-- ---- one mark

bit_returned : (t : Bool) → eqb (cond t 1 0) 1 ≡ t
bit_returned true = refl
bit_returned false = refl

power_bit : (a b : ℕ) → bit (2 ^ a) b ≡ cond (eqb b a) 1 0
power_bit zero zero = refl
power_bit (suc a) zero =
    let even : 2 ^ a * 2 / 1 % 2 ≡ 0 = omega arith in
    rw (pow-suc 2 a, ne_eqb 0 (suc a) (λ e. omega (arith, e))) even
power_bit zero (suc b) =
    let small : 1 < 2 ^ b * 2 = omega (arith, pow_pos b) in
    rw (pow-suc 2 b, div-eq_of_lt small, ne_eqb (suc b) 0 (λ e. omega (arith, e))) refl
power_bit (suc a) (suc b) =
    let half : 2 ^ a * 2 / 2 ≡ 2 ^ a = omega arith in
    let down : 2 ^ suc a / 2 ^ suc b ≡ 2 ^ a / 2 ^ b =
    ap (λ (m : ℕ). 2 ^ suc a / m) (pow-succ' 2 b) ∙ sym (div-div-eq-div-mul (2 ^ suc a) 2 (2 ^ b)) ∙ ap (λ (m : ℕ). m / 2 / 2 ^ b) (pow-suc 2 a) ∙ ap (λ (m : ℕ). m / 2 ^ b) half in
    ap (λ (m : ℕ). m % 2) down ∙ power_bit a b ∙ ap (λ (t : Bool). cond t 1 0) (same_eqb (eqb b a) refl)
  where
    same_eqb : (t : Bool) → eqb b a ≡ t → eqb b a ≡ eqb (suc b) (suc a)
    same_eqb true e = e ∙ sym (eq-eqb (suc b) (suc a) (ap suc (eqb-true b a e)))
    same_eqb false e = let other = eqb-false b a e in e ∙ sym (ne_eqb (suc b) (suc a) (λ q. other (omega (arith, q))))

no_word : (n i : ℕ) → ◌≡◌ {A = ℕ} (get_or (replicate n 0) i 0) 0
no_word zero i = refl
no_word (suc n) zero = refl
no_word (suc n) (suc i) = no_word n i

only_marked : (own id : ℕ) → own < 256 → marked (only_mark own) id ≡ eqb id own
unfolding mark
only_marked own id small = go (eqb (id / 64) (own / 64)) refl
  where
    word : ℕ
    word = 2 ^ (own % 64)

    go : (t : Bool) → eqb (id / 64) (own / 64) ≡ t → eqb (bit (get_or (set (replicate 4 0) (own / 64) word) (id / 64) 0) (id % 64)) 1 ≡ eqb id own
    go true e =
        let same = eqb-true (id / 64) (own / 64) e in
        let inside : own / 64 < 4 = omega (arith, small) in
        rw (same, get_or-set_same (replicate 4 0) (own / 64) word 0 inside, power_bit (own % 64) (id % 64))
        (bit_returned (eqb (id % 64) (own % 64)) ∙ rest same (eqb (id % 64) (own % 64)) refl)
      where
        rest : id / 64 ≡ own / 64 → (t : Bool) → eqb (id % 64) (own % 64) ≡ t → eqb (id % 64) (own % 64) ≡ eqb id own
        rest same true e = e ∙ sym (eq-eqb id own (let r = eqb-true (id % 64) (own % 64) e in omega (arith, same, r)))
        rest same false e = let other = eqb-false (id % 64) (own % 64) e in e ∙ sym (ne_eqb id own (λ q. other (ap (λ (m : ℕ). m % 64) q)))
    go false e =
        let other = eqb-false (id / 64) (own / 64) e in
        rw (get_or-set_other (replicate 4 0) (own / 64) (id / 64) word 0 other, no_word 4 (id / 64), zero-div (2 ^ (id % 64)))
        (sym (ne_eqb id own (λ q. other (ap (λ (m : ℕ). m / 64) q))))

pub own_alone_holds : OwnAlone
own_alone_holds =
    record {
      calls = λ c x own set. calls_same x own c set;
      blind = calls_bare;
      begins = λ x e. (initialized_in x e).marks_in;
      stays = λ c x marks. marks_stay x marks c;
      only = only_marked;
    }
