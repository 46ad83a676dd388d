-- A walk that was opened holds, at each box, what the guard asks of it there: no box before its end is refused with 12.
use Rattle.std.specs.Prelude.{Option, Some, None}
use mathlib.Core.Path.{◌≡◌, refl, ap}
use mathlib.Core.Bool.{true, false, false≢true, not, ◌&&◌, ◌||◌}
use mathlib.Core.List.{List}
use Prim.Native.Nat.{ℕ, ◌+◌, ◌≤◌, ◌<◌, ◌^◌}
use native.Mathlib.Omega.{arith}
use borrow.Author.Tests.{lt-ltb, ltb-true}
use lib.Dec.{ltb, eqb}
use lib.IntN.{pos, ◌+ℤ◌}
use Rattle.lists.proofs.Tests.{either, both, neither, is_so}
use Rattle.quantity.specs.declared.Millis.{Millis}
use Rattle.quantity.specs.Quantity.{less_millis}
use Rattle.quantity.specs.Words.{to_word, of_word}
use Rattle.quantity.proofs.Ints.{up as above, dn, sum, lt_no, not_lt}
use Rattle.quantity.proofs.Wrap.{wrap_range}
use Rattle.clock.specs.declared.Clock.{Clock}
use Rattle.clock.specs.declared.Counter.{Counter}
use Rattle.clock.specs.Clock.{count_used}
use Rattle.wire.specs.declared.Address.{Address}
use Rattle.wire.specs.declared.Packet.{Packet}
use Rattle.wire.specs.Hello.{report_at}
use Rattle.wire.specs.Packet.{hello_of}
use Rattle.net_table.specs.declared.NetTable.{NetTable}
use Rattle.table.specs.declared.Entry.{Entry}
use Rattle.table.specs.declared.Update.{Update}
use Rattle.table.specs.declared.entries.Changes.{Changes}
use Rattle.table.specs.Forms.{Stage, on, end}
use Rattle.table.specs.Entry.{min_delay, max_delay, up, taken_down}
use Rattle.table.specs.Update.{line_a, line_b, line_c}
use Rattle.table.proofs.Ranges.{reading_in}
use Rattle.host.specs.declared.Effect.{Effect}
use Rattle.host.specs.declared.Settings.{Settings}
use Rattle.host.specs.declared.walk.Walk.{Walk}
use Rattle.host.specs.declared.walk.Place.{Place}
use Rattle.host.specs.declared.walk.Place.TheVariants.{Step1, Step2, Step3, Step4, Step5, LineA, LineB, LineC, LineD}
use Rattle.host.specs.Settings.{found_for}
use Rattle.host.specs.State.{host_count, broadcast, link_of}
use Rattle.host.specs.declared.Links.{Links}
use Rattle.host.specs.declared.Host.{Host}
use Rattle.host.specs.CallState.{host}
use Rattle.host.specs.Walk.{is_open, no_walk, place_of, line_update, reading_in_range, id_in_range, walk_fields_at}
use Rattle.host.specs.Effect.{nothing}
use Rattle.arrival.specs.declared.Flight.{Flight}
use Rattle.arrival.specs.Steps.{step4, at_least_min}
use Rattle.walk.proofs.HostReply.{Fits16, word_back, raised_fits}
use Rattle.walk.specs.Boxes.{at, onward, in_flight, raised, fourth, to_neighbor, next_id, put, at_line, is_clock_host, clock_set, after_a, after_b, after_c, box1, box2, box3, box4, box5, box_a, box_b, box_c, box_d, box_at}

module _ (s : Settings) (p : Packet) (octets : List ℕ) where
  -- at a line: our reading, an id of the host, and a DELAY that step 5 has raised
  pub record Lined (w : Walk) : Type 0 where
    pub reading : reading_in_range w ≡ true
    pub id : id_in_range s w ≡ true
    pub delay : (dn w.delay.0 ≤ 0) × (100 ≤ above w.delay.0)

  abbrev pub Holds : Option Place → Walk → Type 0
  Holds None w = ⊥
  Holds (Some Step1) w = ◌≡◌ {A = ℕ} 0 0
  Holds (Some Step2) w = reading_in_range w ≡ true
  Holds (Some Step3) w = reading_in_range w ≡ true
  Holds (Some Step4) w = reading_in_range w ≡ true
  Holds (Some Step5) w = (reading_in_range w ≡ true) × Fits16 (of_word w.delay)
  Holds (Some LineA) w = Lined w
  Holds (Some LineB) w = Lined w
  Holds (Some LineC) w = Lined w × (less_millis (line_update w p octets).delay max_delay ≡ true)
  Holds (Some LineD) w = Lined w

  -- what a line stores is no less than what is held
  enough : (w : Walk) → Lined w → less_millis (line_update w p octets).delay min_delay ≡ false
  unfolding report_at
  enough w h =
      let R = (report_at (hello_of octets) w.id).delay.0 in
      either (λ (u : Update). less_millis u.delay min_delay ≡ false) (eqb p.nhosts 0) _ _
      (λ _. not_lt w.delay.0 (pos 100) (omega (arith, h.delay)))
      (λ _. not_lt (w.delay.0 +ℤ R) (pos 100) (omega (arith, h.delay, sum w.delay.0 R)))

  -- so the guard's test of it is passed
  pub passes : (q : Option Place) (w : Walk) → Holds q w → walk_fields_at q s w p octets ≡ true
  passes None w h = absurd h
  passes (Some Step1) w h = refl
  passes (Some Step2) w h = h
  passes (Some Step3) w h = h
  passes (Some Step4) w h = h
  passes (Some Step5) w h = h.0
  passes (Some LineA) w h = rw (h.reading, h.id) refl
  passes (Some LineB) w h = rw (h.reading, h.id) refl
  passes (Some LineC) w h = rw (h.0.reading, h.0.id, enough w h.0, h.1) refl
  passes (Some LineD) w h = rw (h.reading, h.id) refl

  -- a walk behind a box: closed, or holding what its place asks, of the same link and packet
  pub record Goes (k : Counter) (w₀ w : Walk) : Type 0 where
    pub still : is_open w ≡ true → Holds (place_of w) w
    pub link : is_open w ≡ true → w.link ≡ w₀.link
    pub length : is_open w ≡ true → w.length ≡ w₀.length
    pub few : is_open w ≡ true → w₀.count.0 < 2 ^ 16 → (count_used k).0 < 2 ^ 16 → w.count.0 < 2 ^ 16

  closed : (k : Counter) (w : Walk) → Goes k w no_walk
  closed k w =
      record { still = λ e. absurd (false≢true e); link = λ e. absurd (false≢true e); length = λ e. absurd (false≢true e); few = λ e. absurd (false≢true e) }

  word_fits : (m : Millis) → Fits16 (of_word (to_word m))
  word_fits m = let w = wrap_range 16 (omega arith) m.0 in record { above = w.0; below = w.1 }

  -- DELAY as step 5 raises it
  raised_held : (w : Walk) → Fits16 (of_word w.delay) → (dn (raised w).delay.0 ≤ 0) × (100 ≤ above (raised w).delay.0)
  raised_held w f =
      let m : Millis = at_least_min (of_word w.delay) in
      let back : (raised w).delay.0 ≡ m.0 = ap (λ (d : Millis). d.0) (word_back m (raised_fits (of_word w.delay) f)) in
      rw back
      (either (λ (d : Millis). (dn d.0 ≤ 0) × (100 ≤ above d.0)) (less_millis (of_word w.delay) min_delay) _ _ (λ _. (omega arith, omega arith))
      (λ t. (let l = lt_no w.delay.0 min_delay.0 t in (omega arith, omega arith))))

  module _ (k : Counter) (c : Clock) (l : Links) (w : Walk) where
    abbrev Onward : Walk → Type 0
    Onward = Goes k w

    abbrev h : Host
    h = host s c l

    -- an id of the host
    at_id : (m j : ℕ) → Lined w → ltb j s.layout.nhosts ≡ true → Lined (at 5 m j w)
    at_id m j g below = record { reading = g.reading; id = below; delay = g.delay }

    next : (d : Clock) (work : Changes) → Lined w → Onward (next_id p (host s d l) w work).walk
    unfolding place_of
    next d work g =
        either (λ (x : Effect). Onward x.walk) (eqb p.nhosts 0 || not (ltb (w.id + 1) (host_count s))) _ _ (λ _. closed k w)
        (λ e. record { still = λ _. at_id 1 (w.id + 1) g (lt-ltb (w.id + 1) s.layout.nhosts (omega (arith, ltb-true (w.id + 1) (host_count s) (is_so _ (neither (eqb p.nhosts 0) _ e).1)))); link = λ _. refl; length = λ _. refl; few = λ _ held used. held })

    four : (q : Stage Flight) → reading_in_range w ≡ true → Onward (fourth h w q).walk
    unfolding place_of
    four (end f) g = closed k w
    four (on f) g = record { still = λ _. (g, word_fits f.delay); link = λ _. refl; length = λ _. refl; few = λ _ held used. held }

    found : (f : Option ℕ) → ((id : ℕ) → f ≡ Some id → ltb id s.layout.nhosts ≡ true) → reading_in_range w ≡ true → Fits16 (of_word w.delay)
        → Onward (to_neighbor h (raised w) f).walk
    unfolding place_of
    found None below g fits = closed k w
    found (Some id) below g fits = record { still = λ _. record { reading = g; id = below id refl; delay = raised_held w fits }; link = λ _. refl; length = λ _. refl; few = λ _ held used. held }

    a_goes : (q : Stage Entry) → Lined w → Onward (after_a p h w q).walk
    unfolding place_of
    a_goes (end e) g = next c nothing g
    a_goes (on e) g = record { still = λ _. at_id 2 w.id g g.id; link = λ _. refl; length = λ _. refl; few = λ _ held used. held }

    c_goes : (q : Stage Entry) → Lined w → Onward (after_c p h w q).walk
    unfolding place_of
    c_goes (end e) g = next c (put w e) g
    c_goes (on e) g =
        either (λ (x : Effect). Onward x.walk) (is_clock_host h w) _ _ (λ _. record { still = λ _. at_id 4 w.id g g.id; link = λ _. refl; length = λ _. refl; few = λ _ held used. held }) (λ _. next c (put w e) g)

    -- line (b) goes on only with a DELAY under 30,000
    b_goes : (e : Entry) → Lined w → Onward (after_b p h w (line_b (line_update w p octets) e)).walk
    unfolding place_of line_b
    b_goes e g =
        let u : Update = line_update w p octets in
        either B (up e) _ _
        (λ _. either B (less_millis u.delay max_delay) (on e) (end (taken_down e)) stores (λ _. next c (put w (taken_down e)) g))
        (λ _. either B (less_millis u.delay max_delay && eqb e.ttl.0 0) (on e) (end e) (λ v. stores (both (less_millis u.delay max_delay) (eqb e.ttl.0 0) v).0) (λ _. next c (put w e) g))
      where
        B : Stage Entry → Type 0
        B q = Onward (after_b p h w q).walk

        stores : less_millis (line_update w p octets).delay max_delay ≡ true → B (on e)
        stores less = record { still = λ _. (at_id 3 w.id g g.id, less); link = λ _. refl; length = λ _. refl; few = λ _ held used. held }

    -- each box
    pub box_goes : (t : NetTable) (e : Entry) (q : Option Place) → Holds q w → 1 ≤ s.layout.nhosts
        → ((a : Address) (id : ℕ) → found_for t s a ≡ Some id → ltb id s.layout.nhosts ≡ true) → Onward (box_at q k p octets t h w e).walk
    unfolding place_of box1 box2 box3 box4 box5 box_a box_b box_c box_d
    box_goes t e None g some below = absurd g
    box_goes t e (Some Step1) g some below = record { still = λ _. reading_in s.clock_tick s.hold_interval k c; link = λ _. refl; length = λ _. refl; few = λ _ held used. used }
    box_goes t e (Some Step2) g some below = record { still = λ _. g; link = λ _. refl; length = λ _. refl; few = λ _ held used. held }
    box_goes t e (Some Step3) g some below = record { still = λ _. g; link = λ _. refl; length = λ _. refl; few = λ _ held used. held }
    box_goes t e (Some Step4) g some below = four (step4 (broadcast s w.link) c.hold p (in_flight l w)) g
    box_goes t e (Some Step5) g some below =
        either (λ (x : Effect). Onward x.walk) (eqb p.nhosts 0)
        (to_neighbor h (raised w) (found_for t s (link_of l w.link).neighbor)) (onward (at_line 1 0 (raised w)) c l nothing)
        (λ _. found (found_for t s (link_of l w.link).neighbor) (below (link_of l w.link).neighbor) g.0 g.1)
        (λ _. record { still = λ _. record { reading = g.0; id = lt-ltb 0 s.layout.nhosts some; delay = raised_held w g.1 }; link = λ _. refl; length = λ _. refl; few = λ _ held used. held })
    box_goes t e (Some LineA) g some below = a_goes (line_a (line_update w p octets) e) g
    box_goes t e (Some LineB) g some below = b_goes e g
    box_goes t e (Some LineC) g some below = c_goes (line_c (line_update w p octets) e) g.0
    box_goes t e (Some LineD) g some below = next (clock_set p octets h w) nothing g
