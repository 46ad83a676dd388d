-- A walk that was opened holds at each box what 12 asks for there: our reading lies within the day, an id is one of the host's, and DELAY is 100 at least once it is raised, and under 30,000 once line (b) let it pass.
use Rattle.std.specs.Prelude.{Option, Some, None, Result, Ok, Err}
use Rattle.answer.specs.declared.Answer.{Answer}
use mathlib.Core.Path.{◌≡◌, refl, sym, ap, subst}
use mathlib.Core.Bool.{Bool, true, false, false≢true, not, ◌&&◌, ◌||◌}
use mathlib.Core.List.{List}
use Prim.Native.Nat.{ℕ, ◌+◌, ◌≤◌, ◌<◌, ◌^◌}
use native.Mathlib.Omega.{arith}
use borrow.Author.Tests.{le-leb, lt-ltb, ltb-true}
use lib.Dec.{ltb, leb, eqb}
use lib.IntN.{pos}
use lib.ListN.{length}
use Rattle.lists.proofs.Tests.{either, both, neither, is_so}
use Rattle.quantity.specs.declared.Millis.{Millis}
use Rattle.quantity.specs.declared.Word.{Word}
use Rattle.quantity.specs.Quantity.{add_millis, less_millis}
use Rattle.quantity.specs.Words.{wrap, to_word, of_word}
use Rattle.quantity.proofs.Ints.{up, dn, sum, lt_no, not_lt}
use Rattle.quantity.proofs.Wrap.{wrap_range, wrap_fits}
use Rattle.clock.specs.declared.Counter.{Counter}
use Rattle.clock.specs.Clock.{count_used}
use Rattle.wire.specs.declared.Packet.{Packet}
use Rattle.wire.specs.Hello.{report_at}
use Rattle.wire.specs.Packet.{hello_of}
use Rattle.route.proofs.Ids.{found_below}
use Rattle.table.specs.declared.Entry.{Entry}
use Rattle.table.specs.declared.Update.{Update}
use Rattle.table.specs.declared.entries.Changes.{Changes}
use Rattle.table.specs.Forms.{Stage, on, end}
use Rattle.table.specs.Entry.{max_delay, min_delay}
use Rattle.table.specs.Entry as entry
use Rattle.table.specs.Update.{plus_report, line_a, line_b, line_c}
use Rattle.table.proofs.Ranges.{reading_in}
use Rattle.net_table.specs.declared.NetTable.{NetTable}
use Rattle.host.specs.declared.Settings.{Settings}
use Rattle.host.specs.declared.Effect.{Effect}
use Rattle.host.specs.declared.walk.Walk.{Walk}
use Rattle.host.specs.declared.walk.Place.{Place}
use Rattle.host.specs.declared.walk.Place.TheVariants.{Step1, Step2, Step3, Step4, Step5, LineA, LineB, LineC, LineD}
use Rattle.host.specs.Settings.{settings_good, found_for}
use Rattle.host.specs.State.{host_count, broadcast, link_of, no_link}
use Rattle.host.specs.declared.Host.{Host}
use Rattle.host.specs.CallState.{host, our_reading}
use Rattle.host.specs.Inspection.{inspect}
use Rattle.host.specs.Walk.{is_open, no_walk, place_of, packet_of, walk_update, line_update, reading_in_range, id_in_range, walk_fields_at, packet_fits, walk_in_range}
use Rattle.host.specs.code.Returned.{RowsBelow}
use Rattle.host.proofs.Sound.{sound}
use Rattle.host.proofs.Walks.{opened_says}
use Rattle.arrival.specs.declared.Flight.{Flight}
use Rattle.arrival.specs.Steps.{step3, step4, at_least_min}
use Rattle.walk.specs.Boxes.{in_flight, holding_reading, holding, raised, at_step, at_line, fourth, to_neighbor, next_id, is_clock_host, clock_set, after_a, after_b, box1, box2, box3, box4, box5, box_a, box_b, box_c, box_d, box_at, box_of, step}
use Rattle.network_laws.proofs.Ranges.{raised_low}

-- a number that 16 bits hold, and a DELAY of 100 at least
abbrev Short : Word → Type 0
Short d = (up d.0 < 32768) × (dn d.0 ≤ 32768)

abbrev Raised : Word → Type 0
Raised d = less_millis (of_word d) min_delay ≡ false

-- what the place of the next box asks for beside 12's test of it
abbrev pub FineAt : Walk → Option Place → Type 0
FineAt w None = Unit {0}
FineAt w (Some Step1) = Unit {0}
FineAt w (Some Step2) = Unit {0}
FineAt w (Some Step3) = Unit {0}
FineAt w (Some Step4) = Short w.delay
FineAt w (Some Step5) = Short w.delay
FineAt w (Some LineA) = Raised w.delay
FineAt w (Some LineB) = Raised w.delay
FineAt w (Some LineC) = Raised w.delay
FineAt w (Some LineD) = Raised w.delay

raised_enough : (d : Word) → Short d → Raised (to_word (at_least_min (of_word d)))
raised_enough d short =
    let low = raised_low (of_word d) in
    let same : wrap 16 (at_least_min (of_word d)).0 ≡ (at_least_min (of_word d)).0 =
    either (λ (m : Millis). wrap 16 m.0 ≡ m.0) (less_millis (of_word d) min_delay) min_delay (of_word d)
    (λ _. wrap_fits 16 (omega arith) (pos 100) (omega arith) (omega arith)) (λ _. wrap_fits 16 (omega arith) d.0 short.0 short.1) in
    rw same (not_lt (at_least_min (of_word d)).0 (pos 100) (omega (arith, low)))

module _ (s : Settings) (good : settings_good s ≡ true) (copy : List ℕ) where
  pub record Fine (w : Walk) : Type 0 where
    pub in_range : walk_in_range s w copy ≡ true
    pub few : w.count.0 < 2 ^ 16
    pub fine : is_open w ≡ true → FineAt w (place_of w)

  pub none_fine : Fine no_walk
  unfolding walk_in_range
  none_fine = record { in_range = refl; few = omega arith; fine = λ e. absurd (false≢true e) }

  -- a walk in range, by its parts
  pub fits : (w : Walk) (p : Packet) → no_link s w.link ≡ false → leb w.length (length copy) ≡ true → inspect s w.link (packet_of w copy) ≡ Ok p
      → walk_fields_at (place_of w) s w p (packet_of w copy) ≡ true → walk_in_range s w copy ≡ true
  unfolding walk_in_range
  fits w p has long is held = go (not (is_open w)) (rw (has, long, is, held))
    where
      go : (b : Bool) → not (no_link s w.link) && leb w.length (length copy) && packet_fits s w (packet_of w copy) (inspect s w.link (packet_of w copy)) ≡ true
          → b || (not (no_link s w.link) && leb w.length (length copy) && packet_fits s w (packet_of w copy) (inspect s w.link (packet_of w copy))) ≡ true
      go true e = refl
      go false e = e

  module _ (k : Counter) (t : NetTable) (rows : RowsBelow t s) (h : Host) (ours : h.settings ≡ s) (w : Walk) (e : Entry) (short-count : (count_used k).0 < 2 ^ 16) (now : Fine w) where
    abbrev octets : List ℕ
    octets = packet_of w copy

    abbrev Keeps : Effect → Type 0
    Keeps y = Fine y.walk

    module _ (has : no_link s w.link ≡ false) (long : leb w.length (length copy) ≡ true) (p : Packet) (is : inspect s w.link octets ≡ Ok p) where
      abbrev Held : Option Place → Type 0
      Held q = walk_fields_at q s w p octets ≡ true

      -- after an id
      next : (g : Host) → g.settings ≡ s → (work : Changes) → reading_in_range w ≡ true → Raised w.delay → Keeps (next_id p g w work)
      unfolding place_of
      next g same work read low =
          either Keeps (eqb p.nhosts 0 || not (ltb (w.id + 1) (host_count g.settings))) _ _ (λ _. none_fine)
          (λ u.
          let more = ltb-true (w.id + 1) (host_count s) (rw (← same) (is_so _ (neither (eqb p.nhosts 0) _ u).1)) in
          record {
            in_range = fits (at_line 1 (w.id + 1) w) p has long is (rw (read, lt-ltb (w.id + 1) s.layout.nhosts (omega (arith, more))));
            few = now.few;
            fine = λ _. low;
          })

      -- another line of the same id
      line : (n : ℕ) → walk_fields_at (place_of (at_line n w.id w)) s (at_line n w.id w) p octets ≡ true → FineAt (at_line n w.id w) (place_of (at_line n w.id w)) → Fine (at_line n w.id w)
      line n held fine = record { in_range = fits (at_line n w.id w) p has long is held; few = now.few; fine = λ _. fine }

      first : Keeps (box1 k h w)
      unfolding box1 place_of
      first =
          let v : Walk = at_step 2 (holding_reading (count_used k) (our_reading k h).time w) in
          record { in_range = fits v p has long is (reading_in h.settings.clock_tick h.settings.hold_interval k h.clock); few = short-count; fine = λ _. tt }

      second : reading_in_range w ≡ true → Keeps (box2 h w)
      unfolding box2 place_of
      second read = record { in_range = fits (at_step 3 w) p has long is read; few = now.few; fine = λ _. tt }

      kept : (f : Flight) → Short (to_word f.delay)
      kept f = let z = wrap_range 16 (omega arith) f.delay.0 in (z.0, z.1)

      third : reading_in_range w ≡ true → Keeps (box3 p h w)
      unfolding box3 place_of
      third read =
          let f : Flight = step3 (broadcast h.settings w.link) p (in_flight h.links w) in
          record { in_range = fits (at_step 4 (holding f w)) p has long is read; few = now.few; fine = λ _. kept f }

      fourth_fine : reading_in_range w ≡ true → (g : Stage Flight) → Keeps (fourth h w g)
      unfolding place_of
      fourth_fine read (end f) = none_fine
      fourth_fine read (on f) = record { in_range = fits (at_step 5 (holding f w)) p has long is read; few = now.few; fine = λ _. kept f }

      to_line : (id : ℕ) → id < s.layout.nhosts → reading_in_range w ≡ true → Short w.delay → Fine (at_line 1 id (raised w))
      unfolding place_of
      to_line id below read short =
          record {
            in_range = fits (at_line 1 id (raised w)) p has long is (rw (read, lt-ltb id s.layout.nhosts below));
            few = now.few;
            fine = λ _. raised_enough w.delay short;
          }

      found : reading_in_range w ≡ true → Short w.delay → (f : Option ℕ) → found_for t s (link_of h.links w.link).neighbor ≡ f → Keeps (to_neighbor h (raised w) f)
      found read short None same = none_fine
      found read short (Some id) same =
          to_line id (found_below s.address s.layout t.net (link_of h.links w.link).neighbor id rows same) read short

      fifth : reading_in_range w ≡ true → Short w.delay → Keeps (box5 p t h w)
      unfolding box5
      fifth read short =
          either Keeps (eqb p.nhosts 0) _ _ (λ _. found read short _ (ap (λ (z : Settings). found_for t z (link_of h.links w.link).neighbor) (sym ours)))
          (λ _. to_line 0 (sound s good).hosts_from read short)

      abbrev u : Update
      u = line_update w p octets

      -- DELAY with a report's
      not_under : Raised w.delay → less_millis u.delay min_delay ≡ false
      unfolding report_at
      not_under low =
          let d = lt_no w.delay.0 (pos 100) low in
          either (λ (v : Update). less_millis v.delay min_delay ≡ false) (eqb p.nhosts 0) (walk_update w) (plus_report (walk_update w) (report_at (hello_of octets) w.id))
          (λ _. low) (λ _. not_lt (add_millis (of_word w.delay) (report_at (hello_of octets) w.id).delay).0 (pos 100) (omega (arith, d, sum w.delay.0 (report_at (hello_of octets) w.id).delay.0)))

      at_a : reading_in_range w ≡ true → id_in_range s w ≡ true → Raised w.delay → (g : Stage Entry) → Keeps (after_a p h w g)
      unfolding place_of
      at_a read id low (end y) = next h ours _ read low
      at_a read id low (on y) = line 2 (rw (read, id)) low

      line_b_lem : reading_in_range w ≡ true → id_in_range s w ≡ true → Raised w.delay → Keeps (box_b p octets h w e)
      unfolding box_b line_b place_of
      line_b_lem read id low =
          either Q (entry.up e) _ _ (λ _. either Q (less_millis u.delay max_delay) _ _ goes_on (λ _. next h ours _ read low))
          (λ _. either Q (less_millis u.delay max_delay && eqb e.ttl.0 0) _ _ (λ z. goes_on (both (less_millis u.delay max_delay) _ z).0) (λ _. next h ours _ read low))
        where
          Q : Stage Entry → Type 0
          Q g = Keeps (after_b p h w g)

          goes_on : less_millis u.delay max_delay ≡ true → Keeps (after_b p h w (on e))
          goes_on small = line 3 (rw (read, id, not_under low, small)) low

      line_c_lem : reading_in_range w ≡ true → id_in_range s w ≡ true → Raised w.delay → Keeps (box_c p octets h w e)
      unfolding box_c line_c place_of
      line_c_lem read id low = either Keeps (is_clock_host h w) _ _ (λ _. line 4 (rw (read, id)) low) (λ _. next h ours _ read low)

      box_fine : (q : Option Place) → Held q → FineAt w q → Keeps (box_at q k p octets t h w e)
      unfolding box4 box_a box_d
      box_fine None held fine = absurd (false≢true held)
      box_fine (Some Step1) held fine = first
      box_fine (Some Step2) held fine = second held
      box_fine (Some Step3) held fine = third held
      box_fine (Some Step4) held fine = fourth_fine held (step4 (broadcast h.settings w.link) h.clock.hold p (in_flight h.links w))
      box_fine (Some Step5) held fine = fifth held fine
      box_fine (Some LineA) held fine = let b = both (reading_in_range w) (id_in_range s w) held in at_a b.0 b.1 fine (line_a u e)
      box_fine (Some LineB) held fine = let b = both (reading_in_range w) (id_in_range s w) held in line_b_lem b.0 b.1 fine
      box_fine (Some LineC) held fine = let b = both (reading_in_range w) (id_in_range s w) (both (reading_in_range w && id_in_range s w) _ held).0 in line_c_lem b.0 b.1 fine
      box_fine (Some LineD) held fine = next (host h.settings (clock_set p octets h w) h.links) ours _ (both (reading_in_range w) (id_in_range s w) held).0 fine

    pub step_fine : Keeps (step k t h w copy e)
    unfolding step
    step_fine =
        either Keeps (not (is_open w)) _ _ (λ _. now)
        (λ f.
        let opened = is_so _ f in
        let o = opened_says s w copy now.in_range opened in
        subst (λ (z : Settings). Keeps (box_of k octets t h w e (inspect z w.link octets))) (sym ours) (go opened o.link (le-leb _ _ o.length) (inspect s w.link octets) refl o.held))
      where
        go : is_open w ≡ true → no_link s w.link ≡ false → leb w.length (length copy) ≡ true → (q : Result Packet Answer) → inspect s w.link octets ≡ q → packet_fits s w octets q ≡ true
            → Keeps (box_of k octets t h w e q)
        go opened has long (Err b) is held = absurd (false≢true held)
        go opened has long (Ok p) is held = box_fine has long p is (place_of w) held (now.fine opened)
