-- The cases of a step: no walk is open; the clock is read; 10 or 11 ends the walk; it goes on; or it ends after the last id. Clock, links and entry are those of its box.
use Rattle.std.specs.Prelude.{Option, Some, None, Result, Ok, Err}
use mathlib.Core.Path.{◌≡◌, refl, ap}
use mathlib.Core.Bool.{Bool, true, false, false≢true, cond, not, ◌&&◌, ◌||◌}
use mathlib.Core.List.{List}
use Prim.Native.Nat.{ℕ, ◌+◌, ◌≤◌}
use lib.Dec.{ltb, eqb}
use Rattle.lists.proofs.Tests.{either, both, is_so}
use Rattle.quantity.specs.declared.Word.{Word}
use Rattle.quantity.specs.Quantity.{add_millis, less_millis}
use Rattle.quantity.specs.Words.{zero_word}
use Rattle.answer.specs.declared.Answer.{Answer}
use Rattle.answer.specs.declared.Answer.TheVariants.{Done, DelayNotValid, NoHost, NoWalk}
use Rattle.calendar.specs.declared.Date.{Date}
use Rattle.clock.specs.declared.Clock.{Clock}
use Rattle.clock.specs.declared.Counter.{Counter}
use Rattle.clock.specs.Clock.{count_used}
use Rattle.clock.specs.LineClock.{no_count}
use Rattle.wire.specs.declared.Packet.{Packet}
use Rattle.wire.specs.Octets.{same_address}
use Rattle.wire.specs.Ip.{ip_form, ip_checksum, protocol}
use Rattle.wire.specs.Hello.{hello_form, hello_checksum, report_at}
use Rattle.wire.specs.Packet.{hello_of, fields, parse}
use Rattle.table.specs.declared.Entry.{Entry}
use Rattle.table.specs.declared.Update.{Update}
use Rattle.table.specs.declared.entries.Changes.{Changes}
use Rattle.table.specs.Forms.{Stage, on}
use Rattle.table.specs.Entry.{max_delay, min_delay, up, taken_down}
use Rattle.table.specs.Update.{plus_report, line_a, line_b, line_c, line_d}
use Rattle.table.proofs.Cases.{stored}
use Rattle.net_table.specs.declared.NetTable.{NetTable}
use Rattle.host.specs.declared.Settings.{Settings}
use Rattle.host.specs.declared.Link.{Link}
use Rattle.host.specs.declared.Links.{Links}
use Rattle.host.specs.declared.Effect.{Effect}
use Rattle.host.specs.declared.Reply.{Reply}
use Rattle.host.specs.declared.walk.Walk.{Walk}
use Rattle.host.specs.declared.walk.Place.{Place}
use Rattle.host.specs.declared.walk.Place.TheVariants.{Step1, Step2, Step3, Step4, Step5, LineA, LineB, LineC, LineD}
use Rattle.host.specs.Settings.{found_for}
use Rattle.host.specs.State.{host_count, broadcast, link_of, with_link, link_in_range, no_link}
use Rattle.host.specs.declared.Host.{Host}
use Rattle.host.specs.CallState.{host, our_reading}
use Rattle.host.specs.Reply.{plainly}
use Rattle.host.specs.Inspection.{other_layout, looped, inspected, inspect}
use Rattle.host.specs.Walk.{is_open, no_walk, step_place, line_place, place_of, packet_of, walk_update, line_update, reading_in_range, id_in_range, storable, walk_fields_at, packet_fits, walk_in_range}
use Rattle.host.specs.Effect.{nothing, answers}
use Rattle.host.proofs.Guarded.{counted}
use Rattle.host.proofs.Walks.{opened_says}
use Rattle.arrival.specs.declared.Flight.{Flight}
use Rattle.arrival.specs.Steps.{step2, step3, step4, new_neighbor}
use Rattle.walk.specs.Boxes.{in_flight, holding, raised, at_step, at_line, onward, ended, fourth, to_neighbor, next_id, put, is_clock_host, clock_set, after_a, after_b, box1, box2, box3, box4, box5, box_a, box_b, box_c, box_d, at_hand, box_at, box_of, step}

-- ---- inspection: a refusal, or the fields of the octets

pub inspect_cases : (P : Result Packet Answer → Type 0) (s : Settings) (i : ℕ) (octets : List ℕ) → ((a : Answer) → P (Err a)) → P (Ok (fields octets)) → P (inspect s i octets)
unfolding inspect parse
inspect_cases P s i octets bad good =
    either Q (not (ip_form octets)) _ _ (λ _. bad _)
    (λ _. either Q (not (ip_checksum octets)) _ _ (λ _. bad _)
    (λ _. either Q (not (protocol octets)) _ _ (λ _. bad _)
    (λ _. either Q (not (hello_form (hello_of octets))) _ _ (λ _. bad _)
    (λ _. either Q (not (hello_checksum (hello_of octets))) _ _ (λ _. bad _)
    (λ _. either P (other_layout s (fields octets)) _ _ (λ _. bad _)
    (λ _. either P (looped s i (fields octets)) _ _ (λ _. bad _) (λ _. good)))))))
  where
    Q : Result Packet Answer → Type 0
    Q q = P (inspected s i q)

-- ---- what a box makes of clock, links and entry

-- the clock as it was, or as line (d) sets it with the walk's count
pub data Timed (h : Host) (w : Walk) : Clock → Type 0 where
  as_was : Timed h w h.clock
  set_by_lem : (date : Date) (offset : Word) → Timed h w (line_d h.settings.hold_interval w.count date offset h.clock)

-- the links as they were, or with the walk's link stored
pub data Touched (h : Host) (w : Walk) : Links → Type 0 where
  as_were : Touched h w h.links
  stored_in : (x : Link) → no_link h.settings w.link ≡ false → (link_in_range (link_of h.links w.link) ≡ true → link_in_range x ≡ true)
      → Touched h w (with_link w.link x h.links)

-- the entry as it was, taken down, or stored by line (c)
pub data Makes (w : Walk) (e : Entry) : Entry → Type 0 where
  stays : Makes w e e
  down : Makes w e (taken_down e)
  stores : (u : Update) → storable u ≡ true → reading_in_range w ≡ true → u.pid ≡ w.link → w.link ≤ 8 → u.reading ≡ w.reading → Makes w e (stored u e)

pub data Works (w : Walk) (e : Entry) : Changes → Type 0 where
  no_work : Works w e nothing
  puts : (y : Entry) → Makes w e y → at_hand w ≡ Some w.id → Works w e (put w y)

-- the mark stays
pub makes_mark : (w : Walk) (e y : Entry) → Makes w e y → y.here ≡ e.here
makes_mark w e y stays = refl
makes_mark w e y down = refl
makes_mark w e y (stores u fits read pid most reading) = refl

-- ---- at a line the entry of the id is at hand

abbrev is_line : Option Place → Bool
is_line None = false
is_line (Some Step1) = false
is_line (Some Step2) = false
is_line (Some Step3) = false
is_line (Some Step4) = false
is_line (Some Step5) = false
is_line (Some LineA) = true
is_line (Some LineB) = true
is_line (Some LineC) = true
is_line (Some LineD) = true

no_line : (n : ℕ) → is_line (step_place n) ≡ true → ⊥
no_line n =
    either Not (eqb n 1) _ _ (λ _. false≢true)
    (λ _. either Not (eqb n 2) _ _ (λ _. false≢true)
    (λ _. either Not (eqb n 3) _ _ (λ _. false≢true)
    (λ _. either Not (eqb n 4) _ _ (λ _. false≢true)
    (λ _. either Not (eqb n 5) _ _ (λ _. false≢true) (λ _. false≢true)))))
  where
    Not : Option Place → Type 0
    Not q = is_line q ≡ true → ⊥

at_line_lem : (w : Walk) → is_open w ≡ true → is_line (place_of w) ≡ true → at_hand w ≡ Some w.id
unfolding place_of
at_line_lem w opened line = go (eqb w.line 0) line
  where
    go : (b : Bool) → is_line (cond b (step_place w.step) (cond (eqb w.step 5) (line_place w.line) None)) ≡ true
        → cond (is_open w && not b) (Some w.id) None ≡ Some w.id
    go true l = absurd (no_line w.step l)
    go false l = rw opened refl

-- if this walk has no count, the walk after the box has none
abbrev pub Holding : (w v : Walk) → Type 0
Holding w v = w.count ≡ no_count → v.count ≡ no_count

-- ---- the ways

module _ (k : Counter) (t : NetTable) (h : Host) (w : Walk) (copy : List ℕ) (e : Entry) (P : Effect → Type 0) where
  pub record Ways : Type 0 where
    pub none : P (answers (plainly NoWalk) h.clock h.links w)
    pub reads : (v : Walk) → v.count ≡ count_used k → P (onward v (our_reading k h).clock h.links nothing)
    pub delays : no_link h.settings w.link ≡ false → P (ended DelayNotValid h.clock (with_link w.link (link_of h.links w.link) h.links) nothing)
    pub unknown : P (ended NoHost h.clock h.links nothing)
    pub goes : (r : Reply) → r.answer ≡ Done → (v : Walk) → Holding w v → (c : Clock) → Timed h w c → (l : Links) → Touched h w l
        → (work : Changes) → Works w e work → P record { reply = r; clock = c; links = l; walk = v; work = work }

  module _ (ways : Ways) (opened : is_open w ≡ true) (has : no_link h.settings w.link ≡ false) (p : Packet) (octets : List ℕ) where
    on_with : (v : Walk) → Holding w v → (work : Changes) → Works w e work → P (onward v h.clock h.links work)
    on_with v kept work d = ways.goes _ refl v kept h.clock as_was h.links as_were work d

    next : (c : Clock) → Timed h w c → (work : Changes) → Works w e work → P (next_id p (host h.settings c h.links) w work)
    next c timed work d =
        either P (eqb p.nhosts 0 || not (ltb (w.id + 1) (host_count h.settings))) _ _
        (λ _. ways.goes _ refl no_walk (λ _. refl) c timed h.links as_were work d)
        (λ _. ways.goes _ refl (at_line 1 (w.id + 1) w) (λ z. z) c timed h.links as_were work d)

    storing : (v : Walk) → Holding w v → (x : Link) → (link_in_range (link_of h.links w.link) ≡ true → link_in_range x ≡ true)
        → P (onward v h.clock (with_link w.link x h.links) nothing)
    storing v kept x good = ways.goes _ refl v kept h.clock as_was _ (stored_in x has good) nothing no_work

    fourth_ways : P (box4 p h w)
    unfolding box4 step4
    fourth_ways =
        either Q (broadcast h.settings w.link) _ _ (λ _. goes_on)
        (λ _. either Q (not (same_address p.source f.link.neighbor)) _ _ (λ _. storing (at_step 5 (holding (new_neighbor p f) w)) (λ z. z) _ (λ z. z))
        (λ _. either Q (zero_word p.tsp || not (eqb h.clock.hold.0 0)) _ _ (λ _. ways.delays has) (λ _. goes_on)))
      where
        f : Flight
        f = in_flight h.links w

        Q : Stage Flight → Type 0
        Q s = P (fourth h w s)

        goes_on : P (fourth h w (on f))
        goes_on = storing (at_step 5 (holding f w)) (λ z. z) _ (λ z. z)

    found : (f : Option ℕ) → P (to_neighbor h (raised w) f)
    found None = ways.unknown
    found (Some id) = on_with (at_line 1 id (raised w)) (λ z. z) nothing no_work

    abbrev u : Update
    u = line_update w p octets

    after_a_lem : P (box_a p octets h w e)
    unfolding box_a line_a
    after_a_lem =
        either (λ (s : Stage Entry). P (after_a p h w s)) (not (eqb u.pid e.pid) && less_millis e.delay (add_millis u.delay min_delay)) _ _
        (λ _. next h.clock as_was nothing no_work) (λ _. on_with (at_line 2 w.id w) (λ z. z) nothing no_work)

    after_b_lem : at_hand w ≡ Some w.id → P (box_b p octets h w e)
    unfolding box_b line_b
    after_b_lem here =
        either Q (up e) _ _
        (λ _. either Q (less_millis u.delay max_delay) _ _ (λ _. goes_on) (λ _. next h.clock as_was _ (puts (taken_down e) down here)))
        (λ _. either Q (less_millis u.delay max_delay && eqb e.ttl.0 0) _ _ (λ _. goes_on) (λ _. next h.clock as_was _ (puts e stays here)))
      where
        Q : Stage Entry → Type 0
        Q s = P (after_b p h w s)

        goes_on : P (after_b p h w (on e))
        goes_on = on_with (at_line 3 w.id w) (λ z. z) nothing no_work

    same_pid : u.pid ≡ w.link
    same_pid = either (λ (v : Update). v.pid ≡ w.link) (eqb p.nhosts 0) (walk_update w) (plus_report (walk_update w) (report_at (hello_of octets) w.id)) (λ _. refl) (λ _. refl)

    same_reading : u.reading ≡ w.reading
    same_reading = either (λ (v : Update). v.reading ≡ w.reading) (eqb p.nhosts 0) (walk_update w) (plus_report (walk_update w) (report_at (hello_of octets) w.id)) (λ _. refl) (λ _. refl)

    after_c_lem : at_hand w ≡ Some w.id → storable u ≡ true → reading_in_range w ≡ true → P (box_c p octets h w e)
    unfolding box_c line_c
    after_c_lem here good read =
        let d : Works w e (put w (stored u e)) = puts (stored u e) (stores u good read same_pid (counted h.settings w.link has).to_eight same_reading) here in
        either P (is_clock_host h w) _ _ (λ _. on_with (at_line 4 w.id w) (λ z. z) _ d) (λ _. next h.clock as_was _ d)

    after_d : P (box_d p octets h w)
    unfolding box_d
    after_d = next (clock_set p octets h w) set nothing no_work
      where
        set : Timed h w (clock_set p octets h w)
        set = either (Timed h w) (is_clock_host h w) _ _ (λ _. set_by_lem p.date u.offset) (λ _. as_was)

    box_ways : (q : Option Place) → place_of w ≡ q → walk_fields_at q h.settings w p octets ≡ true → P (box_at q k p octets t h w e)
    unfolding box1 box2 box3 box5 step2 step3
    box_ways None is held = absurd (false≢true held)
    box_ways (Some Step1) is held = ways.reads _ refl
    box_ways (Some Step2) is held = storing (at_step 3 w) (λ z. z) _ (λ _. refl)
    box_ways (Some Step3) is held = storing _ (λ z. z) _ (λ z. z)
    box_ways (Some Step4) is held = fourth_ways
    box_ways (Some Step5) is held =
        either P (eqb p.nhosts 0) _ _ (λ _. found (found_for t h.settings (link_of h.links w.link).neighbor))
        (λ _. on_with (at_line 1 0 (raised w)) (λ z. z) nothing no_work)
    box_ways (Some LineA) is held = after_a_lem
    box_ways (Some LineB) is held = after_b_lem (at_line_lem w opened (ap is_line is))
    box_ways (Some LineC) is held =
        let b = both (reading_in_range w && id_in_range h.settings w) _ held in
        after_c_lem (at_line_lem w opened (ap is_line is)) b.1 (both (reading_in_range w) _ b.0).0
    box_ways (Some LineD) is held = after_d

  pub step_ways : Ways → walk_in_range h.settings w copy ≡ true → P (step k t h w copy e)
  unfolding step
  step_ways ways in_range =
      either P (not (is_open w)) _ _ (λ _. ways.none)
      (λ f.
      (let o = opened_says h.settings w copy in_range (is_so _ f) in
      go (is_so _ f) o.link (inspect h.settings w.link (packet_of w copy)) o.held))
    where
      go : is_open w ≡ true → no_link h.settings w.link ≡ false → (q : Result Packet Answer) → packet_fits h.settings w (packet_of w copy) q ≡ true → P (box_of k (packet_of w copy) t h w e q)
      go opened has (Err a) held = absurd (false≢true held)
      go opened has (Ok p) held = box_ways ways opened has p (packet_of w copy) (place_of w) refl held
