-- After each call, clock, links and entries are in range: fresh ones are, and each rule keeps them so. Each call except a step keeps a walk in range, too.
use Rattle.std.specs.Prelude.{Option, Some, None, Ok}
use mathlib.Core.Path.{◌≡◌, refl, sym, ap, ◌∙◌}
use mathlib.Core.Bool.{Bool, true, false, false≢true, cond, not, ◌&&◌}
use mathlib.Core.List.{List}
use Prim.Native.Nat.{ℕ, ◌+◌, ◌-◌, ◌≤◌, ◌<◌, ◌^◌}
use native.Mathlib.Nat.{zero-add}
use native.Mathlib.Omega.{arith}
use borrow.Author.Tests.{le-leb, eq-eqb}
use lib.Dec.{ltb, eqb}
use lib.IntN.{pos}
use lib.ListN.{length, get_or, take}
use Rattle.lists.proofs.Tests.{either, both, neither, is_not, is_so}
use Rattle.quantity.specs.Quantity.{millis, less_millis}
use Rattle.quantity.specs.Words.{of_word}
use Rattle.quantity.proofs.Ints.{lt_yes, lt_no}
use Rattle.answer.specs.declared.Answer.TheVariants.{Done, Setting, DelayNotValid, NoHost, OutOfRange, InWalk}
use Rattle.answer.specs.Answer.{number}
use Rattle.clock.specs.declared.Clock.{Clock}
use Rattle.clock.specs.declared.Counter.{Counter}
use Rattle.clock.specs.declared.Reading.{Reading}
use Rattle.clock.specs.Midnight.{day_millis}
use Rattle.clock.specs.Clock.{count_used, clock_in_range}
use Rattle.clock.proofs.Range.{reading_in_range_lem, tick_in_range_lem, adjust_in_range, set_in_range, second_in_range, fresh_in_range}
use Rattle.wire.specs.declared.Packet.{Packet}
use Rattle.wire.specs.Packet.{hello_of, packet_length}
use Rattle.table.specs.declared.Entry.{Entry}
use Rattle.table.specs.declared.marks.Marks.{Marks}
use Rattle.table.specs.declared.entries.Change.TheVariants.{Fresh}
use Rattle.table.specs.declared.entries.Changes.{Changes}
use Rattle.table.specs.Forms.{every}
use Rattle.table.specs.Marks.{mark}
use Rattle.table.specs.Entry.{max_delay, min_delay, fresh_entry, as_marked, taken_down, aged, up_to, entry_in_range}
use Rattle.table.specs.Update.{date_taken, line_d, reported_here}
use Rattle.table.specs.Runs.{changed, changes, update_at, updated_at}
use Rattle.table.proofs.Cases.{stored}
use Rattle.table.proofs.Kept.{aged_in_range, reported_in_range, update_mark, aged_mark, reported_mark, date_in_range}
use Rattle.table.proofs.Kept as kept
use Rattle.table.proofs.Ranges.{within, range_says, in_range, reading_in}
use Rattle.net_table.specs.declared.NetTable.{NetTable}
use Rattle.net_table.specs.Table.{table_bad}
use Rattle.host.specs.declared.Settings.{Settings}
use Rattle.host.specs.declared.Link.{Link}
use Rattle.host.specs.declared.Links.{Links}
use Rattle.host.specs.declared.walk.Walk.{Walk}
use Rattle.host.specs.declared.guard.Scope.TheVariants.{All, Places, Opening, Walking}
use Rattle.host.specs.Settings.{link_count_of, settings_good, settings_fit}
use Rattle.host.specs.State.{host_count, fresh_links, link_of, with_link, link_in_range, no_link, with_entries}
use Rattle.host.specs.Walk.{is_open, no_walk, place_of, walk_in_range}
use Rattle.host.specs.declared.Effect.{Effect}
use Rattle.host.specs.Effect.{nothing, each}
use Rattle.host.specs.CallState.{CallState, call_state, entries_of, our_reading, state_in_range, host_in_range, own_walk_in_range, marks_as_set}
use Rattle.host.specs.Guard.{no_places, longest, own_out_of_range, out_of_range, guard, done}
use Rattle.host.proofs.Places.{entries_length}
use Rattle.host.proofs.Guarded.{Counted, counted, Passed, passed, holds}
use Rattle.host.proofs.Sound.{Sound, sound}
use Rattle.sending.specs.declared.Sending.{Sending}
use Rattle.sending.specs.Send.{report_count}
use Rattle.arrival.specs.declared.Flight.{Flight}
use Rattle.arrival.specs.declared.Arrived.{Arrived}
use Rattle.arrival.specs.declared.Delivery.{Delivery}
use Rattle.arrival.specs.declared.Delivery.TheVariants.{Inspect, Act, Receive}
use Rattle.host.specs.Inspection.{inspect, tells}
use Rattle.arrival.specs.Steps.{neighbor_update}
use Rattle.arrival.specs.Arrival.{quiet, ends, updated, on_link}
use Rattle.walk.specs.declared.Opening as declared
use Rattle.walk.specs.Opening.{opened_on, copied}
use Rattle.walk.specs.Boxes.{at_hand, step}
use Rattle.calls.specs.declared.Request.{Request}
use Rattle.calls.specs.declared.Request.TheVariants.{Initialize, Tick, Adjust, Set, Read, Second, SelfReport, Lookup, Step}
use Rattle.calls.specs.Effects.{initialize, tick, adjust, set_by, read, second, self_report, lookup, wanted, effect}
use Rattle.calls.specs.Perform.{Call, ask, send, deliver, open_walk, scope_of_call, entry_at, carried_out, sent_by, updated_by, opened_by, work, perform, left}
use Rattle.network_laws.specs.Refusals.{closed}
use Rattle.network_laws.specs.Range.{Accepted, count_by, count_of, under, Walked, begins, goes_on, other_table, Range}
use Rattle.network_laws.proofs.Performs.{guard_of, performs}
use Rattle.network_laws.proofs.Arrivals.{Flown, storing, read_by, delivery_ways}
use Rattle.network_laws.proofs.Lists.{all_at, all_any, all_both, all_counted, all_weaken, every_all, all_every, each_all, all_each}
use Rattle.network_laws.proofs.Lists as lists
use Rattle.network_laws.proofs.Swept.{changes_length, changes_keep, changes_each, updates_length, updates_keep, updates_clock}
use Rattle.network_laws.proofs.Ranges.{link_in, with_link_in, sent_in, fresh_links_in, neighbor_sane, report_sane, entry_in, clock_in}
use Rattle.network_laws.proofs.Written.{written_kept, written_back}
use Rattle.network_laws.proofs.Walking.{Timed, as_was, set_by_lem, Touched, as_were, stored_in, Makes, stays, down, stores, makes_mark, Works, no_work, puts, step_ways}
use Rattle.network_laws.proofs.Demand1.Walked.{Fine, step_fine}
use Rattle.network_laws.proofs.Openings.{opening_ways, packet_short, nothing_copied, copied_back, copied_length}

-- ---- what 12 tests, each by itself

pub record InRange (x : CallState) : Type 0 where
  pub table_in : table_bad x.nets ≡ false
  pub places_there : no_places x.number x.entries ≡ false
  pub clock_in : clock_in_range x.host.clock ≡ true
  pub links_in_lem : every link_in_range (take (link_count_of x.host.settings) x.host.links.all) ≡ true
  pub walk_in : own_walk_in_range x ≡ true
  pub entries_in : every entry_in_range (entries_of x) ≡ true
  pub marks_in : marks_as_set x ≡ true

module _ (x : CallState) where
  pub parts : table_bad x.nets ≡ false → no_places x.number x.entries ≡ false → state_in_range x ≡ true → InRange x
  unfolding state_in_range
  parts t p e =
      let four = both (host_in_range x.host && own_walk_in_range x && every entry_in_range (entries_of x)) (marks_as_set x) e in
      let three = both (host_in_range x.host && own_walk_in_range x) (every entry_in_range (entries_of x)) four.0 in
      let two = both (host_in_range x.host) (own_walk_in_range x) three.0 in
      let one = both (clock_in_range x.host.clock) _ two.0 in
      record { table_in = t; places_there = p; clock_in = one.0; links_in_lem = one.1; walk_in = two.1; entries_in = three.1; marks_in = four.1 }

  accepted : Accepted x → InRange x
  unfolding guard
  accepted a = go (out_of_range All x) refl a
    where
      go : (b : Bool) → out_of_range All x ≡ b
          → (cond b OutOfRange (cond (is_open x.walk) InWalk (cond (not (settings_fit x.nets x.host.settings)) Setting Done)) ≡ OutOfRange → ⊥) → InRange x
      go true e h = absurd (h refl)
      go false e h =
          let t = neither (table_bad x.nets) (own_out_of_range All x) e in
          let n = neither (no_places x.number x.entries) (not (state_in_range x)) t.1 in
          parts t.0 n.0 (is_so _ n.1)

  accepts : InRange x → Accepted x
  unfolding guard state_in_range
  accepts r e = other (is_open x.walk) (settings_fit x.nets x.host.settings) (rw (r.table_in, r.places_there, r.clock_in, r.links_in_lem, r.walk_in, r.entries_in, r.marks_in) at e)
    where
      other : (v b : Bool) → cond v InWalk (cond (not b) Setting Done) ≡ OutOfRange → ⊥
      other true b h = omega (arith, ap number h)
      other false true h = omega (arith, ap number h)
      other false false h = omega (arith, ap number h)

-- another table that is not bad
under_in : (x : CallState) → InRange x → (t : NetTable) → table_bad t ≡ false → InRange (under t x)
under_in x r t fair =
    record { table_in = fair; places_there = r.places_there; clock_in = r.clock_in; links_in_lem = r.links_in_lem; walk_in = r.walk_in; entries_in = r.entries_in; marks_in = r.marks_in }

-- no walk, whatever the copy
no_walk_in : (s : Settings) (copy : List ℕ) → walk_in_range s no_walk copy ≡ true
unfolding walk_in_range
no_walk_in s copy = refl

-- ---- the calls

-- an entry in range, with the mark of its id
abbrev Fit : Marks → ℕ → Entry → Type 0
Fit m id e = (entry_in_range e ≡ true) × (as_marked m id e ≡ true)

same_mark : (m : Marks) (id : ℕ) (e y : Entry) → y.here ≡ e.here → as_marked m id e ≡ true → as_marked m id y ≡ true
same_mark m id e y same is = ap (λ (n : ℕ). eqb n (mark m id)) same ∙ is

module _ (x : CallState) where
  abbrev m : Marks
  m = x.host.settings.marks

  -- what each change asks to keep an entry so
  abbrev Keeps : Changes → Type 0
  Keeps w =
      (id : ℕ) (e : Entry) → w.first ≤ id → id < w.end → e ≡ get_or (entries_of x) id fresh_entry → Fit m id e
      → Fit m id (changed w.marks w.change (id - w.first) e)

  abbrev links_in : Links → Type 0
  links_in l = every link_in_range (take (link_count_of x.host.settings) l.all) ≡ true

  -- entries that are in range, written to the host's first places
  written : (c : Clock) (l : Links) (w : Walk) (es : List Entry) → table_bad x.nets ≡ false → no_places x.number x.entries ≡ false → clock_in_range c ≡ true → links_in l
      → walk_in_range x.host.settings w x.copy ≡ true → length es ≡ length (entries_of x) → lists.All (Fit m) es
      → InRange (call_state x.host.settings x.nets x.number c l w x.copy (with_entries x.number es x.entries))
  unfolding no_places
  written c l w es t p clock links walk n range =
      let h = holds x.number x.entries p in
      record {
        table_in = t;
        places_there = rw (written_kept x es h n).same_length p;
        clock_in = clock;
        links_in_lem = links;
        walk_in = walk;
        entries_in =
            rw (written_back x es h n)
            (all_every entry_in_range es (all_weaken (Fit m) (λ _ e. entry_in_range e ≡ true) (λ _ _ f. f.0) es range));
        marks_in =
            rw (written_back x es h n)
            (all_each (as_marked m) es (all_weaken (Fit m) (λ id e. as_marked m id e ≡ true) (λ _ _ f. f.1) es range));
      }

  fresh_fit : (id : ℕ) → Fit m id (changed m Fresh (0 + id) fresh_entry)
  unfolding entry_in_range fresh_entry
  fresh_fit id = (refl, rw (zero-add id) (eq-eqb (mark m id) (mark m id) refl))

  -- initialize
  pub begun : done (guard Places x) ≡ true → InRange (left x (work (ask Initialize) x))
  unfolding initialize
  begun e =
      let p = passed Places x e in
      let good = sound x.host.settings p.settings in
      let h = holds x.number x.entries p.places in
      let time = both (not (less_millis x.host.settings.time (millis (pos 0)))) (less_millis x.host.settings.time day_millis) good.time in
      written _ (fresh_links x.host.settings) no_walk _ p.table p.places
      (fresh_in_range x.host.settings.time x.host.settings.date (is_not _ time.0) time.1 good.date) (fresh_links_in x.host.settings)
      (no_walk_in x.host.settings x.copy)
      (changes_length (each x.host.settings Fresh) (entries_of x))
      (rw (changes_each (host_count x.host.settings) Fresh m (entries_of x) (omega (arith, entries_length x.host.settings x.number x.entries h)))
      (all_counted (λ _ _. Unit {0}) (Fit m) 0 (changed m Fresh) (entries_of x) (λ id e _ _. fresh_fit id) (all_any (λ _ _. Unit {0}) (λ _ _. tt) (entries_of x))))

  module _ (r : InRange x) where
    all_in : lists.All (Fit m) (entries_of x)
    all_in =
        all_both (λ _ e. entry_in_range e ≡ true) (λ id e. as_marked m id e ≡ true) (entries_of x) (every_all entry_in_range (entries_of x) r.entries_in)
        (each_all (as_marked m) (entries_of x) r.marks_in)

    -- ---- requests

    -- work that is carried out, with this clock, these links and this walk
    carried_with : (c : Clock) (l : Links) (w : Walk) (now : Changes) → clock_in_range c ≡ true → links_in l → walk_in_range x.host.settings w x.copy ≡ true → Keeps now
        → InRange (call_state x.host.settings x.nets x.number c l w x.copy (with_entries x.number (changes now (entries_of x)) x.entries))
    carried_with c l w now clock links walk keeps =
        written c l w (changes now (entries_of x)) r.table_in r.places_there clock links walk (changes_length now (entries_of x))
        (changes_keep now (entries_of x) (Fit m) keeps all_in)

    -- one that keeps the walk
    carried : (e : Effect) → clock_in_range e.clock ≡ true → links_in e.links → e.walk ≡ x.walk → Keeps e.work → InRange (left x (carried_out e x))
    carried e clock links same keeps = carried_with e.clock e.links e.walk e.work clock links (rw same r.walk_in) keeps

    -- a reading
    read_in : Sound x.host.settings → (k : Counter) → (count_used k).0 < 2 ^ 16 → clock_in_range (our_reading k x.host).clock ≡ true
    read_in good = reading_in_range_lem x.host.settings.hold_interval good.hold_to x.host.clock r.clock_in x.host.settings.clock_tick

    time_in : (k : Counter) → up_to day_millis (our_reading k x.host).time ≡ true
    time_in k = reading_in x.host.settings.clock_tick x.host.settings.hold_interval k x.host.clock

    -- the entries stay
    none : Keeps nothing
    none id e low high is h = absurd (omega arith)

    abbrev does : Request → Effect
    does q = effect q x.nets x.host x.walk x.copy (entry_at (wanted q x.nets x.host.settings x.walk) x)

    asked : (q : Request) → ((k : Counter) → ask q ≡ ask (Step k) → ⊥) → (count_of (ask q)).0 < 2 ^ 16 → Sound x.host.settings → done (guard_of (ask q) x) ≡ true → InRange (left x (work (ask q) x))
    unfolding tick adjust set_by read second self_report lookup
    asked Initialize not few good e = begun e
    asked (Tick n) not few good e =
        carried (does (Tick n)) (tick_in_range_lem x.host.settings.hold_interval good.hold_to x.host.clock r.clock_in n few x.host.settings.clock_tick) r.links_in_lem refl none
    asked (Adjust n) not few good e =
        carried (does (Adjust n)) (adjust_in_range x.host.settings.hold_interval good.hold_to x.host.clock r.clock_in n few) r.links_in_lem refl none
    asked (Set ms n) not few good e =
        carried (does (Set ms n)) (set_in_range x.host.settings.hold_interval good.hold_to x.host.clock r.clock_in n few (millis ms)) r.links_in_lem refl none
    asked (Read k) not few good e = carried (does (Read k)) (read_in good k few) r.links_in_lem refl none
    asked Second not few good e = carried (does Second) (second_in_range x.host.clock r.clock_in) r.links_in_lem refl (λ id e low high is h. (aged_in_range e h.0, same_mark m id e (aged e) (aged_mark e) h.1))
    asked (SelfReport k) not few good e = carried (does (SelfReport k)) (read_in good k few) r.links_in_lem refl
        (λ id e low high is h.
        let t = (our_reading k x.host).time in
        (reported_in_range t (time_in k) e h.0, same_mark m id e (reported_here t e) (reported_mark t e) h.1))
    asked (Lookup a) not few good e = carried (does (Lookup a)) r.clock_in r.links_in_lem refl none
    asked (Step k) not few good e = absurd (not k refl)

    -- ---- a send

    sent : (i : ℕ) (k : Counter) (buffer : List ℕ) → (count_used k).0 < 2 ^ 16 → Sound x.host.settings → Counted x.host.settings i
        → InRange (left x (work (send i k buffer) x))
    sent i k buffer few good has =
        either (λ (p : Sending). InRange (left x (sent_by p buffer x)))
        (ltb (length buffer) (packet_length (report_count x.host.settings (link_of x.host.links i)))) _ _ (λ _. r)
        (λ _.
        record {
          table_in = r.table_in;
          places_there = r.places_there;
          clock_in = read_in good k few;
          links_in_lem = sent_in x.host.settings x.host.links i has r.links_in_lem;
          walk_in = r.walk_in;
          entries_in = r.entries_in;
          marks_in = r.marks_in;
        })

    -- ---- a packet that arrives

    module _ (octets : List ℕ) where
      swept : (a : Arrived) → clock_in_range a.work.clock ≡ true → links_in a.links → a.work.hold_interval.0 ≤ 255 → a.work.count.0 < 2 ^ 16
          → ((id : ℕ) (c : Clock) (e : Entry) → a.work.first ≤ id → id < a.work.end → entry_in_range e ≡ true
          → entry_in_range (updated_at a.work octets id c e).entry ≡ true)
          → InRange (left x (updated_by a octets x))
      swept a clock links hold few ranges =
          written _ a.links x.walk _ r.table_in r.places_there
          (updates_clock a.work octets (entries_of x) (λ c. clock_in_range c ≡ true) (λ id c e h. clock_in a.work octets id c e hold few h) clock)
          links r.walk_in (updates_length a.work octets (entries_of x))
          (updates_keep a.work octets (entries_of x) (Fit m)
          (λ id c e low high _ h. (
            ranges id c e low high h.0,
            same_mark m id e (updated_at a.work octets id c e).entry (update_mark _ _ _ _ (update_at a.work (id - a.work.base) octets) c e) h.1,
          )) all_in)

      module _ (d : Delivery) (has : Counted x.host.settings (on_link d)) (good : Sound x.host.settings) (few : (count_by d).0 < 2 ^ 16) where
        abbrev i : ℕ
        i = on_link d

        abbrev now : Reading
        now = read_by d x.host

        now_in : clock_in_range now.clock ≡ true
        now_in = go d few
          where
            go : (d : Delivery) → (count_by d).0 < 2 ^ 16 → clock_in_range (read_by d x.host).clock ≡ true
            go (Inspect i) few = r.clock_in
            go (Act i k) few = read_in good k few
            go (Receive i k) few = read_in good k few

        day_in : up_to day_millis now.time ≡ true
        day_in = go d
          where
            go : (d : Delivery) → up_to day_millis (read_by d x.host).time ≡ true
            go (Inspect i) = refl
            go (Act i k) = time_in k
            go (Receive i k) = time_in k

        touched : (f : Flight) → Flown now.time f → links_in (with_link i f.link x.host.links)
        touched f g = with_link_in x.host.settings x.host.links i has r.links_in_lem f.link (rw g.keep_alive_is)

        arrived : InRange (left x (work (deliver d octets) x))
        arrived =
            delivery_ways d x.nets x.host (λ a. InRange (left x (updated_by a octets x)))
            record {
              refuses = λ a few. swept (ends a x.host) r.clock_in r.links_in_lem (omega arith) (omega arith) (λ id c e low high h. absurd (omega arith));
              looks = λ p. swept (quiet (tells (Ok p)) x.host) r.clock_in r.links_in_lem (omega arith) (omega arith) (λ id c e low high h. absurd (omega arith));
              ended = λ f g n. swept (ends DelayNotValid (storing i now (count_by d) x.host f)) now_in (touched f g) (omega arith) (omega arith) (λ id c e low high h. absurd (omega arith));
              unknown = λ f g. swept (ends NoHost (storing i now (count_by d) x.host f)) now_in (touched f g) (omega arith) (omega arith) (λ id c e low high h. absurd (omega arith));
              one = λ p f id g.
                  let a = updated (storing i now (count_by d) x.host f) (count_by d) p (neighbor_update i f) id 1 false in
                  swept a now_in (touched f g) good.hold_to few
                  (λ j c e low high h. entry_in a.work octets j c e (neighbor_sane x.host.settings now.time i f has day_in g) h);
              all = λ p f g.
                  let a = updated (storing i now (count_by d) x.host f) (count_by d) p (neighbor_update i f) 0 (host_count x.host.settings) true in
                  swept a now_in (touched f g) good.hold_to few
                  (λ j c e low high h.
                  entry_in a.work octets j c e (report_sane x.host.settings now.time i f has day_in g (hello_of octets) (j - 0)) h);
            }
            octets

    -- ---- a walk that is opened

    opened : (i : ℕ) (packet : List ℕ) → Passed (Opening i) x → InRange (left x (work (open_walk i packet) x))
    unfolding walk_in_range place_of
    opened i packet ok =
        opening_ways i packet s x.walk (λ (o : declared.Opening). InRange (left x (opened_by o packet x)))
        (λ a few. behind x.walk (copied 0 packet x.copy) (rw (nothing_copied packet x.copy) r.walk_in))
        (λ p is fits. behind (opened_on i (length packet)) (copied (length packet) packet x.copy) (first p is (packet_short s p packet ok.settings fits)))
      where
        s : Settings
        s = x.host.settings

        behind : (w : Walk) (copy : List ℕ) → walk_in_range s w copy ≡ true → InRange (call_state s x.nets x.number x.host.clock x.host.links w copy x.entries)
        behind w copy e = record { table_in = r.table_in; places_there = r.places_there; clock_in = r.clock_in; links_in_lem = r.links_in_lem; walk_in = e; entries_in = r.entries_in; marks_in = r.marks_in }

        first : (p : Packet) → inspect s i packet ≡ Ok p → length packet ≤ longest → walk_in_range s (opened_on i (length packet)) (copied (length packet) packet x.copy) ≡ true
        first p is short =
            let room = ok.opening i refl in
            let whole : length packet ≤ length x.copy = omega (arith, room.1) in
            rw (room.0, copied_length packet x.copy whole, le-leb _ _ whole, copied_back packet x.copy, is)

    -- ---- a step

    module _ (k : Counter) (few : (count_used k).0 < 2 ^ 16) (held : x.walk.count.0 < 2 ^ 16) (good : Sound x.host.settings) where
      abbrev w : Walk
      w = x.walk

      shut : (c : Clock) (l : Links) (work : Changes) → clock_in_range c ≡ true → links_in l → Keeps work
          → InRange (call_state x.host.settings x.nets x.number c l no_walk x.copy (with_entries x.number (changes work (entries_of x)) x.entries))
      shut c l work clock links keeps = carried_with c l no_walk work clock links (no_walk_in x.host.settings x.copy) keeps

      timed_in : (c : Clock) → Timed x.host w c → clock_in_range c ≡ true
      unfolding line_d
      timed_in c as_was = r.clock_in
      timed_in c (set_by_lem date offset) =
          set_in_range x.host.settings.hold_interval good.hold_to (date_taken date x.host.clock) (date_in_range date x.host.clock r.clock_in) w.count held (of_word offset)

      linked_in : (z : Link) → no_link x.host.settings w.link ≡ false → (link_in_range (link_of x.host.links w.link) ≡ true → link_in_range z ≡ true)
          → links_in (with_link w.link z x.host.links)
      linked_in z has keeps =
          let c = counted x.host.settings w.link has in
          with_link_in x.host.settings x.host.links w.link c r.links_in_lem z (keeps (link_in x.host.settings x.host.links w.link c r.links_in_lem))

      touched_in : (l : Links) → Touched x.host w l → links_in l
      touched_in l as_were = r.links_in_lem
      touched_in l (stored_in z has keeps) = linked_in z has keeps

      module _ (e : Entry) (e-is : e ≡ entry_at (at_hand w) x) (e-in : entry_in_range e ≡ true) where
        makes_in : (y : Entry) → Makes w e y → entry_in_range y ≡ true
        makes_in y stays = e-in
        makes_in y down =
            let t = range_says e e-in in
            in_range (taken_down e) record { delay = omega arith; ttl = omega arith; pid = t.pid; time = t.time }
        makes_in y (stores u fits read pid most reading) =
            let b = both (not (less_millis u.delay min_delay)) _ fits in
            let low = lt_no u.delay.0 min_delay.0 (is_not _ b.0) in
            let high = lt_yes u.delay.0 max_delay.0 b.1 in
            in_range (stored u e) record { delay = omega arith; ttl = omega arith; pid = omega (arith, pid, most); time = within 86400000 u.reading.0 (rw reading read) }

        works_in : (work : Changes) → Works w e work → Keeps work
        works_in work no_work = none
        works_in work (puts y made here) = λ id z low high is h.
            let same : w.id ≡ id = omega arith in
            let at : e ≡ z = e-is ∙ ap (λ (f : Option ℕ). entry_at f x) here ∙ ap (λ (i : ℕ). get_or (entries_of x) i fresh_entry) same ∙ sym is in
            (makes_in y made, same_mark m id z y (makes_mark w e y made ∙ ap (λ (z : Entry). z.here) at) h.1)

        stepped : InRange (closed (left x (carried_out (step k x.nets x.host w x.copy e) x)))
        stepped =
            step_ways k x.nets x.host w x.copy e (λ (y : Effect). InRange (closed (left x (carried_out y x))))
            record {
              none = shut _ _ _ r.clock_in r.links_in_lem none;
              reads = λ v c. shut _ _ _ (read_in good k few) r.links_in_lem none;
              delays = λ has. shut _ _ _ r.clock_in (linked_in _ has (λ z. z)) none;
              unknown = shut _ _ _ r.clock_in r.links_in_lem none;
              goes = λ a is v h c t l s work d. shut c l work (timed_in c t) (touched_in l s) (works_in work d);
            }
            r.walk_in

    found_in : (f : Option ℕ) → entry_in_range (entry_at f x) ≡ true
    found_in None = kept.fresh_in_range
    found_in (Some id) =
        all_at (λ _ e. entry_in_range e ≡ true) fresh_entry (λ _. kept.fresh_in_range) (entries_of x) (every_all entry_in_range (entries_of x) r.entries_in) id

    -- ---- every call

    works : (c : Call) → ((k : Counter) → c ≡ ask (Step k) → ⊥) → (count_of c).0 < 2 ^ 16 → done (guard_of c x) ≡ true → InRange (left x (work c x))
    works (open_walk i packet) not few e = opened i packet (passed (Opening i) x e)
    works (ask q) not few e = asked q not few (sound x.host.settings (passed (scope_of_call (ask q)) x e).settings) e
    works (send i k buffer) not few e =
        let p = passed (scope_of_call (send i k buffer)) x e in
        sent i k buffer few (sound x.host.settings p.settings) (counted x.host.settings i (p.link i refl))
    works (deliver d octets) not few e =
        let p = passed (scope_of_call (deliver d octets)) x e in
        arrived octets d (counted x.host.settings (on_link d) (p.link (on_link d) refl)) (sound x.host.settings p.settings) few

  pub initialized_in : (perform (ask Initialize) x).reply.answer ≡ Done → InRange (left x (perform (ask Initialize) x))
  initialized_in =
      performs (ask Initialize) x (λ o. o.reply.answer ≡ Done → InRange (left x o))
      (λ e a. absurd (false≢true (sym e ∙ ap (λ y. done y) a))) (λ e _. begun e)

  pub stay : InRange x → (c : Call) → ((k : Counter) → c ≡ ask (Step k) → ⊥) → (count_of c).0 < 2 ^ 16 → InRange (left x (perform c x))
  stay r c not few = performs c x (λ o. InRange (left x o)) (λ _. r) (works r c not few)

  pub go_on : InRange x → (k : Counter) → (count_used k).0 < 2 ^ 16 → x.walk.count.0 < 2 ^ 16 → InRange (closed (left x (perform (ask (Step k)) x)))
  go_on r k few held =
      performs (ask (Step k)) x (λ o. InRange (closed (left x o)))
      (λ _.
      record {
        table_in = r.table_in;
        places_there = r.places_there;
        clock_in = r.clock_in;
        links_in_lem = r.links_in_lem;
        walk_in = no_walk_in x.host.settings x.copy;
        entries_in = r.entries_in;
        marks_in = r.marks_in;
      })
      (λ e. stepped r k few held (sound x.host.settings (passed Walking x e).settings) (entry_at (at_hand x.walk) x) refl (found_in r (at_hand x.walk)))

-- ---- a walk that was opened

record HostReply (x : CallState) : Type 0 where
  range : InRange x
  good : settings_good x.host.settings ≡ true
  fine : Fine x.host.settings good x.copy x.walk

module _ (x : CallState) where
  opens_whole : InRange x → x.walk.count.0 < 2 ^ 16 → (i : ℕ) (packet : List ℕ) → Passed (Opening i) x → HostReply (left x (work (open_walk i packet) x))
  unfolding place_of
  opens_whole r few i packet ok =
      opening_ways i packet x.host.settings x.walk (λ (o : declared.Opening). InRange (left x (opened_by o packet x)) → HostReply (left x (opened_by o packet x)))
      (λ a _ now. record { range = now; good = ok.settings; fine = record { in_range = now.walk_in; few = few; fine = λ f. absurd (false≢true (sym ok.closed ∙ f)) } })
      (λ p is fits now. record { range = now; good = ok.settings; fine = record { in_range = now.walk_in; few = omega arith; fine = λ _. tt } }) (opened x r i packet ok)

  steps_whole : HostReply x → (k : Counter) → (count_used k).0 < 2 ^ 16 → HostReply (left x (perform (ask (Step k)) x))
  steps_whole h k few =
      performs (ask (Step k)) x (λ o. HostReply (left x o))
      (λ _.
      record {
        range = record { table_in = h.range.table_in; places_there = h.range.places_there; clock_in = h.range.clock_in; links_in_lem = h.range.links_in_lem; walk_in = h.range.walk_in; entries_in = h.range.entries_in; marks_in = h.range.marks_in };
        good = h.good;
        fine = record { in_range = h.fine.in_range; few = h.fine.few; fine = h.fine.fine };
      })
      (λ e.
      let entry = entry_at (at_hand x.walk) x in
      let now = stepped x h.range k few h.fine.few (sound x.host.settings h.good) entry refl (found_in x h.range (at_hand x.walk)) in
      let walk = step_fine x.host.settings h.good x.copy k x.nets (passed Walking x e).rows x.host refl x.walk entry few h.fine in
      record {
        range = record { table_in = now.table_in; places_there = now.places_there; clock_in = now.clock_in; links_in_lem = now.links_in_lem; walk_in = walk.in_range; entries_in = now.entries_in; marks_in = now.marks_in };
        good = h.good;
        fine = walk;
      })

walked : (x : CallState) → Walked x → HostReply x
walked x (begins i packet y few accept done-is) =
    performs (open_walk i packet) y (λ o. o.reply.answer ≡ Done → HostReply (left y o)) (λ no is. absurd (false≢true (sym no ∙ ap (λ z. done z) is)))
    (λ e _. opens_whole y (accepted y accept) few i packet (passed (Opening i) y e)) done-is
walked x (goes_on k y few before) = steps_whole y (walked y before) k few
walked x (other_table t y fair before) =
    let h = walked y before in
    record { range = under_in y h.range t fair; good = h.good; fine = h.fine }

pub range_holds : Range
range_holds =
    record {
      fresh = λ x e. accepts _ (initialized_in x e);
      stays = λ c x not few a. accepts _ (stay x (accepted x a) c not few);
      tables = λ t x fair a. accepts _ (under_in x (accepted x a) t fair);
      steps = λ k x few held a. accepts _ (go_on x (accepted x a) k few held);
      walks = λ x w. accepts x (walked x w).range;
    }
