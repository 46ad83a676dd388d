-- A packet that arrives, as the code goes: what each update asks is there, and what is planned, placed and updated is what the call leaves.
use Rattle.std.specs.Prelude.{Option, Some, None, Result, Ok, Err}
use mathlib.Core.Path.{◌≡◌, refl}
use mathlib.Core.Bool.{Bool, true, false, false≢true, cond}
use mathlib.Core.List.{List}
use Prim.Native.Nat.{ℕ, ◌+◌, ◌-◌, ◌≤◌, ◌<◌, ◌^◌}
use native.Mathlib.Omega.{arith}
use lib.Dec.{eqb}
use lib.ListN.{length}
use Rattle.quantity.specs.declared.Count.{Count}
use Rattle.answer.specs.declared.Answer.{Answer}
use Rattle.answer.specs.declared.Answer.TheVariants.{DelayNotValid, NoHost}
use Rattle.clock.specs.declared.Clock.{Clock}
use Rattle.clock.specs.declared.Counter.{Counter}
use Rattle.clock.specs.declared.Reading.{Reading}
use Rattle.clock.specs.Clock.{count_used, clock_in_range}
use Rattle.clock.proofs.Range.{reading_in_range_lem}
use Rattle.wire.specs.declared.Packet.{Packet}
use Rattle.wire.specs.Packet.{packet_length}
use Rattle.route.proofs.Ids.{found_below}
use Rattle.table.specs.declared.Entry.{Entry}
use Rattle.table.specs.declared.entries.Updates.{Updates}
use Rattle.table.specs.Entry.{up_to}
use Rattle.table.specs.Update.{own_most}
use Rattle.table.specs.Runs.{updates}
use Rattle.table.specs.code.Loops.{UpdatesFit}
use Rattle.net_table.specs.declared.NetTable.{NetTable}
use Rattle.host.specs.declared.Settings.{Settings}
use Rattle.host.specs.declared.Links.{Links}
use Rattle.host.specs.State.{first_place, host_count, broadcast, link_of, with_link}
use Rattle.host.specs.declared.guard.Scope.TheVariants.{OnLink}
use Rattle.host.specs.Settings.{found_for, settings_good}
use Rattle.host.specs.declared.Host.{Host}
use Rattle.host.specs.CallState.{host, CallState, our_reading}
use Rattle.host.specs.Guard.{guard, done}
use Rattle.host.specs.code.Returned.{RowsBelow}
use Rattle.host.proofs.Places.{Holds}
use Rattle.host.proofs.Sound.{Sound, sound}
use Rattle.host.proofs.Guarded.{Passed, passed, holds, number_state, clock_state, counted}
use Rattle.arrival.specs.declared.Flight.{Flight}
use Rattle.arrival.specs.declared.Arrived.{Arrived}
use Rattle.arrival.specs.declared.Delivery.{Delivery}
use Rattle.arrival.specs.declared.Delivery.TheVariants.{Inspect, Act, Receive}
use Rattle.host.specs.Inspection.{inspect}
use Rattle.arrival.specs.Steps.{measured, new_neighbor}
use Rattle.arrival.specs.Arrival.{no_updates, ends, no_table, with_table, step5, concluded, inspected, on_link}
use Rattle.arrival.specs.Arrival as definition
use Rattle.arrival.proofs.Flights.{Short, steps_cases, measured_short, new_short}
use Rattle.host.proofs.Inspected.{Fits, inspected_fits}
use Rattle.arrival.proofs.Pair.{one_piece}
use Rattle.calls.specs.Perform.{Outcome, Leaves, deliver, perform}
use Rattle.calls.specs.code.Places.{Placeable, updates_at}
use Rattle.calls.proofs.Guarding.{goes_on}
use Rattle.calls.proofs.CarriedUpdates as by-places

-- what updates of ids ask
pub record Asked (s : Settings) (octets : List ℕ) (w : Updates) : Type 0 where
  pub rising : w.first ≤ w.end
  pub below : w.end ≤ host_count s
  pub base : w.base ≡ 0
  pub clock : w.first < w.end → clock_in_range w.clock ≡ true
  pub hold : w.first < w.end → w.hold_interval.0 ≤ 255
  pub count : w.first < w.end → w.count.0 < 2 ^ 16
  pub delay : w.first < w.end → up_to own_most w.update.delay ≡ true
  pub reports : w.first < w.end → w.table ≡ true → packet_length w.end ≤ length octets

-- ---- ids and places

fits : (s : Settings) (k : ℕ) (entries : List Entry) → Holds k entries → (octets : List ℕ) (w : Updates) → Asked s octets w → UpdatesFit (updates_at k w) entries octets
fits s k entries h octets w a =
    let r = a.rising in
    let t = a.below in
    let z = a.base in
    let n : first_place k + w.end - (first_place k + w.base) ≡ w.end = omega arith in
    record {
      places = record { rising = omega arith; inside = omega arith };
      sound = λ l. (let some : w.first < w.end = omega (arith, l) in
          record { based = omega arith; clock = a.clock some; hold = a.hold some; count = a.count some; delay = a.delay some; reports = λ t. rw n (a.reports some t) });
    }

-- ---- what an arrival's updates have

module _ (s : Settings) (good : Sound s) (t : NetTable) (rows : RowsBelow t s) (i : ℕ) (octets : List ℕ) where
  -- a count has 16 bits
  abbrev Fine : Arrived → Type 0
  Fine p = p.work.count.0 < 2 ^ 16 → Asked s octets p.work

  -- nothing is updated
  quiet : (c : Clock) → Asked s octets (no_updates c)
  quiet c =
      record {
        rising = omega arith;
        below = omega arith;
        base = refl;
        clock = λ l. absurd (omega (arith, l));
        hold = λ l. absurd (omega (arith, l));
        count = λ l. absurd (omega (arith, l));
        delay = λ l. absurd (omega (arith, l));
        reports = λ l. absurd (omega (arith, l));
      }

  ended : (a : Answer) (h : Host) → Fine (ends a h)
  ended a h few = quiet h.clock

  fifth : (c : Clock) (l : Links) (n : Count) → (n.0 < 2 ^ 16 → clock_in_range c ≡ true) → (p : Packet) (f : Flight) → Short f → packet_length p.nhosts ≤ length octets
      → (eqb p.nhosts 0 ≡ false → p.nhosts ≡ s.layout.nhosts) → Fine (step5 t (host s c l) i n p f)
  fifth c l n ok p f short long ours = go (eqb p.nhosts 0) refl
    where
      neighbor : (x : Option ℕ) → ((id : ℕ) → x ≡ Some id → id < host_count s) → Fine (no_table (host s c l) i n p f x)
      neighbor None below few = ended NoHost (host s c l) few
      neighbor (Some id) below few =
          let b = below id refl in
          record { rising = omega arith; below = omega arith; base = refl; clock = λ _. ok few; hold = λ _. good.hold_to; count = λ _. few; delay = λ _. short; reports = λ _ e. absurd (false≢true e) }

      go : (b : Bool) → eqb p.nhosts 0 ≡ b → Fine (cond b (no_table (host s c l) i n p f (found_for t s f.link.neighbor)) (with_table (host s c l) i n p f))
      go true e few =
          neighbor (found_for t s f.link.neighbor) (λ id q. omega (arith, found_below s.address s.layout t.net f.link.neighbor id rows q, good.hosts_to)) few
      go false e few =
          let o = ours e in
          let most = good.hosts_to in
          record { rising = omega arith; below = omega arith; base = refl; clock = λ _. ok few; hold = λ _. good.hold_to; count = λ _. few; delay = λ _. short; reports = λ _ _. omega arith }

  module _ (c : Clock) (l : Links) (ok : clock_in_range c ≡ true) (k : Counter) where
    abbrev r : Reading
    r = our_reading k (host s c l)

    still_ok : (count_used k).0 < 2 ^ 16 → clock_in_range r.clock ≡ true
    still_ok = reading_in_range_lem s.hold_interval good.hold_to c ok s.clock_tick k

    fifth_step : (p : Packet) → Fits s octets (Ok p) → (f : Flight) → Short f → Fine (step5 t (host s r.clock (with_link i f.link l)) i (count_used k) p f)
    fifth_step p fits f short = fifth r.clock (with_link i f.link l) (count_used k) still_ok p f short (omega (arith, fits.whole)) fits.ours

    fine : (q : Result Packet Answer) → Fits s octets q → Fine (inspected k t (host s c l) i q)
    fine (Err a) fits = ended a (host s c l)
    fine (Ok p) fits =
        steps_cases (λ g. Fine (concluded t (host s r.clock l) i (count_used k) p g))
        (broadcast s i) r.clock.hold p r.time (link_of l i)
        (λ b. fifth_step p fits (measured (broadcast s i) p r.time (link_of l i)) (measured_short (broadcast s i) p r.time (link_of l i)))
        (λ b n. fifth_step p fits (new_neighbor p (measured (broadcast s i) p r.time (link_of l i))) (new_short p (measured (broadcast s i) p r.time (link_of l i))))
        (λ b n z. ended DelayNotValid (host s r.clock l))
        (λ b n z. fifth_step p fits (measured (broadcast s i) p r.time (link_of l i)) (measured_short (broadcast s i) p r.time (link_of l i)))

    acted : Fine (definition.act i k octets t (host s c l))
    acted = fine (inspect s i octets) (inspected_fits s i octets)

-- what each delivery's updates have
delivered_fine : (s : Settings) (good : Sound s) (t : NetTable) (rows : RowsBelow t s) (d : Delivery) (octets : List ℕ) (c : Clock) (l : Links) → clock_in_range c ≡ true
    → Fine s good t rows (on_link d) octets (definition.delivered d octets t (host s c l))
delivered_fine s good t rows (Inspect i) octets c l ok = λ few. quiet s good t rows i octets c
delivered_fine s good t rows (Act i k) octets c l ok = acted s good t rows i octets c l ok k
delivered_fine s good t rows (Receive i k) octets c l ok = rw (one_piece i k octets t (host s c l)) (acted s good t rows i octets c l ok k)

-- ---- the call

pub record Delivered (x : CallState) (octets : List ℕ) (p : Arrived) (o : Outcome) : Type 0 where
  pub ids : Placeable x.number p.work.first p.work.end × (p.work.base ≤ p.work.first)
  pub there : UpdatesFit (updates_at x.number p.work) x.entries octets
  pub left :
      Leaves o p.reply (updates (updates_at x.number p.work) octets x.entries).clock p.links x.walk x.copy
      (updates (updates_at x.number p.work) octets x.entries).own_entries

module _ (x : CallState) (d : Delivery) (octets : List ℕ) (e : done (guard (OnLink (on_link d)) x) ≡ true) where
  abbrev s : Settings
  s = x.host.settings

  q : Passed (OnLink (on_link d)) x
  q = passed (OnLink (on_link d)) x e

  in_range : clock_in_range x.host.clock ≡ true
  in_range = clock_state x (q.call_state refl)

  pub host_good : record { good : settings_good s ≡ true; in_range : clock_in_range x.host.clock ≡ true }
  host_good = record { good = q.settings; in_range = in_range }

  pub deliverable : (1 ≤ on_link d) × (on_link d ≤ 8) × RowsBelow x.nets s
  deliverable = let has = counted _ _ (q.link (on_link d) refl) in (has.from_one, has.to_eight, q.rows)

  pub delivered : (p : Arrived) → (p ≡ definition.delivered d octets x.nets x.host) × (p.work.count.0 < 2 ^ 16) → Delivered x octets p (perform (deliver d octets) x)
  delivered p is =
      let h = holds x.number x.entries q.places in
      let k-in = number_state x.number x.entries q.places in
      let a = delivered_fine s (sound s q.settings) x.nets q.rows d octets x.host.clock x.host.links in_range (rw is.0 at is.1) in
      rw is.0
      record {
        ids = (record { number = k-in; rising = a.rising; ids = omega (arith, a.below) }, omega (arith, a.base));
        there = fits s x.number x.entries h octets (definition.delivered d octets x.nets x.host).work a;
        left =
            rw (goes_on (deliver d octets) x e, by-places.carried s x.number x.entries h (definition.delivered d octets x.nets x.host).work a.rising a.below octets)
            record { reply = refl; clock = refl; links = refl; walk = refl; copy = refl; entries = refl };
      }
