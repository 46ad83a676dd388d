-- The cases of an arrival: the inspection refuses it, or was all that was asked; step 4 ends it; or it passes step 4, with a table or without one.
use Rattle.std.specs.Prelude.{Option, Some, None, Result, Ok, Err}
use mathlib.Core.Path.{◌≡◌, refl}
use mathlib.Core.Bool.{Bool, true, false, cond}
use mathlib.Core.List.{List, [], ◌∷◌}
use Prim.Native.Nat.{ℕ, ◌≤◌}
use borrow.Author.Tests.{eqb-true}
use lib.Dec.{eqb}
use lib.IntN.{pos}
use Rattle.lists.proofs.Tests.{each}
use Rattle.quantity.specs.declared.Millis.{Millis}
use Rattle.quantity.specs.declared.Count.{Count}
use Rattle.quantity.specs.Quantity.{millis}
use Rattle.answer.specs.declared.Answer.{Answer}
use Rattle.answer.specs.Answer.{number}
use Rattle.answer.specs.declared.Answer.TheVariants.{DelayNotValid, NoHost}
use Rattle.clock.specs.declared.Counter.{Counter}
use Rattle.clock.specs.declared.Reading.{Reading}
use Rattle.clock.specs.Clock.{count_used}
use Rattle.clock.specs.LineClock.{no_count}
use Rattle.wire.specs.declared.Address.{Address}
use Rattle.wire.specs.declared.Packet.{Packet}
use Rattle.wire.specs.Octets.{same_address}
use Rattle.net_table.specs.declared.NetTable.{NetTable}
use Rattle.host.specs.declared.Link.{Link}
use Rattle.host.specs.Settings.{found_for}
use Rattle.host.specs.State.{keep_alive_interval, host_count, broadcast, link_of, with_link}
use Rattle.host.specs.declared.Host.{Host}
use Rattle.host.specs.CallState.{host, our_reading}
use Rattle.arrival.specs.declared.Flight.{Flight}
use Rattle.arrival.specs.declared.Arrived.{Arrived}
use Rattle.arrival.specs.declared.Delivery.{Delivery}
use Rattle.arrival.specs.declared.Delivery.TheVariants.{Inspect, Act, Receive}
use Rattle.host.specs.Inspection.{inspect, tells}
use Rattle.arrival.specs.Steps.{step2, step3, measured, new_neighbor, neighbor_update}
use Rattle.arrival.specs.Arrival.{quiet, ends, updated, no_table, with_table, step5, concluded, action_at, inspected, act, on_link, delivered}
use Rattle.arrival.proofs.Flights.{steps_cases}
use Rattle.host.proofs.Inspected.{Fits, inspected_fits}
use Rattle.arrival.proofs.Pair.{one_piece}
use Rattle.network_laws.specs.Range.{count_by}

-- ---- addresses

pub same_address_lem : (a b : Address) → same_address a b ≡ true → a ≡ b
same_address_lem a b e =
    let t =
    each (eqb a.first b.first) (eqb a.second b.second ∷ eqb a.third b.third ∷ eqb a.fourth b.fourth ∷ []) e in
    λ i. record {
      first = eqb-true a.first b.first t.0 i;
      second = eqb-true a.second b.second t.1.0 i;
      third = eqb-true a.third b.third t.1.1.0 i;
      fourth = eqb-true a.fourth b.fourth t.1.1.1.0 i;
    }

-- ---- the complete arrival

-- what steps 2 to 4 leave in any case
pub record Flown (time : Millis) (f : Flight) : Type 0 where
  pub reading_is : f.reading ≡ time
  pub keep_alive_is : f.link.keep_alive ≡ keep_alive_interval

flown : (b : Bool) (p : Packet) (time : Millis) (x : Link) → Flown time (measured b p time x)
unfolding step3 step2
flown b p time x = record { reading_is = refl; keep_alive_is = refl }

flown_new : (b : Bool) (p : Packet) (time : Millis) (x : Link) → Flown time (new_neighbor p (measured b p time x))
unfolding step3 step2
flown_new b p time x = record { reading_is = refl; keep_alive_is = refl }

-- with this reading, and its count
module _ (i : ℕ) (r : Reading) (n : Count) (h : Host) where
  -- the host with the clock after the reading, and the link after a flight
  abbrev pub storing : Flight → Host
  storing f = host h.settings r.clock (with_link i f.link h.links)

  module _ (P : Arrived → Type 0) where
    -- the ways that a packet which passed the guard can go
    pub record Ways : Type 0 where
      pub refuses : (a : Answer) → number a ≤ 9 → P (ends a h)
      pub looks : (p : Packet) → P (quiet (tells (Ok p)) h)
      pub ended : (f : Flight) → Flown r.time f → f.link.neighbor ≡ (link_of h.links i).neighbor → P (ends DelayNotValid (storing f))
      pub unknown : (f : Flight) → Flown r.time f → P (ends NoHost (storing f))
      pub one : (p : Packet) (f : Flight) (id : ℕ) → Flown r.time f → P (updated (storing f) n p (neighbor_update i f) id 1 false)
      pub all : (p : Packet) (f : Flight) → Flown r.time f
          → P (updated (storing f) n p (neighbor_update i f) 0 (host_count h.settings) true)

    module _ (ways : Ways) where
      fifth : (t : NetTable) (p : Packet) (f : Flight) → Flown r.time f → P (step5 t (storing f) i n p f)
      fifth t p f g = go (eqb p.nhosts 0) (found_for t h.settings f.link.neighbor)
        where
          go : (b : Bool) (x : Option ℕ) → P (cond b (no_table (storing f) i n p f x) (with_table (storing f) i n p f))
          go true None = ways.unknown f g
          go true (Some id) = ways.one p f id g
          go false x = ways.all p f g

      acted : (t : NetTable) (p : Packet) → P (action_at r n t h i p)
      unfolding step3 step2
      acted t p =
          steps_cases (λ g. P (concluded t (host h.settings r.clock h.links) i n p g))
          (broadcast h.settings i) r.clock.hold p r.time (link_of h.links i)
          (λ b. fifth t p _ (flown (broadcast h.settings i) p r.time (link_of h.links i)))
          (λ b m. fifth t p _ (flown_new (broadcast h.settings i) p r.time (link_of h.links i)))
          (λ b m z. ways.ended _ (flown (broadcast h.settings i) p r.time (link_of h.links i)) refl)
          (λ b m z. fifth t p _ (flown (broadcast h.settings i) p r.time (link_of h.links i)))

      looked : (octets : List ℕ) (q : Result Packet Answer) → Fits h.settings octets q → P (quiet (tells q) h)
      looked octets (Err a) fits = ways.refuses a fits
      looked octets (Ok p) fits = ways.looks p

act_ways : (i : ℕ) (k : Counter) (t : NetTable) (h : Host) (P : Arrived → Type 0) → Ways i (our_reading k h) (count_used k) h P → (octets : List ℕ) → P (act i k octets t h)
act_ways i k t h P ways octets = go (inspect h.settings i octets) (inspected_fits h.settings i octets)
  where
    go : (q : Result Packet Answer) → Fits h.settings octets q → P (inspected k t h i q)
    go (Err a) fits = ways.refuses a fits
    go (Ok p) fits = acted i (our_reading k h) (count_used k) h P ways t p

-- the delivery's reading; an inspection has none
abbrev pub read_by : Delivery → Host → Reading
read_by (Inspect i) h = record { clock = h.clock; time = millis (pos 0) }
read_by (Act i k) h = our_reading k h
read_by (Receive i k) h = our_reading k h

pub delivery_ways : (d : Delivery) (t : NetTable) (h : Host) (P : Arrived → Type 0) → Ways (on_link d) (read_by d h) (count_by d) h P → (octets : List ℕ) → P (delivered d octets t h)
delivery_ways (Inspect i) t h P ways octets = looked i (read_by (Inspect i) h) no_count h P ways octets (inspect h.settings i octets) (inspected_fits h.settings i octets)
delivery_ways (Act i k) t h P ways octets = act_ways i k t h P ways octets
delivery_ways (Receive i k) t h P ways octets = rw (one_piece i k octets t h) (act_ways i k t h P ways octets)
