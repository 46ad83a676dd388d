-- What every call keeps for an id i: n is the least DELAY that a table can have for it, s counts the host's seconds in this epoch.
use mathlib.Core.Path.{◌≡◌}
use mathlib.Core.Bool.{Bool, true, false}
use mathlib.Core.List.{List, Memᴰ}
use Prim.Native.Nat.{ℕ, ◌+◌, ◌≤◌, ◌<◌}
use native.Mathlib.Omega.{arith}
use lib.Dec.{eqb}
use lib.ListN.{length, take}
use Rattle.std.proofs.Common.{Option, Some, None}
use Rattle.quantity.specs.Quantity.{less_millis}
use Rattle.quantity.proofs.Ints.{up, dn}
use Rattle.wire.specs.Hello.{report_at}
use Rattle.wire.specs.Packet.{hello_of, fields}
use Rattle.table.specs.declared.Entry.{Entry}
use Rattle.table.specs.declared.Update.{Update}
use Rattle.table.proofs.Cases.{stored}
use Rattle.table.specs.Entry.{max_delay}
use Rattle.host.specs.declared.walk.Walk.{Walk}
use Rattle.host.specs.declared.walk.Place.{Place}
use Rattle.host.specs.declared.walk.Place.TheVariants.{Step1, Step2, Step3, Step4, Step5, LineA, LineB, LineC, LineD}
use Rattle.host.specs.State.{host_count, own_entries}
use Rattle.host.specs.Walk.{is_open, place_of, packet_of}
use Rattle.host.proofs.Places.{Holds}
use Rattle.calls.specs.Perform.{Outcome}
use Rattle.network_laws.specs.History.{HostAfter}
use Rattle.network_laws.specs.Network.{Network}
use Rattle.network_laws.specs.Demand3.{Message, World}
use Rattle.network_laws.proofs.Lists.{All}
use Rattle.liveness_laws.specs.Numbers.{rise}
use Rattle.liveness_laws.proofs.Silence.Entry.{Fading, stored_fades, stored_early}

-- a walk that has read its clock: its packet has arrived
abbrev pub begun : Option Place → Bool
begun None = false
begun (Some Step1) = false
begun (Some Step2) = true
begun (Some Step3) = true
begun (Some Step4) = true
begun (Some Step5) = true
begun (Some LineA) = true
begun (Some LineB) = true
begun (Some LineC) = true
begun (Some LineD) = true

-- if the packet reports id i as up, its report plus m is at least n
abbrev pub Reports : (i n m : ℕ) → List ℕ → Type 0
Reports i n m octets =
    eqb (fields octets).nhosts 0 ≡ false → less_millis (report_at (hello_of octets) i).delay max_delay ≡ true
    → n + dn (report_at (hello_of octets) i).delay.0 ≤ up (report_at (hello_of octets) i).delay.0 + m

-- what may arrive at a host: a message of this epoch; or, before the host's first second, any message that reports at least n - 100
pub data Arriving (i n s : ℕ) (octets : List ℕ) : Type 0 where
  new : Reports i n 0 octets → Arriving i n s octets
  early : s ≡ 0 → Reports i n rise octets → Arriving i n s octets

module _ (r : Network) (i n : ℕ) where
  abbrev pub FadeWalk : (s : ℕ) → Walk → (copy : List ℕ) → Type 0
  FadeWalk s w copy = is_open w ≡ true → begun (place_of w) ≡ true → Arriving i n s (packet_of w copy)

  abbrev pub Ours : (s id : ℕ) → Entry → Type 0
  Ours s id e = id ≡ i → Fading n s e

  pub record FadeNode (b s : ℕ) (x : HostAfter) : Type 0 where
    pub walk : FadeWalk s x.walk x.copy
    pub table : All (Ours s) (take (host_count (r.settings b)) x.places)

  -- what a call borrows, and the state afterwards
  pub record FadeState (b s : ℕ) (w : Walk) (copy : List ℕ) (entries : List Entry) : Type 0 where
    pub walk : FadeWalk s w copy
    pub table : Holds (r.number b) entries → All (Ours s) (own_entries (r.settings b) (r.number b) entries)

  pub record FadeAfter (b s : ℕ) (before : List Entry) (o : Outcome) : Type 0 where
    pub walk : FadeWalk s o.walk o.copy
    pub table : Holds (r.number b) before → All (Ours s) (own_entries (r.settings b) (r.number b) o.entries)
    pub same_length : length o.entries ≡ length before

-- the hosts except `out`, and their messages
pub record FadeWorld (r : Network) (out i n : ℕ) (s : ℕ → ℕ) (w : World) : Type 0 where
  pub nodes : (b : ℕ) → b < r.nodes → (b ≡ out → ⊥) → FadeNode r i n b (s b) (w.state (r.number b))
  pub mail : (m : Message) → Memᴰ m w.mail → (m.node ≡ out → ⊥) → Reports i n 0 m.octets

-- an arriving message stores a report that is up, and at least 100 more
pub report_stored : {i n s : ℕ} {octets : List ℕ} → Arriving i n s octets → (u : Update) (e : Entry) → eqb (fields octets).nhosts 0 ≡ false → less_millis (report_at (hello_of octets) i).delay max_delay ≡ true
    → rise + up (report_at (hello_of octets) i).delay.0 + dn u.delay.0 ≤ up u.delay.0 + dn (report_at (hello_of octets) i).delay.0 → Fading n s (stored u e)
report_stored {i} {n} {s} (new least) u e some low long = stored_fades n s u e (omega (arith, least some low, long))
report_stored {i} {n} {s} (early z least) u e some low long = stored_early n s u e z (omega (arith, least some low, long))

-- every report is at least 0: so a DELAY stored from it is at least 100
pub any_reports : (i n : ℕ) (octets : List ℕ) → n ≤ rise → Reports i n rise octets
unfolding report_at
any_reports i n octets few some low = omega arith
