-- A message of a round says what its sender had when the round began, so an update by it brings the sender's hosts one cable further.
use mathlib.Core.Path.{◌≡◌, subst}
use mathlib.Core.Bool.{Bool, false}
use mathlib.Core.List.{List}
use Prim.Native.Nat.{ℕ, suc, ◌≤◌}
use native.Mathlib.Omega.{arith}
use lib.Dec.{eqb}
use Rattle.wire.specs.Packet.{fields}
use Rattle.table.specs.declared.Entry.{Entry}
use Rattle.host.proofs.Guarded.{counted}
use Rattle.network_laws.specs.Network.{Network, at, Proper}
use Rattle.network_laws.specs.Demand3.{Message}
use Rattle.liveness_laws.proofs.Measured.{returned, Worded}
use Rattle.liveness_laws.proofs.Rounds.Heard.{Mine, mine_heard}
use Rattle.liveness_laws.proofs.Rounds.Entry as steady
use Rattle.liveness_laws.proofs.Host.State.{Believes}

-- what is known of a message in a round: what it says is the law's report, for the host at the other end; in the first round it has no TSP
pub record GoodMail (r : Network) (c i k : ℕ) (m : Message) : Type 0 where
  pub says : (b j : ℕ) → r.cable m.node m.link ≡ at b j → Worded m.octets
      → (1 ≤ k) × (eqb (fields m.octets).nhosts 0 ≡ false) × steady.Report r c b k m.node (returned i m.octets)

-- such a message, taken at link j of host b
abbrev pub Sent : (r : Network) (c i k b : ℕ) → Entry → (link : ℕ) → (octets : List ℕ) → Type 0
Sent r c i k b e j octets = (a n : ℕ) → r.cable b j ≡ at a n → Worded octets → (eqb (fields octets).nhosts 0 ≡ false) × steady.Report r c b k a (returned i octets)

-- this law adds nothing of an entry
abbrev pub Rest : Entry → Type 0
Rest e = Unit {0}

pub taken : (r : Network) (proper : Proper r) (c i k b : ℕ) (e : Entry) (j : ℕ) (m : Message) → r.cable b j ≡ at m.node m.link → GoodMail r c i k m → Sent r c i k b e j m.octets
taken r proper c i k b e j m cable good a n cord worded =
    let t = good.says b j (proper.cables b j m.node m.link cable).other_end worded in
    (t.1, subst (λ (q : ℕ). steady.Report r c b k q (returned i m.octets)) (same a n cord) t.2)
  where
    same : (a n : ℕ) → r.cable b j ≡ at a n → m.node ≡ a
    same a n z = cc

pub believes : (r : Network) (proper : Proper r) (c i k b s : ℕ) (heard : ℕ → Bool) (e : Entry) → Mine r c b k (suc k) s heard e → Believes r c i k (suc k) b s heard (Sent r c i k b) Rest e
believes r proper c i k b s heard e mine j a n octets cable sent worded =
    let t = sent a n cable worded in (
      t.0,
      λ u pid is.
          (mine_heard r c b k (suc k) s heard e mine (omega arith) j a n (counted (r.settings b) j (proper.cables b j a n cable).link_in).from_one cable (returned i octets) t.1 u pid is, tt),
    )
