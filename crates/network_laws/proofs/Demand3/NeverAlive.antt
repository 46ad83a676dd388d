-- An entry that is up names a host of the network, and so an id that some node marks.
use mathlib.Core.Path.{◌≡◌, refl}
use mathlib.Core.Bool.{Bool, true, false}
use Rattle.table.specs.Entry.{up}
use Rattle.network_laws.specs.Demand3.{entry_of, history, AllCallsWithin, Claim}
use Rattle.network_laws.specs.NeverAlive.{NeverAlive}
use Rattle.network_laws.proofs.Demand3.Histories.{all_calls}

pub never_alive_holds : NeverAlive
unfolding NeverAlive AllCallsWithin Claim
never_alive_holds r proper short w starts xs allows i nowhere b inside below = go (up (entry_of r (history r w xs) b i)) refl
  where
    go : (t : Bool) → up (entry_of r (history r w xs) b i) ≡ t → t ≡ false
    go false e = refl
    go true e =
        let known = all_calls r proper short w starts xs allows b i inside below e in
        absurd (nowhere known.node known.node_in known.host_there)
