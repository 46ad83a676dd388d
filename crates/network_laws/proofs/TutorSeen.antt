-- The lookups of specs/TutorSeen.antt, by computing.
use mathlib.Core.Path.{refl}
use Rattle.net_table.specs.declared.NetTable.{NetTable}
use Rattle.net_table.specs.Tutor.{add, remove}
use Rattle.calls.specs.Effects as effects
use Rattle.network_laws.specs.History.{ContinuesFully, after}
use Rattle.network_laws.specs.Class.{given, class_after, AllContinueIn, class_returned}
use Rattle.network_laws.specs.TutorSeen.{home, lookup, TutorSeen}
use Rattle.network_laws.proofs.Opened as rules

-- a lookup changes nothing
again : (t : NetTable) → ContinuesFully home (given t lookup).call_state
again t = record { own_clock = refl; all_links = refl; own_walk = refl; all_copy = refl; all_places = λ _. refl }

pub tutor_seen : TutorSeen
unfolding rules.opened add remove effects.lookup after class_after AllContinueIn class_returned
tutor_seen =
    record {
      call_state = (λ _. again _, (tt, (λ _. again _, (tt, (λ _. again _, tt)))));
      returned = refl;
      state_without = (λ _. again _, (λ _. again _, (λ _. again _, tt)));
      returned_without = refl;
    }
