-- NET-10: the tutor's calls do matter: a lookup before a row is added, after it, and after it is removed, computed.
use Rattle.std.specs.Prelude.{◌≡◌, List, [], ◌∷◌, map, ℕ}
use Rattle.calendar.specs.Date.{first_date}
use Rattle.answer.specs.declared.Answer.{Answer}
use Rattle.answer.specs.declared.Answer.TheVariants.{NoHost, HostDown}
use Rattle.clock.specs.Clock.{fresh_clock}
use Rattle.net_table.specs.Table.{table_of}
use Rattle.host.specs.State.{fresh_links}
use Rattle.host.specs.Walk.{no_walk}
use Rattle.calls.specs.declared.Request.TheVariants.{Lookup}
use Rattle.calls.specs.Perform.{ask}
use Rattle.network_laws.specs.HostAfter.{Returned}
use Rattle.network_laws.specs.History.{HostAfter}
use Rattle.network_laws.specs.Class.{adds, removes, NodeCall, ClassEvent, node, tutor, Class, AllContinueIn, class_returned}
use Rattle.network_laws.specs.TwoNodes.{places_of}
use Rattle.network_laws.specs.MidWalk.{far, settings, now}

-- NET-10: the host's state
abbrev pub home : HostAfter
home = record { clock = fresh_clock now first_date; links = fresh_links settings; walk = no_walk; copy = []; places = places_of 0 }

-- NET-10: a class of three ids without rows
abbrev pub class : Class
class = record { table = table_of 3 []; left = λ (k : ℕ). home }

-- NET-10: a lookup of 10.0.0.5
abbrev pub lookup : NodeCall
lookup =
    record {
      call = ask (Lookup far);
      settings = settings;
      number = 0;
      clock = home.clock;
      links = home.links;
      walk = home.walk;
      copy = home.copy;
      entries = home.places;
    }

-- NET-10: three lookups, a row added and removed between them
abbrev pub exercise : List ClassEvent
exercise = node lookup ∷ tutor (adds record { first = 10; second = 0; third = 0 } 1) ∷ node lookup ∷ tutor (removes 1) ∷ node lookup ∷ []

-- NET-10: the same without the tutor
abbrev pub without_tutor : List ClassEvent
without_tutor = node lookup ∷ node lookup ∷ node lookup ∷ []

-- NET-10: the answers
abbrev pub answers_of : List Returned → List Answer
answers_of = map (λ (t : Returned). t.reply.answer)

-- NET-10: the answers differ
pub record TutorSeen : Type 0 where
  pub call_state : AllContinueIn 0 class exercise
  pub returned : answers_of (class_returned 0 class exercise) ≡ NoHost ∷ HostDown ∷ NoHost ∷ []
  pub state_without : AllContinueIn 0 class without_tutor
  pub returned_without : answers_of (class_returned 0 class without_tutor) ≡ NoHost ∷ NoHost ∷ NoHost ∷ []
