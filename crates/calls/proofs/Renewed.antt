-- Initialization: what its own guard and plan result in is the outcome of the call.
use mathlib.Core.Path.{◌≡◌, refl, ◌∙◌}
use mathlib.Core.Bool.{true}
use lib.ListN.{length}
use Rattle.answer.specs.declared.Answer.{Answer}
use Rattle.table.specs.declared.entries.Change.TheVariants.{Fresh}
use Rattle.table.specs.code.Loops.{InEntries}
use Rattle.host.specs.declared.guard.Scope.TheVariants.{Places}
use Rattle.host.specs.Guard.{guard, done}
use Rattle.host.specs.CallState.{CallState}
use Rattle.host.specs.code.Held.{judged_initialize}
use Rattle.host.proofs.Judged.{guarded_initialized}
use Rattle.calls.specs.declared.Request.TheVariants.{Initialize}
use Rattle.calls.specs.Effects.{initialize}
use Rattle.calls.specs.code.Places.{placed}
use Rattle.calls.proofs.Performed.{worked}

module _ (x : CallState) where
  pub guard_is : (a : Answer) → a ≡ judged_initialize x.host.settings x.nets x.number (length x.entries) → a ≡ guard Places x
  guard_is a is = is ∙ guarded_initialized x

  pub places_fresh : done (guard Places x) ≡ true
      → InEntries (placed x.number (initialize x.host.settings).work).first (placed x.number (initialize x.host.settings).work).end x.entries × ((placed x.number (initialize x.host.settings).work).change ≡ Fresh)
  unfolding initialize
  places_fresh d = ((worked x Initialize d).places, refl)
