-- Every call is its guard and then its work: what is so of a refusal by the guard and of the work is so of the call.
use mathlib.Core.Path.{◌≡◌}
use mathlib.Core.Bool.{true, false, or-true}
use lib.Dec.{ltb}
use lib.ListN.{length}
use Rattle.answer.specs.declared.Answer.{Answer}
use Rattle.answer.specs.declared.Answer.TheVariants.{OutOfRange}
use Rattle.net_table.specs.Table.{table_bad}
use Rattle.host.specs.declared.guard.Scope.{Scope}
use Rattle.host.specs.declared.guard.Scope.TheVariants.{Places, All, OnLink, Opening, Walking}
use Rattle.host.specs.State.{no_link}
use Rattle.host.specs.CallState.{CallState}
use Rattle.host.specs.Guard.{no_places, longest, own_out_of_range, guard, done}
use Rattle.host.proofs.Places.{Holds}
use Rattle.host.proofs.Guarded.{passed, holds}
use Rattle.host.proofs.Guarded as guarded
use Rattle.calls.specs.Perform.{Call, Outcome, scope_of_call, refused, work, perform}

abbrev pub guard_of : Call → CallState → Answer
guard_of c x = guard (scope_of_call c) x

module _ (c : Call) (x : CallState) where
  pub performs : (P : Outcome → Type 0) → (done (guard_of c x) ≡ false → P (refused (guard_of c x) c x))
      → (done (guard_of c x) ≡ true → P (work c x)) → P (perform c x)
  unfolding perform
  performs P refuses works = guarded.either P (guard_of c x) refuses works

  -- a call that passes its guard has all of the host's places in the host table
  pub there : done (guard_of c x) ≡ true → Holds x.number x.entries
  there e = holds x.number x.entries (passed (scope_of_call c) x e).places

  -- a host table without them
  missing : no_places x.number x.entries ≡ true → (a : Scope) → own_out_of_range a x ≡ true
  missing e Places = e
  missing e All = rw e
  missing e Walking = rw e
  missing e (OnLink i) = rw e (or-true (no_link x.host.settings i))
  missing e (Opening i) = rw (e, or-true (no_link x.host.settings i)) (or-true (ltb (length x.copy) longest))

  pub perform_short : no_places x.number x.entries ≡ true → perform c x ≡ refused OutOfRange c x
  unfolding perform guard
  perform_short e = rw (missing e (scope_of_call c), or-true (table_bad x.nets))
