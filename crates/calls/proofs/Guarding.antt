-- A call after its guard: where the guard refuses, the call's outcome is the refusal; where it does not, it is the work.
use mathlib.Core.Path.{◌≡◌, refl, sym, ap, subst, ◌∙◌}
use mathlib.Core.Bool.{Bool, true, false, cond, not}
use Rattle.lists.proofs.Tests.{is_so}
use Rattle.answer.specs.declared.Answer.{Answer}
use Rattle.host.specs.declared.guard.Scope.{Scope}
use Rattle.host.specs.declared.Reply.{Reply}
use Rattle.host.specs.CallState.{CallState}
use Rattle.host.specs.Guard.{guard, done}
use Rattle.host.specs.Reply.{plainly}
use Rattle.calls.specs.Perform.{Call, Outcome, Leaves, scope_of_call, buffer_of, refused, work, perform}

abbrev judged : Call → CallState → Answer
judged call x = guard (scope_of_call call) x

abbrev outcome : Call → CallState → Bool → Outcome
outcome call x b = cond b (refused (judged call x) call x) (work call x)

module _ (call : Call) (x : CallState) where
  pub goes_on : done (judged call x) ≡ true → perform call x ≡ work call x
  unfolding perform
  goes_on d = subst (λ (b : Bool). outcome call x (not b) ≡ work call x) (sym d) refl

  module _ {a : Scope} {g : Answer} {b : Bool} (a-is : a ≡ scope_of_call call) (g-is : g ≡ guard a x) (b-is : b ≡ not (done g)) where
    guarded : g ≡ judged call x
    guarded = g-is ∙ ap (λ (a : Scope). guard a x) a-is

    tested : b ≡ not (done (judged call x))
    tested = b-is ∙ ap (λ (g : Answer). not (done g)) guarded

    pub passes : b ≡ false → done (judged call x) ≡ true
    passes out = is_so _ (sym tested ∙ out)

    pub refuses : b ≡ true → {r : Reply} → r ≡ plainly g → Leaves (perform call x) r x.host.clock x.host.links x.walk x.copy x.entries
    unfolding perform
    refuses within {r} r-is =
        subst (λ (b : Bool). Leaves (outcome call x b) r x.host.clock x.host.links x.walk x.copy x.entries) (sym within ∙ tested)
        record { reply = r-is ∙ ap plainly guarded; clock = refl; links = refl; walk = refl; copy = refl; entries = refl }

    pub keeps_buffer : b ≡ true → buffer_of call ≡ (perform call x).buffer
    unfolding perform
    keeps_buffer within = subst (λ (b : Bool). buffer_of call ≡ (outcome call x b).buffer) (sym within ∙ tested) refl
