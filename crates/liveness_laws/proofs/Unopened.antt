-- Without an opening no walk is open, because every other call keeps the walk, and a step without a walk changes nothing.
use mathlib.Core.Path.{◌≡◌, refl, sym, ap, subst, ◌∙◌}
use mathlib.Core.Bool.{false, true≢false, false≢true, not}
use mathlib.Core.List.{List, [], ◌∷◌}
use lib.Dec.{eqb}
use Rattle.lists.proofs.Tests.{either, is_so}
use Rattle.answer.specs.declared.Answer.TheVariants.{Done}
use Rattle.host.specs.declared.Effect.{Effect}
use Rattle.host.specs.Guard.{done}
use Rattle.host.specs.CallState.{CallState}
use Rattle.host.specs.Walk.{is_open}
use Rattle.walk.specs.Boxes as boxes
use Rattle.calls.specs.declared.Request.TheVariants as request
use Rattle.calls.specs.declared.Request.TheVariants.{Initialize}
use Rattle.calls.specs.Effects.{initialize}
use Rattle.calls.specs.Perform.{Call, ask, Outcome, carried_out, perform}
use Rattle.network_laws.specs.Frame.{Elsewhere, Frame}
use Rattle.network_laws.specs.History.{HostAfter, after}
use Rattle.network_laws.specs.Network.{Network, state_at}
use Rattle.network_laws.specs.Demand3.{NetworkCall, ticks, seconds, reports, sends, arrives, acts, inspects, opens, steps, adjusts, sets, clocks, looks, call_of, Step, World, event_of, step, history, Allowed, Allows}
use Rattle.network_laws.proofs.Performs.{performs}
use Rattle.network_laws.proofs.Demand1.Frame.{frame_holds}
use Rattle.network_laws.proofs.Demand3.Histories.{unlike}
use Rattle.liveness_laws.specs.Rounds.{NoWalks}
use Rattle.liveness_laws.specs.WithoutWalks.{Unopened, AllUnopened, NeverBox1, WithoutWalks}

module _ (x : CallState) (shut : is_open x.walk ≡ false) where
  kept : (call : Call) → Elsewhere call → is_open (perform call x).walk ≡ false
  unfolding Frame
  kept call else = ap is_open ((frame_holds call x).walk else) ∙ shut

  stays_shut : (call : NetworkCall) → Unopened call → is_open (perform (call_of call) x).walk ≡ false
  unfolding boxes.step
  stays_shut (ticks n) may = kept (call_of (ticks n)) record { not_initialize = λ e. unlike cc; not_opening = λ i packet e. unlike cc; not_step = λ k e. unlike cc }
  stays_shut seconds may = kept (call_of seconds) record { not_initialize = λ e. unlike cc; not_opening = λ i packet e. unlike cc; not_step = λ k e. unlike cc }
  stays_shut (reports κ) may = kept (call_of (reports κ)) record { not_initialize = λ e. unlike cc; not_opening = λ i packet e. unlike cc; not_step = λ k e. unlike cc }
  stays_shut (sends j κ buffer t) may = kept (call_of (sends j κ buffer t)) record { not_initialize = λ e. unlike cc; not_opening = λ i packet e. unlike cc; not_step = λ k e. unlike cc }
  stays_shut (arrives j κ packet t) may = kept (call_of (arrives j κ packet t)) record { not_initialize = λ e. unlike cc; not_opening = λ i packet e. unlike cc; not_step = λ k e. unlike cc }
  stays_shut (acts j κ packet t) may = kept (call_of (acts j κ packet t)) record { not_initialize = λ e. unlike cc; not_opening = λ i packet e. unlike cc; not_step = λ k e. unlike cc }
  stays_shut (inspects j packet) may = kept (call_of (inspects j packet)) record { not_initialize = λ e. unlike cc; not_opening = λ i packet e. unlike cc; not_step = λ k e. unlike cc }
  stays_shut (opens j packet) may = absurd may
  stays_shut (steps κ t) may =
      performs (ask (request.Step κ)) x (λ (o : Outcome). is_open o.walk ≡ false) (λ _. shut)
      (λ _. either (λ (y : Effect). is_open (carried_out y x).walk ≡ false) (not (is_open x.walk)) _ _ (λ _. shut) (λ f. absurd (true≢false (sym (is_so _ f) ∙ shut))))
  stays_shut (adjusts n) may = kept (call_of (adjusts n)) record { not_initialize = λ e. unlike cc; not_opening = λ i packet e. unlike cc; not_step = λ k e. unlike cc }
  stays_shut (sets ms n) may = kept (call_of (sets ms n)) record { not_initialize = λ e. unlike cc; not_opening = λ i packet e. unlike cc; not_step = λ k e. unlike cc }
  stays_shut (clocks κ) may = kept (call_of (clocks κ)) record { not_initialize = λ e. unlike cc; not_opening = λ i packet e. unlike cc; not_step = λ k e. unlike cc }
  stays_shut (looks d) may = kept (call_of (looks d)) record { not_initialize = λ e. unlike cc; not_opening = λ i packet e. unlike cc; not_step = λ k e. unlike cc }

module _ (r : Network) where
  one_step : (w : World) → NoWalks r w → (x : Step) → Allowed r w x → Unopened x.call → NoWalks r (step r w x)
  unfolding step after
  one_step w shut x ok may b hb =
      either (λ (y : HostAfter). is_open y.walk ≡ false) (eqb (r.number b) (r.number x.node)) _ _ (λ _. stays_shut (event_of r w x).call_state (shut x.node ok.node_in) x.call may) (λ _. shut b hb)

  never : (w : World) → NoWalks r w → (xs : List Step) → Allows r w xs → AllUnopened xs → NeverBox1 r w xs
  unfolding Allows AllUnopened NeverBox1
  never w shut [] ok may = tt
  never w shut (x ∷ xs) ok may = (λ opened. absurd (true≢false (sym opened ∙ shut x.node ok.0.node_in)), never (step r w x) (one_step w shut x ok.0 may.0) xs ok.1 may.1)

  still : (w : World) → NoWalks r w → (xs : List Step) → Allows r w xs → AllUnopened xs → NoWalks r (history r w xs)
  unfolding Allows AllUnopened history
  still w shut [] ok may = shut
  still w shut (x ∷ xs) ok may = still (step r w x) (one_step w shut x ok.0 may.0) xs ok.1 may.1

pub without_walks : WithoutWalks
unfolding initialize
without_walks =
    record {
      start =
          λ r proper w start b hb.
          subst (λ (y : HostAfter). is_open y.walk ≡ false) (sym (start.was_initialized b hb))
          (performs (ask Initialize) (state_at r b (r.nets b) (r.clock b) (r.links b) (r.walk b) (r.copy b) (r.entries b)) (λ (o : Outcome). o.reply.answer ≡ Done → is_open o.walk ≡ false)
          (λ no is. absurd (false≢true (sym no ∙ ap done is))) (λ _ _. refl) (proper.was_initialized b hb));
      box_1 = never;
      over = still;
    }
