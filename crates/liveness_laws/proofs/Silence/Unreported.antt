-- The law of silence with no host outside the claim, and from 0: a host that does not report itself has no other source for its ids than the tables.
use mathlib.Core.Path.{refl, subst}
use mathlib.Core.List.{List, [], ◌∷◌}
use mathlib.Core.Logic.{inr}
use Prim.Native.Nat.{ℕ, ◌*◌}
use native.Mathlib.Omega.{arith}
use Rattle.network_laws.specs.Network.{Network, Proper}
use Rattle.network_laws.specs.Demand3.{NetworkCall, ticks, seconds, reports, sends, arrives, acts, inspects, opens, steps, adjusts, sets, clocks, looks, Step, World, step, entry_of}
use Rattle.liveness_laws.specs.Numbers.{rise}
use Rattle.liveness_laws.specs.Seconds.{emptied}
use Rattle.liveness_laws.specs.Rounds.{Reported}
use Rattle.liveness_laws.specs.Silence.{NotFrom, Unheard, NothingOf}
use Rattle.liveness_laws.specs.Unreported.{UnreportedEpoch, UnreportedHostFades, UnreportedHostGone}
use Rattle.liveness_laws.proofs.Silence.Epochs.{epochs, entry_fades, sized, down_at}

module _ (r : Network) (proper : Proper r) where
  -- the number after the last host's: no cable leads there
  no_cable : (b i : ℕ) → NotFrom r r.nodes b i
  no_cable b i j cable =
      let back = (proper.cables b i r.nodes j cable).other_end in
      let inside = (proper.cables r.nodes j b i back).node_in in
      omega (arith, inside)

  nothing_of : (w : World) (b : ℕ) (call : NetworkCall) → Unheard r w r.nodes b call
  nothing_of w b (ticks n) = tt
  nothing_of w b seconds = tt
  nothing_of w b (reports k) = tt
  nothing_of w b (sends i k buffer t) = tt
  nothing_of w b (arrives i k packet t) = no_cable b i
  nothing_of w b (acts i k packet t) = no_cable b i
  nothing_of w b (inspects i packet) = tt
  nothing_of w b (opens i packet) = tt
  nothing_of w b (steps k t) = λ _ _. no_cable b _
  nothing_of w b (adjusts n) = tt
  nothing_of w b (sets ms n) = tt
  nothing_of w b (clocks κ) = tt
  nothing_of w b (looks d) = tt

  nothing_heard : (w : World) (xs : List Step) → NothingOf r w r.nodes xs
  unfolding NothingOf
  nothing_heard w [] = tt
  nothing_heard w (x ∷ xs) = (nothing_of w x.node x.call, nothing_heard (step r w x) xs)

pub unreported_fades_holds : UnreportedHostFades
unfolding UnreportedHostFades
unreported_fades_holds r proper ways w start xs ok c i hc host k v es b hb below up =
    let few = sized r proper b i hb below in
    let last = epochs r proper ways r.nodes i few 0 (omega arith) (inr refl) (UnreportedEpoch r c)
    (λ u ys e.
    record {
      allowed = e.allowed;
      unheard = nothing_heard r proper (emptied u) ys;
      hushed = λ a ha _ home said. e.unreported (subst (λ (d : ℕ). Reported r (emptied u) d ys) (proper.marked_once a c i ha hc home host) said);
      long = λ a ha _. e.long a ha;
    }) w start xs ok k v es in
    entry_fades r proper ways r.nodes i few v last.fades (omega arith) b hb (λ z. omega (arith, z, hb)) up

pub unreported_gone_holds : UnreportedHostGone
unfolding UnreportedHostGone UnreportedHostFades
unreported_gone_holds r proper ways w start xs ok c i hc host k v es many b hb below =
    down_at (rise * k) (entry_of r v b i) (omega arith) (unreported_fades_holds r proper ways w start xs ok c i hc host k v es b hb below)
