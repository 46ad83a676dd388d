-- A node marks its own id, by answer 1; and a live entry's id is marked at some node, by demand 3. No other node marks either.
use Rattle.std.specs.Prelude.{Option, Some, None, is_some}
use mathlib.Core.Path.{◌≡◌, refl, sym, ap, subst, ◌∙◌}
use mathlib.Core.Bool.{false≢true}
use Prim.Native.Nat.{ℕ, ◌<◌}
use Rattle.host.specs.Settings.{own_id}
use Rattle.host.proofs.Sound.{sound}
use Rattle.network_laws.specs.Network.{Network, Proper}
use Rattle.network_laws.specs.Demand3.{history, entry_of, Claim, AllCallsWithin}
use Rattle.network_laws.specs.MarkedOnce.{RightBy, MarkedOnce}
use Rattle.network_laws.proofs.Demand3.Nodes.{set_good, own_host}
use Rattle.network_laws.proofs.Demand3.Histories.{all_calls}

own_ids : (r : Network) → Proper r → (a b : ℕ) → a < r.nodes → b < r.nodes → own_id (r.settings a) ≡ own_id (r.settings b) → a ≡ b
own_ids r proper a b ha hb same = go (own_id (r.settings a)) refl
  where
    go : (f : Option ℕ) → own_id (r.settings a) ≡ f → a ≡ b
    go (Some i) is = proper.marked_once a b i ha hb (own_host r a proper ha i is) (own_host r b proper hb i (sym same ∙ is))
    go None is = absurd (false≢true (ap is_some (sym is) ∙ (sound (r.settings a) (set_good r a (proper.was_initialized a ha))).own_id_lem))

pub marked_once_holds : MarkedOnce
unfolding AllCallsWithin Claim
marked_once_holds =
    record {
      own_ids_differ = own_ids;
      true_difference = λ r proper ways w starts xs ok a b i ha hb hi here alive.
          let e = all_calls r proper ways w starts xs ok b i hb hi alive in
          subst (λ (c : ℕ). RightBy r c b (entry_of r (history r w xs) b i)) (proper.marked_once e.node a i e.node_in ha e.host_there here) e.close;
    }
