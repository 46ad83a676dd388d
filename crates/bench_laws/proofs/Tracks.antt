-- A call of the bench is a step in the network: it gets the state after its node's last call, and the state afterwards is the bench's.
use mathlib.Core.Path.{◌≡◌, refl, sym, ◌∙◌, ap}
use mathlib.Core.Bool.{Bool, true, false, cond}
use mathlib.Core.List.{List}
use Prim.Native.Nat.{ℕ, ◌<◌}
use borrow.Author.Tests.{eqb-true}
use lib.Dec.{eqb}
use lib.IntN.{ℤ}
use lib.ListN.{length, set, get_or}
use Rattle.clock.specs.declared.Counter.{Counter}
use Rattle.net_table.specs.declared.NetTable.{NetTable}
use Rattle.host.specs.CallState as host
use Rattle.calls.specs.Perform.{Outcome, perform}
use Rattle.bench_file.specs.Settings.{settings_at}
use Rattle.bench.specs.declared.HostState.{HostState}
use Rattle.bench.specs.Bench.{Bench, fresh_host, copy_of, state_at}
use Rattle.bench.specs.Event.{after_at}
use Rattle.bench.specs.Run.{header}
use Rattle.network_laws.specs.Locality.{own_links}
use Rattle.network_laws.specs.History.{HostAfter, put, after_outcome, after}
use Rattle.network_laws.specs.Network.{Network, End}
use Rattle.network_laws.specs.Demand3.{NetworkCall, call_of, result, step, Timely, Reads}
use Rattle.network_laws.specs.SharedTable.{SharedStep, SharedWorld, call_state, shared_step, SharedAllowed}
use Rattle.bench_laws.specs.Calls.{host_at}
use Rattle.bench_laws.specs.Bound.{file_network, ReadsAt}
use Rattle.bench_laws.proofs.Called.{Plain, same_copy, as_put}

module _ (file : List ℕ) (t : NetTable) (first : Bench) (f : ℕ → ℤ) (cable : ℕ → ℕ → End) (longest : ℕ) where
  abbrev r : Network
  r = file_network file t first f cable longest

  -- the network has of each node what the bench has, except the places, which are in the shared host table
  pub record Tracks (b : Bench) (w : SharedWorld) : Type 0 where
    pub clock : (a : ℕ) → a < (header file t).hosts → (w.world.state a).clock ≡ (host_at file b a).clock
    pub links : (a : ℕ) → a < (header file t).hosts → (w.world.state a).links ≡ (host_at file b a).links
    pub walk : (a : ℕ) → a < (header file t).hosts → (w.world.state a).walk ≡ (host_at file b a).walk
    pub copy : (a : ℕ) → a < (header file t).hosts → (w.world.state a).copy ≡ copy_of a b.copies
    pub entries : w.entries ≡ b.entries

  -- a call that gets the class's net table of that time
  module _ (u : NetTable) (b : Bench) (w : SharedWorld) (tr : Tracks b w) (k : ℕ) (here : k < (header file t).hosts) (there : k < length b.hosts) where
    -- our reading there
    pub reads : (c : Counter) (ms : ℤ) → ReadsAt file u r b k c ms → Reads r w.world k c ms
    reads c ms h = record { clock = rw (tr.clock k here) h.clock; no_midnight = rw (tr.clock k here) h.no_midnight }

    module _ (q : NetworkCall) (p : Plain (call_of q)) where
      abbrev pub taken : SharedStep
      taken = record { node = k; nets = u; links = (host_at file b k).links; copy = (w.world.state k).copy; call = q }

      abbrev pub o : Outcome
      o = perform (call_of q) (state_at file u k b)

      pub same_result : result r w.world (call_state w taken) ≡ o
      same_result =
          λ i.
          perform (call_of q)
          (host.call_state (settings_at file k) u k (tr.clock k here i) (host_at file b k).links (tr.walk k here i) (tr.copy k here i) (tr.entries i))

      pub allowed : Timely r w.world k (result r w.world (call_state w taken)) q → SharedAllowed r w taken
      allowed timely = record { node_in = here; own_links_lem = ap (own_links (settings_at file k)) (sym (tr.links k here)); own_packet = refl; timely = timely }

      -- the state of a node, changed by the call or not
      at_node : {A : Type 0} (G : HostAfter → A) (F : HostState → A) (y : HostState) → G (after_outcome k (w.world.state k).places (result r w.world (call_state w taken))) ≡ F y
          → (a : ℕ) → G (w.world.state a) ≡ F (host_at file b a)
          → G (put k (after_outcome k (w.world.state k).places (result r w.world (call_state w taken))) w.world.state a) ≡ F (get_or (set b.hosts k y) a (fresh_host file a))
      at_node G F y own a kept = go (eqb a k) ∙ sym (ap (λ g. g a) (as_put F b.hosts (fresh_host file) k y there))
        where
          go : (c : Bool) → G (cond c (after_outcome k (w.world.state k).places (result r w.world (call_state w taken))) (w.world.state a)) ≡ cond c (F y) (F (host_at file b a))
          go true = own
          go false = kept

      copies : (a : ℕ) → a < (header file t).hosts → (c : Bool) → eqb a k ≡ c
          → (put k (after_outcome k (w.world.state k).places (result r w.world (call_state w taken))) w.world.state a).copy ≡ copy_of a b.copies
      copies a h true e =
          rw e
          (ap (λ (z : Outcome). z.copy) same_result ∙ same_copy (call_of q) (state_at file u k b) p ∙ ap (λ (j : ℕ). copy_of j b.copies) (sym (eqb-true a k e)))
      copies a h false e = rw e (tr.copy a h)

      pub tracks : Tracks (after_at k o b) (shared_step r w taken)
      unfolding shared_step step after
      tracks =
          let y : HostState = record { clock = o.clock; links = o.links; walk = o.walk } in
          record {
            clock = λ a h. at_node (λ l. l.clock) (λ s. s.clock) y (ap (λ (z : Outcome). z.clock) same_result) a (tr.clock a h);
            links = λ a h. at_node (λ l. l.links) (λ s. s.links) y (ap (λ (z : Outcome). z.links) same_result) a (tr.links a h);
            walk = λ a h. at_node (λ l. l.walk) (λ s. s.walk) y (ap (λ (z : Outcome). z.walk) same_result) a (tr.walk a h);
            copy = λ a h. copies a h (eqb a k) refl;
            entries = ap (λ (z : Outcome). z.entries) same_result;
          }
