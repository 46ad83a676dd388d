-- Demand 3 on the bench: set-up initializes the network's nodes in one host table, and each event of a run is a step of the network's list, or none. So the network's claim is true of the bench's host table.
use mathlib.Core.Path.{◌≡◌, refl, sym, ◌∙◌, ap, subst}
use mathlib.Core.Bool.{Bool, true, false, true≢false, cond}
use mathlib.Core.List.{List, [], ◌∷◌}
use Prim.Native.Nat.{ℕ, zero, suc, ◌+◌, ◌≤◌, ◌<◌}
use native.Mathlib.Nat.{zero-add, add-zero}
use native.Mathlib.Omega.{arith}
use borrow.Author.Tests.{ltb-true, eqb-true, eqb-false}
use lib.Dec.{ltb, eqb}
use lib.IntN.{ℤ, pos}
use lib.ListN.{length, get_or}
use lib.Seq.{get_or-set_same, get_or-set_other}
use Rattle.net_table.specs.declared.NetTable.{NetTable}
use Rattle.table.specs.declared.Entry.{Entry}
use Rattle.table.specs.Entry.{fresh_entry, up}
use Rattle.calls.specs.declared.Request.TheVariants.{Initialize}
use Rattle.calls.specs.Perform.{ask}
use Rattle.bench_file.specs.declared.Header.{Header}
use Rattle.bench_file.specs.Records.{event_at}
use Rattle.bench.specs.declared.HostState.{HostState}
use Rattle.bench.specs.Answer.{passes}
use Rattle.bench.specs.Bench.{Bench, fresh_host, copy_of, state_at}
use Rattle.bench.specs.Guard.{set_up_guard, run_guard}
use Rattle.bench.specs.Event.{After, asked, carried, kept}
use Rattle.bench.specs.Run.{header, all_set, set_up, next, steps, after_set_up}
use Rattle.network_laws.specs.History.{places, after_outcome}
use Rattle.network_laws.specs.Network.{Network, End, initialized, longest_way, Proper}
use Rattle.network_laws.specs.Demand3.{Right}
use Rattle.network_laws.specs.SharedTable.{SharedStep, SharedWorld, shared_step, shared_history, SharedAllowed, SharedAllows, OneTable, SharedDemand3, shared_entry}
use Rattle.network_laws.proofs.Demand3.Shared.{shared_demand_3}
use Rattle.bench_laws.specs.Calls.{host_at}
use Rattle.bench_laws.specs.Bound.{file_network, Wired, since_then, since_all, AllOnTime, Lot, after_runs, RunsOnTime, entry_at, Bound}
use Rattle.bench_laws.proofs.Guards.{Ready, next_ready}
use Rattle.bench_laws.proofs.Guards as guards
use Rattle.bench_laws.proofs.Called.{plain, same_copy}
use Rattle.bench.proofs.Named.{event_good_lem}
use Rattle.bench.proofs.Initialized.{beside}
use Rattle.bench_laws.proofs.SetUp.{set_up_ready, all_long, zeros_empty}
use Rattle.bench_laws.proofs.Held as holding
use Rattle.bench_laws.proofs.Held.{stayed, went}

module _ (file : List ℕ) (t : NetTable) where
  abbrev h : Header
  h = header file t

  -- the last of the initializations
  set_last : (k n : ℕ) (b : Bench) → all_set file t k (suc n) b ≡ (asked file t h (k + n) Initialize (all_set file t k n b)).bench
  unfolding all_set
  set_last k zero b = rw (add-zero k) refl
  set_last k (suc n) b =
      let e : suc k + n ≡ k + suc n = omega arith in
      set_last (suc k) n (asked file t h k Initialize b).bench
      ∙ ap (λ (j : ℕ). (asked file t h j Initialize (all_set file t (suc k) n (asked file t h k Initialize b).bench)).bench) e

  set_next : (n : ℕ) (b : Bench) → all_set file t 0 (suc n) b ≡ (asked file t h n Initialize (all_set file t 0 n b)).bench
  set_next n b = set_last 0 n b ∙ ap (λ (j : ℕ). (asked file t h j Initialize (all_set file t 0 n b)).bench) (zero-add n)

  module _ (first : Bench) (f : ℕ → ℤ) (cable : ℕ → ℕ → End) (longest : ℕ) where
    abbrev r : Network
    r = file_network file t first f cable longest

    -- ---- the beginning

    abbrev set : ℕ → HostState
    set a = record { clock = (initialized r a).clock; links = (initialized r a).links; walk = (initialized r a).walk }

    -- a host that is set stays so, while the others are set
    stays_set : (a n : ℕ) → a < n → n ≤ length first.hosts → host_at file (all_set file t 0 n first) a ≡ set a
    stays_set a zero l m = absurd (omega arith)
    stays_set a (suc n) l m = ap (λ (c : Bench). host_at file c a) (set_next n first) ∙ go (eqb a n) refl (stays_set a n)
      where
        long : length (all_set file t 0 n first).hosts ≡ length first.hosts
        long = (all_long file t 0 n first).hosts

        go : (c : Bool) → eqb a n ≡ c → (a < n → n ≤ length first.hosts → host_at file (all_set file t 0 n first) a ≡ set a)
            → host_at file (asked file t h n Initialize (all_set file t 0 n first)).bench a ≡ set a
        go true e before =
            let same = eqb-true a n e in
            rw same (get_or-set_same (all_set file t 0 n first).hosts n (set n) (fresh_host file n) (omega (arith, long)))
        go false e before =
            let other : a ≡ n → ⊥ = eqb-false a n e in
            get_or-set_other (all_set file t 0 n first).hosts n a _ (fresh_host file a) other ∙ before (omega (arith)) (omega arith)

    abbrev start : SharedWorld
    start = record { world = record { state = λ (k : ℕ). after_outcome k [] (initialized r k); mail = [] }; entries = (set_up file t first).entries }

    one_run : OneTable r start
    unfolding set_up
    one_run =
        record {
          starts = record { was_initialized = λ a l. refl; no_mail = refl };
          in_turn_lem = λ a l. ap (λ (c : Bench). c.entries) (set_next a first);
          last_after_lem = λ a e. ap (λ (n : ℕ). (all_set file t 0 n first).entries) (sym e) ∙ ap (λ (c : Bench). c.entries) (set_next a first);
        }

    module _ (passed-by : passes (set_up_guard t file first) ≡ true) where
      ready : Ready t file (set_up file t first)
      ready = set_up_ready file t first passed-by

      hosts_state : h.hosts ≤ length first.hosts
      unfolding set_up
      hosts_state = omega (arith, ready.long.hosts, (all_long file t 0 h.hosts first).hosts)

      begins : holding.Stands file t first f cable longest (set_up file t first) start (λ (s : ℕ). pos 0)
      unfolding set_up
      begins =
          record {
            tracks =
                record {
                  clock = λ a l. ap (λ (s : HostState). s.clock) (sym (stays_set a h.hosts l hosts_state));
                  links = λ a l. ap (λ (s : HostState). s.links) (sym (stays_set a h.hosts l hosts_state));
                  walk = λ a l. ap (λ (s : HostState). s.walk) (sym (stays_set a h.hosts l hosts_state));
                  copy = λ a l.
                      same_copy (ask Initialize) (state_at file t a (all_set file t 0 a first)) (plain (ask Initialize) refl)
                      ∙ ap (copy_of a) ((beside file t 0 a first).copies ∙ sym (beside file t 0 h.hosts first).copies);
                  entries = refl;
                };
            held = λ s l e. absurd (true≢false (sym (zeros_empty (all_set file t 0 h.hosts first).slots s l) ∙ e));
          }

    -- ---- a run

    abbrev Stands : Bench → SharedWorld → (ℕ → ℤ) → Type 0
    Stands b w since = holding.Stands file t first f cable longest b w since

    -- the steps that the network allows, and the state after them
    record Going (w : SharedWorld) (P : SharedWorld → Type 0) : Type 0 where
      taken : List SharedStep
      allows : SharedAllows r w taken
      ends : P (shared_history r w taken)

    still : {w : SharedWorld} {P : SharedWorld → Type 0} → P w → Going w P
    unfolding SharedAllows shared_history
    still p = record { taken = []; allows = tt; ends = p }

    more : {w : SharedWorld} {P : SharedWorld → Type 0} (x : SharedStep) → SharedAllowed r w x → Going (shared_step r w x) P → Going w P
    unfolding SharedAllows shared_history
    more x ok g = record { taken = x ∷ g.taken; allows = (ok, g.allows); ends = g.ends }

    -- and others after them
    goes_on : {P Q : SharedWorld → Type 0} (w : SharedWorld) (xs : List SharedStep) → SharedAllows r w xs → P (shared_history r w xs) → ((v : SharedWorld) → P v → Going v Q) → Going w Q
    unfolding SharedAllows shared_history
    goes_on w [] ok p rest = rest w p
    goes_on w (x ∷ xs) ok p rest = more x ok.0 (goes_on (shared_step r w x) xs ok.1 p rest)

    -- the answer kept, and one event more done
    keep : (a : After) (w : SharedWorld) (since : ℕ → ℤ) → Stands a.bench w since → Stands (kept a) w since
    keep a w since st = record { tracks = holding.again file t first f cable longest a.bench w _ _ _ st.tracks; held = st.held }

    module _ (wired : Wired file t cable) (ms : ℕ → ℤ) where
      -- one event, and the run after it
      behind : (u : NetTable) (b : Bench) (w : SharedWorld) (since : ℕ → ℤ) (P : SharedWorld → Type 0)
          → ((v : SharedWorld) → Stands (next file u b) v since → Going v P)
          → holding.Went file t first f cable longest w (carried file u h (event_at file h b.done) b).bench since → Going w P
      unfolding next
      behind u b w since P rest (stayed st) = rest w (keep (carried file u h (event_at file h b.done) b) w since st)
      behind u b w since P rest (went x ok st) =
          more x ok (rest (shared_step r w x) (keep (carried file u h (event_at file h b.done) b) (shared_step r w x) since st))

      going : (u : NetTable) (n : ℕ) (b : Bench) (w : SharedWorld) (since : ℕ → ℤ) → Ready u file b → Stands b w since → AllOnTime file u r ms n since b
          → Going w (λ (v : SharedWorld). Stands (steps file u n b) v (since_all file u ms n since b))
      unfolding steps AllOnTime since_all
      going u zero b w since ready st on_time = still st
      going u (suc n) b w since ready st on_time =
          go (ltb b.done h.events) refl
          (λ q.
          behind u b w (since_then file u (ms b.done) since (event_at file h b.done) b) _
          (λ v st'. going u n (next file u b) v _ (next_ready u file b ready q) st' (on_time q).1)
          (holding.moves file t first f cable longest u b ready w since st wired (ms b.done) (event_at file h b.done) (event_good_lem u file h ready.records b.done (ltb-true b.done h.events q)) (on_time q).0))
        where
          go : (c : Bool) → ltb b.done h.events ≡ c
              → (ltb b.done h.events ≡ true
              → Going w (λ (v : SharedWorld). Stands (steps file u n (next file u b)) v (since_all file u ms n (since_then file u (ms b.done) since (event_at file h b.done) b) (next file u b))))
              → Going w (λ (v : SharedWorld). Stands (steps file u (suc n) b) v (since_all file u ms (suc n) since b))
          go false q rest = rw q (still st)
          go true q rest = rw q (rest q)

      -- run after run
      goings : (runs : List Lot) (b : Bench) (w : SharedWorld) (since : ℕ → ℤ) → Stands b w since → RunsOnTime file r ms since runs b
          → Going w (λ (v : SharedWorld). v.entries ≡ (after_runs file runs b).entries)
      goings [] b w since st on_time = still st.tracks.entries
      goings (x ∷ xs) b w since st on_time = go (passes (run_guard x.nets file b)) refl (λ c v s. goings xs c v s) on_time.1
        where
          go : (c : Bool) → passes (run_guard x.nets file b) ≡ c
              → ((d : Bench) (v : SharedWorld) (s : ℕ → ℤ) → Stands d v s → RunsOnTime file r ms s xs d → Going v (λ (z : SharedWorld). z.entries ≡ (after_runs file xs d).entries))
              → RunsOnTime file r ms (cond c (since_all file x.nets ms x.allowance since b) since) xs (cond c (steps file x.nets x.allowance b) b)
              → Going w (λ (v : SharedWorld). v.entries ≡ (after_runs file xs (cond c (steps file x.nets x.allowance b) b)).entries)
          go true e rest later =
              let g = going x.nets x.allowance b w since (guards.ready x.nets file b e) st (on_time.0 e) in
              goes_on w g.taken g.allows g.ends (λ v st'. rest (steps file x.nets x.allowance b) v _ st' later)
          go false e rest later = rest b w since st later

    -- ---- the claim

    module _ (passed-by : passes (set_up_guard t file first) ≡ true) (proper : Proper r) (ways : longest ≤ longest_way) (wired : Wired file t cable) (ms : ℕ → ℤ) (runs : List Lot)
        (on_time : RunsOnTime file r ms (λ (slot : ℕ). pos 0) runs (set_up file t first)) where
      within : (a i : ℕ) → a < h.hosts → i < (r.settings a).layout.nhosts → up (entry_at (after_runs file runs (set_up file t first)) a i) ≡ true
          → Right r a i (entry_at (after_runs file runs (set_up file t first)) a i)
      unfolding SharedDemand3
      within a i ha hi live =
          let g = goings wired ms runs (set_up file t first) start (λ (slot : ℕ). pos 0) (begins passed-by) on_time in
          let e : shared_entry r (shared_history r start g.taken) a i ≡ entry_at (after_runs file runs (set_up file t first)) a i =
          ap (λ (l : List Entry). get_or (places a l) i fresh_entry) g.ends in
          subst (Right r a i) e
          (shared_demand_3 r proper ways start one_run g.taken g.allows a i ha hi (ap up e ∙ live))

pub bound_holds : Bound
unfolding Bound
bound_holds file t b e f cable longest proper ways wired ms runs on_time a i ha hi live =
    subst P (sym set) (λ on-time' live'. within file t b f cable longest e proper ways wired ms runs on-time' a i ha hi live') on_time live
  where
    set : after_set_up file t b ≡ set_up file t b
    set = rw e refl

    P : Bench → Type 0
    P c =
        RunsOnTime file (file_network file t b f cable longest) ms (λ (slot : ℕ). pos 0) runs c → up (entry_at (after_runs file runs c) a i) ≡ true
        → Right (file_network file t b f cable longest) a i (entry_at (after_runs file runs c) a i)
