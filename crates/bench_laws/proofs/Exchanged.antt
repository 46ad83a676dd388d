-- The exchange's room is proper, by cases; the rest is by computing.
use mathlib.Core.Path.{◌≡◌, refl}
use mathlib.Core.Bool.{Bool, true, false, cond, false≢true}
use Prim.Native.Nat.{ℕ, ◌-◌, ◌*◌, ◌≤◌, ◌<◌}
use native.Mathlib.Omega.{arith}
use borrow.Author.Tests.{eqb-true}
use lib.Dec.{eqb}
use lib.IntN.{pos, ◌-ℤ◌, nat_abs}
use Rattle.answer.specs.declared.Answer.TheVariants.{Done}
use Rattle.clock.specs.Clock as clock
use Rattle.route.specs.Find.{same_net}
use Rattle.table.specs.Entry.{aged}
use Rattle.host.specs.Settings.{clock_setting_off}
use Rattle.calls.specs.Effects as effects
use Rattle.bench_file.specs.Header.{header_of, header_fits}
use Rattle.bench_file.specs.Records.{end_at, event_of}
use Rattle.bench_file.specs.Settings.{settings_of, marks_good, hosts_good}
use Rattle.bench_file.specs.Absent.{end_good, cable_good, cables_good, events_good}
use Rattle.bench.specs.Slots.{slots_good}
use Rattle.bench.specs.Guard.{records_good, lengths_fit, file_tested}
use Rattle.bench.specs.Run.{all_set, set_up, next, steps, after_set_up}
use Rattle.network_laws.specs.Network.{loose, at, clock_spread, initialized, HostAt, Cabled, Proper}
use Rattle.network_laws.specs.TwoNodes.{wire}
use Rattle.network_laws.proofs.Opened.{opened}
use Rattle.network_laws.proofs.Demand3.TwoNodes.{below_2, apart}
use Rattle.bench_laws.specs.Bound.{Wired, since_all, AllOnTime, RunsOnTime}
use Rattle.bench_laws.specs.Exchange.{file, room, runs, Exchange}
use Rattle.bench_laws.specs.Exchange as exchange
use Rattle.bench_laws.specs.Example.{class, first_state}

pairs : (P : ℕ → ℕ → Type 0) → P 0 0 → P 0 1 → P 1 0 → P 1 1 → (a b : ℕ) → a < 2 → b < 2 → P a b
pairs P p q s t a b l m = below_2 (λ (x : ℕ). P x b) (below_2 (P 0) p q b m) (below_2 (P 1) s t b m) a l

two : room.nodes ≡ 2
two = refl

-- ---- the one cable, from both ends

from_0 : Cabled room 0 1 1 1
unfolding opened settings_of
from_0 = record { node_in = omega (arith, two); link_in = refl; point_to_point = refl; two_nodes = λ e. omega arith; other_end = refl }

from_1 : Cabled room 1 1 0 1
unfolding opened settings_of
from_1 = record { node_in = omega (arith, two); link_in = refl; point_to_point = refl; two_nodes = λ e. omega arith; other_end = refl }

wires : (a i b j : ℕ) → wire a i ≡ at b j → Cabled room a i b j
wires a i b j = go (eqb i 1) (eqb a 0) (eqb a 1) refl refl refl
  where
    go : (t u v : Bool) → eqb i 1 ≡ t → eqb a 0 ≡ u → eqb a 1 ≡ v → cond t (cond u (at 1 1) (cond v (at 0 1) loose)) loose ≡ at b j → Cabled room a i b j
    go true true v t u w e =
        let eb : b ≡ 1 = cc in let ej : j ≡ 1 = cc in rw (eqb-true i 1 t, eqb-true a 0 u, eb, ej) from_0
    go true false true t u w e =
        let eb : b ≡ 0 = cc in let ej : j ≡ 1 = cc in rw (eqb-true i 1 t, eqb-true a 1 w, eb, ej) from_1
    go true false false t u w e = absurd (let z : ◌≡◌ {A = ℕ} 0 1 = cc in omega arith)
    go false u v t x w e = absurd (let z : ◌≡◌ {A = ℕ} 0 1 = cc in omega arith)

proper : Proper room
unfolding opened settings_of all_set
proper =
    record {
      sixteen = omega (arith, two);
      numbers_differ = λ a b l m e. e;
      was_initialized = below_2 (λ (a : ℕ). (initialized room a).reply.answer ≡ Done) refl refl;
      one_net = pairs (λ (a b : ℕ). same_net (room.settings a).address (room.settings b).address ≡ true) refl refl refl refl;
      marked_once = λ a b id l m.
          pairs (λ (a b : ℕ). HostAt room id a → HostAt room id b → a ≡ b) (λ _ _. refl)
          (λ e f. absurd (apart (room.settings 0).marks (room.settings 1).marks refl refl id e f))
          (λ e f. absurd (apart (room.settings 0).marks (room.settings 1).marks refl refl id f e)) (λ _ _. refl) a b l m;
      one_layout = pairs (λ (a b : ℕ). (room.settings a).layout ≡ (room.settings b).layout) refl refl refl refl;
      setting_off = below_2 (λ (a : ℕ). (room.settings a).clock_host ≡ clock_setting_off) refl refl;
      fixed_near = pairs (λ (a b : ℕ). nat_abs (pos (500 * a) -ℤ pos (500 * b)) ≤ clock_spread) (omega arith) (omega arith) (omega arith) (omega arith);
      cables = wires;
    }

wired : Wired file class wire
wired c i lc li = rw (one_cable) (below_2 (λ (j : ℕ). wire (end_at file (header_of file) 0 j).host (end_at file (header_of file) 0 j).link ≡ at (end_at file (header_of file) 0 (1 - j)).host (end_at file (header_of file) 0 (1 - j)).link) refl refl i (omega arith))
  where
    cables : (header_of file).cables ≡ 1
    cables = refl

    one_cable : c ≡ 0
    one_cable = omega (arith, lc, cables)

-- each event at its millisecond
on_time : RunsOnTime file room exchange.at (λ (slot : ℕ). pos 0) runs (after_set_up file class first_state)
unfolding AllOnTime since_all opened clock.hold_second aged effects.second header_fits event_of settings_of marks_good hosts_good end_good cable_good cables_good events_good slots_good records_good lengths_fit file_tested all_set set_up next steps
on_time = (
  λ _ _. (tt, λ _. (λ _. record { clock = refl; no_midnight = record { lt = tt } }, λ _. (λ _ _. record { reads = record { clock = refl; no_midnight = record { lt = tt } }; way = 0; short = omega arith; later = refl }, λ _. (λ _. record { clock = refl; no_midnight = record { lt = tt } }, λ _. (λ _ _. record { reads = record { clock = refl; no_midnight = record { lt = tt } }; way = 0; short = omega arith; later = refl }, tt))))),
  (λ _ _. (λ _. record { clock = refl; no_midnight = record { lt = tt } }, λ _. (λ _ _. record { reads = record { clock = refl; no_midnight = record { lt = tt } }; way = 101; short = omega arith; later = refl }, λ _. (tt, λ none. absurd (false≢true none)))), tt),
)

pub exchange_holds : Exchange
unfolding opened clock.hold_second aged effects.second header_fits event_of settings_of marks_good hosts_good end_good cable_good cables_good events_good slots_good records_good lengths_fit file_tested all_set set_up next steps
exchange_holds = record { passed = refl; proper = proper; ways = omega arith; wired = wired; on_time = on_time; delay = refl; error = refl }
