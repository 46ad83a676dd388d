-- What an event does not change: the lengths of the caller's slices, the copies and the answers. The slots' labels stay good.
use mathlib.Core.Path.{◌≡◌, refl, sym, ◌∙◌, ap}
use mathlib.Core.Bool.{true, false≢true}
use mathlib.Core.List.{List}
use Prim.Native.Nat.{ℕ, ◌*◌, ◌≤◌}
use lib.ListN.{length, length-set}
use Rattle.lists.proofs.Tests.{either}
use Rattle.clock.specs.declared.Counter.{Counter}
use Rattle.net_table.specs.declared.NetTable.{NetTable}
use Rattle.host.specs.CallState.{CallState}
use Rattle.calls.specs.declared.Request.{Request}
use Rattle.calls.specs.Perform.{Outcome, ask, send, receive, perform, in_turn}
use Rattle.bench_file.specs.declared.Header.{Header}
use Rattle.bench_file.specs.declared.End.{End}
use Rattle.bench_file.specs.declared.Event.{Event}
use Rattle.bench_file.specs.declared.Event.TheVariants.{Tick, Adjust, Set, Second, SelfReport, Send, Arrival, Unknown}
use Rattle.bench_file.specs.Records.{end_at}
use Rattle.bench_file.specs.Absent.{slots, event_good}
use Rattle.bench.specs.Bench.{Bench, state_at}
use Rattle.bench.specs.Slots.{slot_length, room_of, packet_of, empty, far_end, slots_good}
use Rattle.bench.specs.Event.{After, after_at, asked, sent, taken, carried}
use Rattle.network_laws.proofs.Demand1.Frame.{kept_places}
use Rattle.network_laws.proofs.Pair.{pair_holds}
use Rattle.bench.proofs.Kept.{SlotsKept, slots_kept}

pub record Same (h : Header) (b c : Bench) : Type 0 where
  pub entries : length c.entries ≡ length b.entries
  pub hosts : length c.hosts ≡ length b.hosts
  pub copies : c.copies ≡ b.copies
  pub slots : length c.slots ≡ length b.slots
  pub good : slots_good h b.slots ≡ true → slots_good h c.slots ≡ true
  pub answers : c.answers ≡ b.answers

module _ (file : List ℕ) (t : NetTable) (h : Header) where
  -- a call at a host
  at_host : (k : ℕ) (o : Outcome) (b : Bench) → length o.entries ≡ length b.entries → Same h b (after_at k o b)
  at_host k o b e = record { entries = e; hosts = simp length-set; copies = refl; slots = refl; good = λ g. g; answers = refl }

  asks : (k : ℕ) (q : Request) (b : Bench) → Same h b (asked file t h k q b).bench
  asks k q b = at_host k (perform (ask q) (state_at file t k b)) b (kept_places (ask q) (state_at file t k b)).same_length

  takes : (e : End) (n : ℕ) (k : Counter) (b : Bench) → Same h b (taken file t h e n k b).bench
  takes e n k b =
      let x : CallState = state_at file t e.host b in
      at_host e.host (in_turn e.link k (packet_of n b.slots) x) b
      (ap (λ (o : Outcome). length o.entries) (sym (pair_holds.one_piece e.link k (packet_of n b.slots) x))
      ∙ (kept_places (receive e.link k (packet_of n b.slots)) x).same_length)

  module _ (b : Bench) (long : slot_length * slots ≤ length b.slots) where
    sends : (e : End) (c i n : ℕ) (k : Counter) → SlotsKept h b.slots (sent file t h e c i n k b).bench.slots → Same h b (sent file t h e c i n k b).bench
    sends e c i n k s =
        record {
          entries = (kept_places (send e.link k (room_of n b.slots)) (state_at file t e.host b)).same_length;
          hosts = simp length-set;
          copies = refl;
          slots = s.long;
          good = s.good;
          answers = refl;
        }

    pub carries : (e : Event) → event_good h e ≡ true → Same h b (carried file t h e b).bench
    carries (Tick k n) g = asks k _ b
    carries (Adjust k n) g = asks k _ b
    carries (Set k ms n) g = asks k _ b
    carries (Second k) g = asks k _ b
    carries (SelfReport k n) g = asks k _ b
    carries (Send c i n k) g = sends (end_at file h c i) c i n k (slots_kept file t h b long (Send c i n k) g)
    carries (Arrival n k) g =
        either (λ (a : After). Same h b a.bench) (empty n b.slots) record { bench = b; answer = _ } (taken file t h (far_end file h n b.slots) n k b)
        (λ _. record { entries = refl; hosts = refl; copies = refl; slots = refl; good = λ g. g; answers = refl }) (λ _. takes _ n k b)
    carries Unknown g = absurd (false≢true g)
