-- An event is one of four cases: how it is classified, and what the definition makes of the bench.
use mathlib.Core.Path.{◌≡◌, subst⁻¹}
use mathlib.Core.Bool.{true, false, false≢true}
use mathlib.Core.List.{List}
use Prim.Native.Nat.{ℕ, ◌-◌, ◌≤◌, ◌<◌}
use native.Mathlib.Omega.{arith}
use borrow.Author.Tests.{ltb-true}
use lib.Dec.{ltb}
use Rattle.lists.proofs.Tests.{either, both}
use Rattle.answer.specs.declared.Answer.TheVariants.{IpForm}
use Rattle.clock.specs.declared.Counter.{Counter}
use Rattle.net_table.specs.declared.NetTable.{NetTable}
use Rattle.host.specs.Guard.{longest}
use Rattle.calls.specs.declared.Request.{Request}
use Rattle.bench_file.specs.declared.Header.{Header}
use Rattle.bench_file.specs.declared.Event.{Event}
use Rattle.bench_file.specs.declared.Event.TheVariants.{Tick, Adjust, Set, Second, SelfReport, Send, Arrival, Unknown}
use Rattle.bench_file.specs.Records.{end_at}
use Rattle.bench_file.specs.Absent.{slots, mark_good, cables_good, event_good}
use Rattle.bench.specs.declared.returned.Returned.{Returned}
use Rattle.bench.specs.Bench.{Bench}
use Rattle.bench.specs.Slots.{label_of, slots_good, empty, far_end}
use Rattle.bench.specs.Event.{After, asked, sent, taken, carried}
use Rattle.bench.specs.code.Returned.{OnlyAsk, OnlySend, OnlyTake, OnlyNote, Tells}
use Rattle.bench.proofs.Named.{end_host, filled, send_names, arrival_names}

-- one event for another
pub returns_as : (octets : List ℕ) (p : Returned) {e f : Event} → e ≡ f → Tells octets f p → Tells octets e p
returns_as octets p is o = subst⁻¹ (λ (x : Event). Tells octets x p) is o

-- a send's numbers, and an arrival's, where the file passes
pub record Sendable (file : List ℕ) (h : Header) (c i n : ℕ) : Type 0 where
  pub cable : c < h.cables
  pub side : i ≤ 1
  pub slot : n < slots
  pub host : (end_at file h c i).host < h.hosts

pub record Takable (file : List ℕ) (h : Header) (octets : List ℕ) (n : ℕ) : Type 0 where
  pub slot : n < slots
  pub size : (label_of n octets).length ≤ longest
  pub host : (far_end file h n octets).host < h.hosts

module _ (file : List ℕ) (t : NetTable) (h : Header) (cables : cables_good file h ≡ true) (b : Bench) (labels : slots_good h b.slots ≡ true) where
  pub sendable : (c i n : ℕ) (k : Counter) → event_good h (Send c i n k) ≡ true → Sendable file h c i n
  sendable c i n k g =
      let s = send_names h c i n k g in
      record { cable = s.0; side = s.1; slot = s.2; host = end_host file h cables c i s.0 s.1 }

  pub takable : (n : ℕ) → n < slots → empty n b.slots ≡ false → Takable file h b.slots n
  takable n l e =
      let f = filled h b.slots labels n l e in
      record { slot = l; size = f.0; host = end_host file h cables (label_of n b.slots).cable (1 - (label_of n b.slots).end) f.1 (omega arith) }

  module _ (p : Returned) (P : After → Type 0)
      (asks : (k : ℕ) (q : Request) → k < h.hosts → OnlyAsk k q p → P (asked file t h k q b))
      (sends : (c s n : ℕ) (k : Counter) → Sendable file h c s n → OnlySend c s n k p → P (sent file t h (end_at file h c s) c s n k b))
      (takes : (n : ℕ) (k : Counter) → empty n b.slots ≡ false → Takable file h b.slots n → OnlyTake n k p → P (taken file t h (far_end file h n b.slots) n k b))
      (notes : OnlyNote p → P record { bench = b; answer = IpForm }) where
    pub which : (e : Event) → event_good h e ≡ true → Tells b.slots e p → P (carried file t h e b)
    which (Tick k n) g o = asks k _ (ltb-true k h.hosts g) o
    which (Adjust k n) g o = asks k _ (ltb-true k h.hosts g) o
    which (Set k ms n) g o = asks k _ (ltb-true k h.hosts g) o
    which (Second k) g o = asks k _ (ltb-true k h.hosts g) o
    which (SelfReport k n) g o = asks k _ (ltb-true k h.hosts (both (ltb k h.hosts) (mark_good n) g).0) o
    which (Send c s n k) g o = sends c s n k (sendable c s n k g) o
    which (Arrival n k) g o =
        either P (empty n b.slots) record { bench = b; answer = IpForm } (taken file t h (far_end file h n b.slots) n k b)
        (λ e. notes (o.unfilled e))
        (λ e. takes n k e (takable n (arrival_names h n k g) e) (o.filled e))
    which Unknown g o = absurd (false≢true g)
