-- What a call that is not refused may take for granted.
use mathlib.Core.Path.{◌≡◌, refl}
use mathlib.Core.Bool.{Bool, true, false, cond, not, ◌&&◌, false≢true}
use mathlib.Core.List.{List}
use Prim.Native.Nat.{ℕ, ◌*◌, ◌≤◌}
use borrow.Author.Tests.{leb-true, le-leb}
use Rattle.lists.proofs.Tests.{both, is_not}
use Rattle.net_table.specs.declared.NetTable.{NetTable}
use Rattle.net_table.specs.Table.{table_bad}
use Rattle.host.specs.State.{places_per_host}
use Rattle.host.specs.Guard.{longest}
use Rattle.bench_file.specs.declared.Header as declared
use Rattle.bench_file.specs.Header.{header_of, header_bad}
use Rattle.bench_file.specs.Absent.{slots}
use Rattle.bench.specs.declared.Lengths.{Lengths}
use Rattle.bench.specs.declared.Answer.TheVariants.{Done, OutOfRange, Header, Absent}
use Rattle.bench.specs.Answer.{passes}
use Rattle.bench.specs.Slots.{slot_length}
use Rattle.bench.specs.Guard.{records_good, file_tested, lengths_fit, tested}

-- the lengths that 12 asks
pub record Long (h : declared.Header) (n : Lengths) : Type 0 where
  pub entries : places_per_host * h.hosts ≤ n.entries
  pub hosts : h.hosts ≤ n.hosts
  pub copies : longest * h.hosts ≤ n.copies
  pub slots : slot_length * slots ≤ n.slots
  pub answers : h.events ≤ n.answers

module _ (h : declared.Header) (n : Lengths) where
  pub long_of : lengths_fit h n ≡ true → Long h n
  unfolding lengths_fit
  long_of e =
      let one = both _ _ e in
      let two = both _ _ one.1 in
      let three = both _ _ two.1 in
      let four = both _ _ three.1 in
      record {
        entries = leb-true _ _ one.0;
        hosts = leb-true _ _ two.0;
        copies = leb-true _ _ three.0;
        slots = leb-true _ _ four.0;
        answers = leb-true _ _ four.1;
      }

  pub of_long : Long h n → lengths_fit h n ≡ true
  unfolding lengths_fit
  of_long l =
      rw (le-leb _ _ l.entries, le-leb _ _ l.hosts, le-leb _ _ l.copies, le-leb _ _ l.slots, le-leb _ _ l.answers)

-- what 18, 19 and 12 have tested
pub record Passed (besides : Bool) (t : NetTable) (file : List ℕ) (n : Lengths) : Type 0 where
  pub header_good : header_bad file ≡ false
  pub records : records_good t file (header_of file) ≡ true
  pub call_state : lengths_fit (header_of file) n ≡ true
  pub more : besides ≡ true
  pub table : table_bad t ≡ false

pub passed_all : (besides : Bool) (t : NetTable) (file : List ℕ) (n : Lengths) → passes (tested besides t file n) ≡ true → Passed besides t file n
unfolding file_tested
passed_all besides t file n e =
    go (header_bad file) (records_good t file (header_of file)) (lengths_fit (header_of file) n && (besides && not (table_bad t))) refl refl refl e
  where
    go : (x y z : Bool) → header_bad file ≡ x → records_good t file (header_of file) ≡ y → (lengths_fit (header_of file) n && (besides && not (table_bad t))) ≡ z
        → passes
        (cond (not (passes (cond x Header (cond (not y) Absent Done)))) (cond x Header (cond (not y) Absent Done))
        (cond z Done OutOfRange)) ≡ true → Passed besides t file n
    go true y z p q r w = absurd (false≢true w)
    go false false z p q r w = absurd (false≢true w)
    go false true false p q r w = absurd (false≢true w)
    go false true true p q r w =
        let one = both (lengths_fit (header_of file) n) (besides && not (table_bad t)) r in
        let two = both besides (not (table_bad t)) one.1 in
        record { header_good = p; records = q; call_state = one.0; more = two.0; table = is_not (table_bad t) two.1 }
