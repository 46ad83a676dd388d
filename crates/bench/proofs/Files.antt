-- A file that passes has a header; and slots that are too short are not all that is asked for.
use mathlib.Core.Path.{◌≡◌, refl}
use mathlib.Core.Bool.{Bool, true, false, cond, not, ◌&&◌, false≢true}
use mathlib.Core.List.{List}
use Prim.Native.Nat.{ℕ, ◌*◌, ◌<◌}
use lib.Dec.{leb}
use borrow.Author.Tests.{lt-leb}
use Rattle.host.specs.State.{places_per_host}
use Rattle.host.specs.Guard.{longest}
use Rattle.bench_file.specs.declared.Header as declared
use Rattle.net_table.specs.declared.NetTable.{NetTable}
use Rattle.bench_file.specs.Header.{header_of, header_bad}
use Rattle.bench.specs.declared.Lengths.{Lengths}
use Rattle.bench.specs.declared.Answer.TheVariants.{Done, Header, Absent}
use Rattle.bench.specs.Answer.{passes}
use Rattle.bench.specs.Guard.{records_good, lengths_fit, file_tested}

pub file_there : (t : NetTable) (file : List ℕ) → passes (file_tested t file) ≡ true → header_bad file ≡ false
unfolding file_tested
file_there t file e = go (header_bad file) refl e
  where
    go : (b : Bool) → header_bad file ≡ b → passes (cond b Header (cond (not (records_good t file (header_of file))) Absent Done)) ≡ true → header_bad file ≡ false
    go true q w = absurd (false≢true w)
    go false q w = q

pub short_slots : (h : declared.Header) (n : Lengths) → n.slots < 33792 → lengths_fit h n ≡ false
unfolding lengths_fit
short_slots h n l =
    rw (lt-leb 33792 n.slots l)
    (go (leb (places_per_host * h.hosts) n.entries) (leb h.hosts n.hosts) (leb (longest * h.hosts) n.copies))
  where
    go : (a b c : Bool) → (a && (b && (c && false))) ≡ false
    go true true true = refl
    go true true false = refl
    go true false c = refl
    go false b c = refl
