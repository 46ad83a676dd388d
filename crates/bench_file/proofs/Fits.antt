-- What the tests of a header say as numbers.
use mathlib.Core.Path.{◌≡◌}
use mathlib.Core.Bool.{true, false, not}
use mathlib.Core.List.{List}
use Prim.Native.Nat.{ℕ, ◌≤◌}
use borrow.Author.Tests.{leb-true, eqb-true, ltb-false, not-false}
use lib.Dec.{ltb}
use lib.ListN.{length}
use Rattle.lists.proofs.Tests.{both, neither}
use Rattle.bench_file.specs.declared.Header.{Header}
use Rattle.bench_file.specs.Header.{header_length, header_of, header_fits, header_bad}
use Rattle.bench_file.specs.code.Sections.{Sections}

pub sections : (h : Header) (n : ℕ) → header_fits h n ≡ true → Sections h n
unfolding header_fits
sections h n e =
    let one = both _ _ e in
    let two = both _ _ one.0 in
    let three = both _ _ two.0 in
    let four = both _ _ one.1 in
    let five = both _ _ four.0 in
    record {
      few_hosts = leb-true _ _ three.0;
      few_cables = leb-true _ _ three.1;
      few_events = leb-true _ _ two.1;
      cables_at = eqb-true _ _ five.0;
      events_at = eqb-true _ _ five.1;
      file_ends = eqb-true _ _ four.1;
    }

pub header_there : (file : List ℕ) → header_bad file ≡ false → (header_length ≤ length file) × Sections (header_of file) (length file)
header_there file e =
    let two = neither (ltb (length file) header_length) (not (header_fits (header_of file) (length file))) e in
    (ltb-false (length file) header_length two.0, sections (header_of file) (length file) (not-false (header_fits (header_of file) (length file)) two.1))
