-- A file from which a bench is set up has a header.
use mathlib.Core.Path.{◌≡◌, refl, sym, ap, ◌∙◌}
use mathlib.Core.Bool.{Bool, true, false, cond, not, ◌&&◌}
use mathlib.Core.List.{List}
use Prim.Native.Nat.{ℕ, ◌≤◌}
use lib.Dec.{eqb}
use lib.ListN.{length}
use Rattle.net_table.specs.declared.NetTable.{NetTable}
use Rattle.net_table.specs.Table.{table_bad}
use Rattle.bench_file.specs.Header.{header_length, header_of, header_bad}
use Rattle.bench_file.specs.code.Sections.{Sections}
use Rattle.bench_file.proofs.Fits.{header_there}
use Rattle.bench.specs.declared.Lengths.{Lengths}
use Rattle.bench.specs.declared.Answer.{Answer}
use Rattle.bench.specs.declared.Answer.TheVariants.{Done, OutOfRange}
use Rattle.bench.specs.Answer.{number, passes}
use Rattle.bench.specs.Guard.{lengths_fit, file_tested, tested}
use Rattle.bench.proofs.Files.{file_there}

there : (t : NetTable) (file : List ℕ) (n : Lengths) → number (tested true t file n) ≡ 0 → header_bad file ≡ false
there t file n e = file_there t file (go (passes (file_tested t file)) refl e)
  where
    go : (p : Bool) → passes (file_tested t file) ≡ p
        → number (cond (not p) (file_tested t file) (cond (lengths_fit (header_of file) n && (true && not (table_bad t))) Done OutOfRange)) ≡ 0 → passes (file_tested t file) ≡ true
    go true q w = q
    go false q w = ap (λ (k : ℕ). eqb k 0) w

-- r is the number of the answer
pub headed : (file : List ℕ) (t : NetTable) (n : Lengths) (a : Answer) (r : ℕ) → a ≡ tested true t file n → r ≡ number a → r ≡ 0
    → (header_length ≤ length file) × Sections (header_of file) (length file)
headed file t n a r is q z = header_there file (there t file n (ap number (sym is) ∙ sym q ∙ z))
