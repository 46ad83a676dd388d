-- The rows before k, and then those after it, are the rows without it.
use mathlib.Core.Path.{◌≡◌, ◌∙◌, sym, ap, refl}
use mathlib.Core.List.{List, ◌++◌}
use Prim.Native.Nat.{ℕ, ◌+◌, ◌-◌}
use native.Mathlib.Omega.{arith}
use lib.ListN.{length, take, drop, length-drop}
use lib.Seq.{length-take-le, take-length}
use Rattle.std.proofs.lemmas.Slice.{put_mid-paste}
use Rattle.std.proofs.lemmas.List.Edits.{paste_all}
use Rattle.route.specs.declared.Row.{Row}
use Rattle.net_table.specs.Table.{zero_row, padded}
use Rattle.net_table.proofs.Padded.{appended}
use Rattle.net_table.proofs.rows.without_row.Goals as goal

pub returns : goal.returns
returns c =
    let rows = c.args.rows.now in
    let k = c.args.k in
    let n = length rows in
    let before = take (k - 1) rows in
    let after = drop k rows in
    let long : length before ≡ k - 1 = length-take-le (k - 1) rows (omega (arith, c.requires.k_bound)) in
    let left : n - k ≡ length after = sym (length-drop k rows) in
    let put = c.copy_from_slice.ensures.after ∙ ap (λ (m : ℕ). take m after) left ∙ take-length after in
    put_mid-paste (k - 1) (n - 1 - (k - 1)) c.padded-all.result c.copy_from_slice.new.self after (length after) put (omega (arith, left, c.requires.le_k, c.requires.k_bound)) refl
    ∙ paste_all c.padded-all.result (k - 1) after (length after) refl
    ∙ ap (λ (l : List Row). take (k - 1) l ++ (after ++ drop (k - 1 + length after) l)) c.padded-all.ensures
    ∙ ap (λ (m : ℕ). take m (padded before) ++ (after ++ drop (m + length after) (padded before))) (sym long)
    ∙ appended zero_row 32 before after
