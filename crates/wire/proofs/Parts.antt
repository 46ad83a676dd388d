-- A part from n on, lent and come back: it is all that is left behind its place.
use mathlib.Core.Path.{◌≡◌}
use mathlib.Core.List.{List, ◌++◌, append-nil}
use Prim.Native.Nat.{ℕ, ◌-◌, ◌≤◌}
use native.Mathlib.Omega.{arith}
use lib.ListN.{length, take, drop, length-drop, drop_of_length-le}
use lib.Seq.{take_all}

pub from_on : (n : ℕ) (s : List ℕ) → take (length s - n) (drop n s) ≡ drop n s
from_on n s = take_all (length s - n) (drop n s) (rw length-drop (omega arith))

pub comes_back : (n : ℕ) (b m : List ℕ) → take n b ++ (m ++ drop (length b - n) (drop n b)) ≡ take n b ++ m
comes_back n b m =
    let l : length (drop n b) ≤ length b - n = rw length-drop (omega arith) in
    rw (drop_of_length-le (drop n b) l, append-nil m)
