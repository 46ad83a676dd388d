-- Line (a) goes by a test of PID and a test of DELAY; each order decides the second.
use native.Mathlib.Omega.{arith}
use borrow.Author.Tests.{eq-eqb, ne_eqb}
use lib.IntN.{◌+ℤ◌}
use Rattle.quantity.proofs.Ints.{of-≤ℤ, of-<ℤ, not_lt, is_lt}
use Rattle.table.specs.Entry.{min_delay}
use Rattle.table.specs.Update.{line_a}
use Rattle.table.specs.Switching.{Switching}

pub switching_holds : Switching
unfolding line_a
switching_holds =
    record {
      shorter = λ u e d h. let n = not_lt e.delay.0 (u.delay.0 +ℤ min_delay.0) (omega (arith, of-≤ℤ h)) in rw (ne_eqb _ _ d, n);
      not_shorter = λ u e d h. let n = is_lt e.delay.0 (u.delay.0 +ℤ min_delay.0) (omega (arith, of-<ℤ h)) in rw (ne_eqb _ _ d, n);
      own_link = λ u e d. rw (eq-eqb _ _ d);
    }
