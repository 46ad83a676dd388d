-- UPDATE-a: a route over another link is taken only if it is shorter by 100 ms or more.
use Rattle.std.specs.Prelude.{◌≡◌, pos, ◌+ℤ◌, ◌≤ℤ◌, ◌<ℤ◌}
use Rattle.table.specs.declared.Entry.{Entry}
use Rattle.table.specs.declared.Update.{Update}
use Rattle.table.specs.Forms.{on, end}
use Rattle.table.specs.Update.{line_a}

-- UPDATE-a: line (a) in three cases
pub record Switching : Type 0 where
  pub shorter :
      (u : Update) (e : Entry) → (u.pid ≡ e.pid → ⊥) → (u.delay.0 +ℤ pos 100) ≤ℤ e.delay.0 → line_a u e ≡ on e
  pub not_shorter :
      (u : Update) (e : Entry) → (u.pid ≡ e.pid → ⊥) → e.delay.0 <ℤ (u.delay.0 +ℤ pos 100) → line_a u e ≡ end e
  -- UPDATE-a: line (a) never ends a report over the entry's own link
  pub own_link : (u : Update) (e : Entry) → u.pid ≡ e.pid → line_a u e ≡ on e
