-- The places of a host's ids in the host table.
use Rattle.std.specs.Prelude.{ℕ, ◌+◌, ◌≤◌, Option, Some, None}
use Rattle.table.specs.declared.entries.Changes.{Changes}
use Rattle.table.specs.declared.entries.Updates.{Updates}
use Rattle.table.specs.declared.entries.Reports.{Reports}
use Rattle.host.specs.State.{first_place}

-- ids up to 255 of a number up to 15
pub record Placeable (k first end : ℕ) : Type 0 where
  pub number : k ≤ 15
  pub rising : first ≤ end
  pub ids : end ≤ 255

-- the place of the id whose entry is looked at, if any
abbrev pub seek_at : (number : ℕ) → Option ℕ → Option ℕ
seek_at k None = None
seek_at k (Some id) = Some (first_place k + id)

-- ---- the entries that are changed, updated, or reported

abbrev pub placed : (number : ℕ) → Changes → Changes
placed k w = record { first = first_place k + w.first; end = first_place k + w.end; change = w.change; marks = w.marks }

abbrev pub updates_at : (number : ℕ) → Updates → Updates
updates_at k w =
    record {
      first = first_place k + w.first;
      end = first_place k + w.end;
      clock = w.clock;
      base = first_place k + w.base;
      clock_host = w.clock_host;
      hold_interval = w.hold_interval;
      count = w.count;
      date = w.date;
      update = w.update;
      table = w.table;
    }

abbrev pub reports_at : (number : ℕ) → Reports → Reports
reports_at k w = record { first = first_place k + w.first; end = first_place k + w.end; pid = w.pid }
