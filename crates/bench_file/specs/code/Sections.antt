-- A header that fits its file, as numbers.
use Rattle.std.specs.Prelude.{◌≡◌, ℕ, ◌+◌, ◌*◌, ◌≤◌}
use Rattle.bench_file.specs.declared.Header.{Header}
use Rattle.bench_file.specs.Header.{header_length, host_length, cable_length, event_length, most_hosts, most_cables, most_events}

pub record Sections (h : Header) (n : ℕ) : Type 0 where
  pub few_hosts : h.hosts ≤ most_hosts
  pub few_cables : h.cables ≤ most_cables
  pub few_events : h.events ≤ most_events
  pub cables_at : h.cables_start ≡ header_length + host_length * h.hosts
  pub events_at : h.events_start ≡ h.cables_start + cable_length * h.cables
  pub file_ends : n ≡ h.events_start + event_length * h.events
