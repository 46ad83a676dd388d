-- By computing.
use mathlib.Core.Path.{refl}
use Rattle.clock.specs.Clock as clock
use Rattle.table.specs.Entry.{aged}
use Rattle.calls.specs.Effects as effects
use Rattle.bench_file.specs.Header.{header_fits}
use Rattle.bench_file.specs.Records.{event_of}
use Rattle.bench_file.specs.Settings.{settings_of, marks_good, hosts_good}
use Rattle.bench_file.specs.Absent.{end_good, cable_good, cables_good, events_good}
use Rattle.bench.specs.Slots.{slots_good}
use Rattle.bench.specs.Guard.{records_good, lengths_fit, file_tested}
use Rattle.bench.specs.Run.{all_set, set_up, next, steps}
use Rattle.network_laws.proofs.Opened.{opened}
use Rattle.bench_laws.proofs.example.Goals as goal

pub returns : goal.returns
unfolding opened clock.adjust clock.hold_second aged effects.adjust effects.set_by effects.second header_fits event_of settings_of marks_good hosts_good end_good cable_good cables_good events_good slots_good records_good lengths_fit file_tested all_set set_up next steps
returns c = record { good = refl; read = refl; answers = refl; all = refl }
