-- Initialize determines all that later calls use: Demand1/Initialized.antt.
use Rattle.network_laws.proofs.Demand1.Initialized.{isolation_from_initialized_holds}
use Rattle.network_laws.proofs.isolation_from_initialize.Goals as goal

pub returns : goal.returns
returns c = isolation_from_initialized_holds
