use Rattle.cg_driver_laws.proofs.Entries.{entries_run}
use Rattle.cg_driver_laws.proofs.law.entries_run.Goals as goal

pub returns : goal.returns
returns c = entries_run
