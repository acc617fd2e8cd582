use Rattle.cg_driver.proofs.Ran.{all_run, only_run}
use Rattle.cg_driver.proofs.law.status_0_of_run.Goals as goal

pub returns : goal.returns
returns c = λ table held file entry heap steps. (only_run table held file entry heap steps, all_run table held file entry heap steps)
