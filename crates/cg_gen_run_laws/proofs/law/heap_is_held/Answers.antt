use Rattle.cg_gen_run_laws.proofs.Faultless.{heap_is_held}
use Rattle.cg_gen_run_laws.proofs.law.heap_is_held.Goals as goal

pub returns : goal.returns
returns c = heap_is_held
