use Rattle.cg_cmachine_values.specs.Values.{value_of}
use Rattle.cg_cmachine_values.proofs.assign.write_behind.Goals as goal

pub returns-in-None-clause-stuck : goal.returns-in-None-clause-stuck
returns-in-None-clause-stuck g c = rw c.in-None.is (c.memberless.ensures (value_of c.args.value))
