use Rattle.std.proofs.Common.{refl, Some}
use Rattle.cg_cmachine_def.specs.Operations.{word_value}
use Rattle.cg_cmachine_builtins.proofs.calls.perform.Goals as goal

pub returns-in-Number : goal.returns-in-Number
returns-in-Number g c = (Some (word_value c.in-Number.field-0 c.in-Number.field-1), rw c.in-Number.is refl)
