use Rattle.std.proofs.Common.{◌≡◌, map, take}
use Rattle.cg_cmachine_def.specs.Outcomes.{ok}
use Rattle.cg_cmachine_values.specs.Values.{judged_all, value_of}
use Rattle.cg_cmachine_values.proofs.read.judge_all.Given as goal

abbrev pub invariant-loop-operand : goal.invariant-loop-operand
invariant-loop-operand g l = judged_all (g.S.Store.stored l.store) l.slots (take l.operand-index l.operands) ≡ ok (map value_of l.values.items)
