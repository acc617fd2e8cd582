use Rattle.std.proofs.Common.{take}
use Rattle.cg_cmachine_resolve.specs.Lines.{MeanAll}
use Rattle.cg_cmachine_resolve.specs.Variables.{scope_at, structs_at}
use Rattle.cg_cmachine_resolve.proofs.setting.Setting.operands.Given as goal

abbrev pub invariant-loop-item : goal.invariant-loop-item
invariant-loop-item l = MeanAll (structs_at l.self) (scope_at l.self) (take l.item-index l.list) l.operands.items
