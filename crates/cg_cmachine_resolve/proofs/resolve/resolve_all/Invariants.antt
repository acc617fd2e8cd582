use Rattle.std.proofs.Common.{take}
use Rattle.std.specs.List.{AllZip}
use Rattle.cg_cmachine_resolve.specs.Resolutions.{IsCode}
use Rattle.cg_cmachine_resolve.proofs.resolve.resolve_all.Given as goal

abbrev pub invariant-loop-function : goal.invariant-loop-function
invariant-loop-function l = AllZip (IsCode l.named) (take l.function-index l.functions) l.codes.items
