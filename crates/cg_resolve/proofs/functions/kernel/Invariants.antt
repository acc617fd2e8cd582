use Rattle.cg_resolve_def.specs.Desugar.{function_of_entry}
use Rattle.cg_resolve_declared.specs.Declarations.{entries_of}
use Rattle.cg_resolve.proofs.FunctionSteps.{AreMade}
use Rattle.cg_resolve.proofs.functions.kernel.Given as goal

abbrev pub invariant-loop-item : goal.invariant-loop-item
invariant-loop-item l = AreMade (function_of_entry (entries_of l.declared)) l.item-items l.item-index l.funs
