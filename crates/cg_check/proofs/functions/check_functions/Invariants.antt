use Rattle.std.proofs.Common.{◌≡◌, map, drop}
use Rattle.cg_core.specs.Kernels.{function_of}
use Rattle.cg_check_def.specs.Pass.{check_all}
use Rattle.cg_check_pieces.proofs.BodySteps.{behind}
use Rattle.cg_check_pieces.specs.Bodies.{as_lists, lists_of}
use Rattle.cg_check.proofs.functions.check_functions.Given as goal

abbrev pub invariant-loop-fun : goal.invariant-loop-fun
invariant-loop-fun l =
    as_lists (check_all (map function_of l.functions) (map function_of l.fun-items))
    ≡ behind (lists_of l.kept) (check_all (map function_of l.functions) (map function_of (drop l.fun-index l.fun-items)))
