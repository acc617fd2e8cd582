use Rattle.std.proofs.Common.{◌≡◌, map, drop}
use Rattle.cg_core.specs.Kernels.{function_of}
use Rattle.cg_core.specs.Terms.{arg_of}
use Rattle.cg_typing_parts.specs.Asked.{arguments_fault}
use Rattle.cg_typing.specs.Functions.{asked_by}
use Rattle.cg_typing_parts.proofs.function.arguments_fault.Given as goal

abbrev pub invariant-loop-i : goal.invariant-loop-i
invariant-loop-i l =
    arguments_fault (map (λ b. b.kinds) l.vars) (drop l.i (asked_by (map function_of l.functions) l.fun)) (map arg_of (drop l.i l.xs))
    ≡ arguments_fault (map (λ b. b.kinds) l.vars) (asked_by (map function_of l.functions) l.fun) (map arg_of l.xs)
