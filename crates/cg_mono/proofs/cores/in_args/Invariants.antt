use Rattle.std.proofs.Common.{◌≡◌, map, take}
use Rattle.cg_base.specs.Types.{type_of}
use Rattle.cg_core.specs.Terms.{arg_of}
use Rattle.cg_typing.specs.Subst.{subst_arg}
use Rattle.cg_mono.proofs.cores.in_args.Given as goal

abbrev pub invariant-loop-arg : goal.invariant-loop-arg
invariant-loop-arg l = map arg_of l.made ≡ map (subst_arg (map type_of l.types)) (map arg_of (take l.arg-index l.arg-items))
