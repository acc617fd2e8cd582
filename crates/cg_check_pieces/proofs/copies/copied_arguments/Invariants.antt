use Rattle.std.proofs.Common.{◌≡◌, map, take}
use Rattle.cg_core.specs.Terms.{arg_of}
use Rattle.cg_check_pieces.proofs.copies.copied_arguments.Given as goal

abbrev pub invariant-loop-arg : goal.invariant-loop-arg
invariant-loop-arg l = map arg_of l.copies ≡ map arg_of (take l.arg-index l.arg-items)
