use Rattle.std.proofs.Common.{◌≡◌, map, take}
use Rattle.cg_base.specs.Types.{type_of}
use Rattle.cg_core.specs.Terms.{arg_of}
use Rattle.cg_typing.specs.Functions.{arg_types}
use Rattle.cg_lower_tables.proofs.walks.written_types.Given as goal

abbrev pub invariant-loop-arg : goal.invariant-loop-arg
invariant-loop-arg l = map type_of l.types ≡ arg_types (map arg_of (take l.arg-index l.arg-items))
