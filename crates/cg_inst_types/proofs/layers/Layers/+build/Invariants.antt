use Rattle.std.proofs.Common.{◌≡◌, ◌+◌, ◌*◌, map}
use Rattle.cg_base.specs.Types.{type_of, part_of}
use Rattle.cg_inst_types.specs.Forms.{with_arguments, with_parts}
use Rattle.cg_inst_types.specs.Places.{type_at}
use Rattle.cg_inst_types.proofs.layers.Layers.+build.Given as goal

abbrev pub decreases-build : goal.decreases-build
decreases-build l = 4 * l.left

abbrev pub decreases-build_arrow : goal.decreases-build_arrow
decreases-build_arrow l = 4 * l.left + 1

abbrev pub decreases-build_abstract : goal.decreases-build_abstract
decreases-build_abstract l = 4 * l.left + 2

abbrev pub decreases-build_arguments : goal.decreases-build_arguments
decreases-build_arguments l = 4 * l.left + 1

abbrev pub decreases-build_part : goal.decreases-build_part
decreases-build_part l = 4 * l.left + 1

abbrev pub decreases-build_parts : goal.decreases-build_parts
decreases-build_parts l = 4 * l.left + 2

abbrev pub decreases-build_with_parts : goal.decreases-build_with_parts
decreases-build_with_parts l = 4 * l.left + 3

abbrev pub invariant-build_arguments-loop : goal.invariant-build_arguments-loop
invariant-build_arguments-loop l = with_arguments (map type_of l.arguments) (type_at l.self.types l.rest) ≡ type_at l.self.types l.at

abbrev pub invariant-build_parts-loop : goal.invariant-build_parts-loop
invariant-build_parts-loop l = with_parts (map part_of l.parts) (type_at l.self.types l.rest) ≡ type_at l.self.types l.at
