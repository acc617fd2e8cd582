use Rattle.std.proofs.Common.{◌≡◌, ◌+◌, ◌*◌, map}
use Rattle.cg_base.specs.Types.{part_of, to_parts}
use Rattle.cg_check.proofs.FieldSteps.{Rest, found}
use Rattle.cg_check.specs.Gathered.{each, nameds_of}
use Rattle.cg_check_context.specs.View.{entries_of, types_in}
use Rattle.cg_check_pieces.specs.View.{bounds_of}
use Rattle.cg_core.specs.Kernels.{function_of, the_field, the_term}
use Rattle.cg_core.specs.Terms.{to_named, to_trees}
use Rattle.cg_check_pieces.proofs.TermSizes.{size, size_fields, sizes}
use Rattle.cg_faults.specs.Events.{part_directions}
use Rattle.cg_check.proofs.pass.+check.Given as goal

abbrev pub decreases-check_term : goal.decreases-check_term
decreases-check_term l = 6 * size (the_term l.term.now) + 1

abbrev pub decreases-check_form : goal.decreases-check_form
decreases-check_form l = 6 * size (the_term l.term.now)

abbrev pub decreases-check_op : goal.decreases-check_op
decreases-check_op l = 6 * sizes (to_trees (map the_term l.operands.now)) + 5

abbrev pub decreases-check_unary : goal.decreases-check_unary
decreases-check_unary l = 6 * size (the_term l.part.now) + 4

abbrev pub decreases-check_first : goal.decreases-check_first
decreases-check_first l = 6 * size (the_term l.part.now) + 3

abbrev pub decreases-check_guide : goal.decreases-check_guide
decreases-check_guide l = 6 * size (the_term l.part.now) + 2

abbrev pub decreases-check_binary : goal.decreases-check_binary
decreases-check_binary l = 6 * (size (the_term l.left.now) + size (the_term l.right.now)) + 5

abbrev pub decreases-check_by_left : goal.decreases-check_by_left
decreases-check_by_left l = 6 * (size (the_term l.left.now) + size (the_term l.right.now)) + 4

abbrev pub decreases-check_by_right : goal.decreases-check_by_right
decreases-check_by_right l = 6 * (size (the_term l.left.now) + size (the_term l.right.now)) + 4

abbrev pub decreases-check_second : goal.decreases-check_second
decreases-check_second l = 6 * size (the_term l.part.now) + 3

abbrev pub decreases-check_behind : goal.decreases-check_behind
decreases-check_behind l = 6 * size (the_term l.part.now) + 2

abbrev pub decreases-check_app : goal.decreases-check_app
decreases-check_app l = 6 * (size (the_term l.fun.now) + size (the_term l.arg.now)) + 3

abbrev pub decreases-check_let : goal.decreases-check_let
decreases-check_let l = 6 * (size (the_term l.value.now) + size (the_term l.body.now)) + 4

abbrev pub decreases-check_let_bang : goal.decreases-check_let_bang
decreases-check_let_bang l = 6 * (size (the_term l.value.now) + size (the_term l.body.now)) + 4

abbrev pub decreases-check_if : goal.decreases-check_if
decreases-check_if l = 6 * (size (the_term l.test.now) + size (the_term l.first.now) + size (the_term l.second.now)) + 3

abbrev pub decreases-check_con : goal.decreases-check_con
decreases-check_con l = 6 * size (the_term l.part.now) + 3

abbrev pub decreases-check_esac : goal.decreases-check_esac
decreases-check_esac l = 6 * size (the_term l.part.now) + 3

abbrev pub decreases-check_member : goal.decreases-check_member
decreases-check_member l = 6 * size (the_term l.part.now) + 3

abbrev pub decreases-check_cast : goal.decreases-check_cast
decreases-check_cast l = 6 * size (the_term l.part.now) + 3

abbrev pub decreases-check_annot : goal.decreases-check_annot
decreases-check_annot l = 6 * size (the_term l.part.now) + 3

abbrev pub decreases-check_case : goal.decreases-check_case
decreases-check_case l = 6 * (size (the_term l.value.now) + size (the_term l.first.now) + size (the_term l.second.now)) + 5

abbrev pub decreases-check_other : goal.decreases-check_other
decreases-check_other l = 6 * size (the_term l.second.now) + 4

abbrev pub decreases-check_struct : goal.decreases-check_struct
decreases-check_struct l = 6 * size_fields (to_named (map the_field l.fields.now)) + 4

abbrev pub decreases-check_fields : goal.decreases-check_fields
decreases-check_fields l = 6 * size_fields (to_named (map the_field l.fields.now)) + 3

abbrev pub decreases-check_each : goal.decreases-check_each
decreases-check_each l = 6 * size_fields (to_named (map the_field l.fields.now)) + 2

abbrev pub invariant-check_each-loop-field : goal.invariant-check_each-loop-field
invariant-check_each-loop-field l =
    (each (map function_of l.source.functions.now) (bounds_of l.source.vars.now) (types_in (entries_of l.initial.context.items)) l.before.items
    (part_directions (to_parts (map part_of l.fn.wanted))) (to_named (map the_field l.fields))
    ≡ found (nameds_of l.gots)
    (Rest (map function_of l.source.functions.now) (bounds_of l.source.vars.now) (types_in (entries_of l.initial.context.items)) l.fields l.flags.items
    (part_directions (to_parts (map part_of l.wanted))) l.field-index))
    × (entries_of l.context.items ≡ entries_of l.initial.context.items)

abbrev pub decreases-check_take : goal.decreases-check_take
decreases-check_take l = 6 * (size (the_term l.value.now) + size (the_term l.body.now)) + 4

abbrev pub decreases-check_taken : goal.decreases-check_taken
decreases-check_taken l = 6 * size (the_term l.body.now) + 3

abbrev pub decreases-check_put : goal.decreases-check_put
decreases-check_put l = 6 * (size (the_term l.value.now) + size (the_term l.part.now)) + 3

abbrev pub decreases-check_bound : goal.decreases-check_bound
decreases-check_bound l = 6 * size (the_term l.body.now) + 3

abbrev pub decreases-check_scoped : goal.decreases-check_scoped
decreases-check_scoped l = 6 * size (the_term l.body.now) + 2

abbrev pub decreases-check_observed : goal.decreases-check_observed
decreases-check_observed l = 6 * size (the_term l.value.now) + 3

abbrev pub decreases-check_seen : goal.decreases-check_seen
decreases-check_seen l = 6 * size (the_term l.value.now) + 2
