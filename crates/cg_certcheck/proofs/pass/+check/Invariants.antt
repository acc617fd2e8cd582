use Rattle.std.proofs.Common.{◌≡◌, ◌+◌, ◌*◌, drop, map}
use Rattle.cg_check_pieces.proofs.TermSizes.{size, size_fields, sizes}
use Rattle.cg_core.specs.Kernels.{function_of, the_field, the_term}
use Rattle.cg_core.specs.Terms.{to_named, to_trees}
use Rattle.cg_base.specs.Types.{part_of, to_parts}
use Rattle.cg_certcheck.specs.Standings.{ahead, named_with}
use Rattle.cg_certcheck_context.specs.Contexts.{context_of}
use Rattle.cg_certcheck_context.specs.View.{cursor_of}
use Rattle.cg_certcheck_def.specs.Pass.{check_fields}
use Rattle.cg_check_pieces.specs.View.{bounds_of}
use Rattle.cg_faults.specs.Events.{part_directions}
use Rattle.cg_certcheck.proofs.pass.+check.Given as goal

abbrev pub decreases-check_term : goal.decreases-check_term
decreases-check_term l = 5 * size (the_term l.term.now) + 1

abbrev pub decreases-check_form : goal.decreases-check_form
decreases-check_form l = 5 * size (the_term l.term.now)

abbrev pub decreases-check_first : goal.decreases-check_first
decreases-check_first l = 5 * size (the_term l.term.now) + 2

abbrev pub decreases-check_second : goal.decreases-check_second
decreases-check_second l = 5 * size (the_term l.term.now) + 2

abbrev pub decreases-check_opened : goal.decreases-check_opened
decreases-check_opened l = 5 * size (the_term l.term.now) + 2

abbrev pub decreases-check_taken : goal.decreases-check_taken
decreases-check_taken l = 5 * size (the_term l.body.now) + 2

abbrev pub decreases-check_op : goal.decreases-check_op
decreases-check_op l = 5 * sizes (to_trees (map the_term l.operands.now)) + 4

abbrev pub decreases-check_unary : goal.decreases-check_unary
decreases-check_unary l = 5 * size (the_term l.part.now) + 4

abbrev pub decreases-check_operand : goal.decreases-check_operand
decreases-check_operand l = 5 * size (the_term l.part.now) + 3

abbrev pub decreases-check_guide : goal.decreases-check_guide
decreases-check_guide l = 5 * size (the_term l.part.now) + 2

abbrev pub decreases-check_binary : goal.decreases-check_binary
decreases-check_binary l = 5 * (size (the_term l.left.now) + size (the_term l.right.now)) + 6

abbrev pub decreases-check_operands : goal.decreases-check_operands
decreases-check_operands l = 5 * (size (the_term l.left.now) + size (the_term l.right.now)) + 5

abbrev pub decreases-check_by_left : goal.decreases-check_by_left
decreases-check_by_left l = 5 * (size (the_term l.first.now) + size (the_term l.second.now)) + 4

abbrev pub decreases-check_by_right : goal.decreases-check_by_right
decreases-check_by_right l = 5 * (size (the_term l.literal.now) + size (the_term l.part.now)) + 4

abbrev pub decreases-check_right : goal.decreases-check_right
decreases-check_right l = 5 * size (the_term l.part.now) + 3

abbrev pub decreases-check_app : goal.decreases-check_app
decreases-check_app l = 5 * (size (the_term l.fun.now) + size (the_term l.arg.now)) + 3

abbrev pub decreases-check_let : goal.decreases-check_let
decreases-check_let l = 5 * (size (the_term l.value.now) + size (the_term l.body.now)) + 3

abbrev pub decreases-check_let_bang : goal.decreases-check_let_bang
decreases-check_let_bang l = 5 * (size (the_term l.value.now) + size (the_term l.body.now)) + 3

abbrev pub decreases-check_take : goal.decreases-check_take
decreases-check_take l = 5 * (size (the_term l.value.now) + size (the_term l.body.now)) + 3

abbrev pub decreases-check_if : goal.decreases-check_if
decreases-check_if l = 5 * (size (the_term l.test.now) + size (the_term l.first.now) + size (the_term l.second.now)) + 3

abbrev pub decreases-check_con : goal.decreases-check_con
decreases-check_con l = 5 * size (the_term l.part.now) + 3

abbrev pub decreases-check_esac : goal.decreases-check_esac
decreases-check_esac l = 5 * size (the_term l.part.now) + 3

abbrev pub decreases-check_member : goal.decreases-check_member
decreases-check_member l = 5 * size (the_term l.part.now) + 3

abbrev pub decreases-check_cast : goal.decreases-check_cast
decreases-check_cast l = 5 * size (the_term l.part.now) + 3

abbrev pub decreases-check_annot : goal.decreases-check_annot
decreases-check_annot l = 5 * size (the_term l.part.now) + 3

abbrev pub decreases-check_case : goal.decreases-check_case
decreases-check_case l = 5 * (size (the_term l.value.now) + size (the_term l.first.now) + size (the_term l.second.now)) + 4

abbrev pub decreases-check_other : goal.decreases-check_other
decreases-check_other l = 5 * size (the_term l.second.now) + 3

abbrev pub decreases-check_put : goal.decreases-check_put
decreases-check_put l = 5 * (size (the_term l.value.now) + size (the_term l.part.now)) + 3

abbrev pub decreases-check_struct : goal.decreases-check_struct
decreases-check_struct l = 5 * size_fields (to_named (map the_field l.fields.now)) + 3

abbrev pub decreases-check_fields : goal.decreases-check_fields
decreases-check_fields l = 5 * size_fields (to_named (map the_field l.fields.now)) + 2

abbrev pub decreases-check_all_fields : goal.decreases-check_all_fields
decreases-check_all_fields l = 5 * size_fields (named_with l.front.now l.last.now) + 1

abbrev pub decreases-check_next_field : goal.decreases-check_next_field
decreases-check_next_field l = 5 * size (the_term l.field.now.term) + 3

abbrev pub decreases-check_last_field : goal.decreases-check_last_field
decreases-check_last_field l = 5 * size (the_term l.field.now.term) + 3

-- what all fields come to is what those come to that are left, behind those before
abbrev pub invariant-check_all_fields-loop-field : goal.invariant-check_all_fields-loop-field
invariant-check_all_fields-loop-field l =
    check_fields (map function_of l.source.functions.now) (bounds_of l.source.vars.now) (context_of (bounds_of l.source.vars.now) l.fn.context.items)
    (part_directions (to_parts (map part_of l.fn.wanted))) l.fn.strings (cursor_of l.source.nodes.now l.fn.at) (named_with l.front l.last)
    ≡ ahead l.source.nodes.now l.before
    (check_fields (map function_of l.source.functions.now) (bounds_of l.source.vars.now) (context_of (bounds_of l.source.vars.now) l.context.items)
    (part_directions (to_parts (map part_of l.wanted))) l.strings (cursor_of l.source.nodes.now l.at) (named_with (drop l.field-index l.front) l.last))
