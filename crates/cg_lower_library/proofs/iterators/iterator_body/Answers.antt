use Rattle.std.proofs.Common.{◌≡◌, Some, map, subst}
use Rattle.std.specs.Option.{option_map}
use Rattle.std.specs.Prelude.{IfOk}
use Rattle.cg_base.specs.Types.{type_of}
use Rattle.cg_cgen_def.specs.Bodies.{body_of}
use Rattle.cg_cgen_def.specs.Loops.{iterator_function, iterator_low}
use Rattle.cg_cgen_def.specs.Names.{dispatch_name, function_name}
use Rattle.cg_ctree.specs.Trees.{body_of as body_in}
use Rattle.cg_lower_def.specs.IteratorCode.{word_in}
use Rattle.cg_lower_def.specs.Lowered.{arrow_number}
use Rattle.cg_lower_library.specs.Codes.{arrow_types}
use Rattle.cg_lower_nodes.specs.Kept.{whole_of}
use Rattle.cg_typing.specs.Parts.{taken_by}
use Rattle.cg_update.specs.Turns.{field_type}
use Rattle.cg_lower_library.proofs.iterators.iterator_body.Goals as goal

pub returns-clause-body : goal.returns-clause-body
returns-clause-body c =
    let whole = whole_of c.args.state.now in
    subst
    (λ t. IfOk c.body_of_made.result (λ b. option_map body_in b
    ≡ Some (body_of (iterator_low c.args.lib (arrow_types whole.numbered (word_in c.args.lib (map type_of c.args.args.now)) t) (dispatch_name (arrow_number whole.arrows (field_type (taken_by t) 3)))))))
    c.in_ok-ty.ensures
    (subst
    (λ w. IfOk c.body_of_made.result (λ b. option_map body_in b
    ≡ Some (body_of (iterator_low c.args.lib (arrow_types whole.numbered w (type_of c.in_ok-ty.ty)) (dispatch_name (arrow_number whole.arrows (field_type (taken_by (type_of c.in_ok-ty.ty)) 3)))))))
    c.word.ensures
    (c.body_of_made.ensures
    (iterator_function c.args.lib (function_name c.args.at) (arrow_types whole.numbered c.word.result (type_of c.in_ok-ty.ty))
    (dispatch_name (arrow_number whole.arrows (field_type (taken_by (type_of c.in_ok-ty.ty)) 3))))
    c.iterator_function-made.ensures.function))
