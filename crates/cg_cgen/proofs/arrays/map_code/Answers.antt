use Rattle.std.proofs.Common.{◌≡◌, ◌++◌, [], ◌∷◌, map, subst}
use Rattle.std.specs.Prelude.{IfOk}
use Rattle.cg_cgen_def.specs.Bodies.{setting}
use Rattle.cg_cgen_def.specs.Loops.{array_begins, array_of_argument}
use Rattle.cg_cgen_def.specs.Places.{field, held, local, operand, whole_local}
use Rattle.cg_ctree.specs.Trees.{block_of, stmt_of, to_block, while}
use Rattle.cg_cgen.proofs.arrays.map_code.Goals as goal

pub returns : goal.returns
returns c =
    subst
    (λ z. IfOk c.repeated_before.result (λ ss. map stmt_of ss ≡ array_begins c.args.word ++ while (operand (whole_local 2)) (to_block z)
    ∷ setting 5 (field 0 ∷ []) array_of_argument ∷ setting 5 (field 1 ∷ []) (held (local 3) (field 1 ∷ [])) ∷ []))
    c.in_ok-turn.ensures
    (subst
    (λ z. IfOk c.repeated_before.result (λ ss. map stmt_of ss ≡ ((z ++ []) ++ while (operand (whole_local 2)) (block_of c.in_ok-turn.turn) ∷ [])
    ++ setting 5 (field 0 ∷ []) array_of_argument ∷ setting 5 (field 1 ∷ []) (held (local 3) (field 1 ∷ [])) ∷ []))
    (c.begins.ensures c.args.callee.now) c.repeated_before.ensures)
