use Rattle.std.proofs.Common.{◌≡◌, ◌++◌, [], ◌∷◌, map, subst}
use Rattle.std.specs.Prelude.{IfOk}
use Rattle.cg_cgen_def.specs.Loops.{array_begins}
use Rattle.cg_cgen_def.specs.Places.{operand, whole_local}
use Rattle.cg_ctree.specs.Trees.{block_of, stmt_of, to_block, while}
use Rattle.cg_cgen.proofs.arrays.fold_code.Goals as goal

pub returns : goal.returns
returns c =
    subst (λ z. IfOk c.repeated.result (λ ss. map stmt_of ss ≡ array_begins c.args.word ++ while (operand (whole_local 2)) (to_block z) ∷ [])) c.in_ok-turn.ensures
    (subst (λ z. IfOk c.repeated.result (λ ss. map stmt_of ss ≡ (z ++ []) ++ while (operand (whole_local 2)) (block_of c.in_ok-turn.turn) ∷ [])) (c.begins.ensures c.args.callee.now)
    c.repeated.ensures)
