use Rattle.std.proofs.Common.{◌≡◌, ◌++◌, [], ◌∷◌, map, subst}
use Rattle.std.specs.Prelude.{IfOk}
use Rattle.cg_base.specs.declared.kind.Word.TheVariants.{U32}
use Rattle.cg_cgen_def.specs.Loops.{break_begins, break_ends, loop_begins}
use Rattle.cg_cgen_def.specs.Places.{operand, whole_local}
use Rattle.cg_cgen_lines.specs.Lines.{line_of}
use Rattle.cg_ctree.specs.Trees.{block_of, stmt_of, to_block, while}
use Rattle.cg_cgen.proofs.breaks.break_code.Goals as goal

pub returns : goal.returns
returns c =
    subst
    (λ z. IfOk c.repeated_before.result (λ ss. map stmt_of ss ≡ loop_begins U32 ++ break_begins ++ while (operand (whole_local 2)) (to_block z) ∷ break_ends))
    c.in_ok-turn.ensures
    (subst
    (λ z. IfOk c.repeated_before.result (λ ss. map stmt_of ss ≡ ((loop_begins U32 ++ z) ++ while (operand (whole_local 2)) (block_of c.in_ok-turn.turn) ∷ []) ++ break_ends))
    (c.break_starts.ensures c.args.callee.now)
    (subst
    (λ z. IfOk c.repeated_before.result (λ ss. map stmt_of ss
    ≡ ((z ++ map (line_of c.args.callee.now) c.break_starts.result) ++ while (operand (whole_local 2)) (block_of c.in_ok-turn.turn) ∷ []) ++ break_ends))
    (c.begins.ensures c.args.callee.now) c.repeated_before.ensures))
