use Rattle.std.proofs.Common.{◌≡◌, [], ◌∷◌, map, subst}
use Rattle.std.specs.Prelude.{IfOk}
use Rattle.cg_cgen_def.specs.Loops.{array_reads, turning}
use Rattle.cg_cgen_def.specs.Places.{field}
use Rattle.cg_ctree.specs.Trees.{stmt_of}
use Rattle.cg_cgen.proofs.arrays.fold_turn.Goals as goal

pub returns : goal.returns
returns c =
    subst (λ z. IfOk c.written.result (λ ss. map stmt_of ss ≡ array_reads c.args.word ∷ turning c.args.callee.now 3 (field 1 ∷ []) 3 ∷ z))
    (c.goes_on.ensures c.args.callee.now) c.written.ensures
