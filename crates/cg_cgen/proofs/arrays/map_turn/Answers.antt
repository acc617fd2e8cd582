use Rattle.std.proofs.Common.{◌≡◌, [], ◌∷◌, map, subst, codes}
use Rattle.std.specs.Prelude.{IfOk}
use Rattle.cg_cgen_def.specs.Bodies.{setting}
use Rattle.cg_cgen_def.specs.Loops.{array_of_argument, array_reads, turning}
use Rattle.cg_cgen_def.specs.Places.{field, held, local, operand, whole_local}
use Rattle.cg_cmachine_def.specs.BuiltIns.{array_call}
use Rattle.cg_ctree.specs.Trees.{call, stmt_of}
use Rattle.cg_cgen.proofs.arrays.map_turn.Goals as goal

pub returns : goal.returns
returns c =
    subst
    (λ z. IfOk c.written.result (λ ss. map stmt_of ss ≡ array_reads c.args.word ∷ turning c.args.callee.now 4 [] 3
    ∷ call (array_call c.args.word (codes "put")) (operand array_of_argument ∷ operand (whole_local 0) ∷ operand (held (local 4) (field 0 ∷ [])) ∷ [])
    ∷ setting 3 (field 1 ∷ []) (held (local 4) (field 1 ∷ [])) ∷ z))
    (c.goes_on.ensures c.args.callee.now) c.written.ensures
