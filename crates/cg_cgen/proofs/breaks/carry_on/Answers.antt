use Rattle.std.proofs.Common.{◌≡◌, [], ◌∷◌, map, subst}
use Rattle.std.specs.Prelude.{IfOk}
use Rattle.cg_cgen_def.specs.Bodies.{setting}
use Rattle.cg_cgen_def.specs.Places.{field, held, local}
use Rattle.cg_ctree.specs.Trees.{stmt_of}
use Rattle.cg_cgen.proofs.breaks.carry_on.Goals as goal

pub returns : goal.returns
returns c =
    subst (λ z. IfOk c.written.result (λ ss. map stmt_of ss ≡ setting 4 (field 0 ∷ []) (held (local 5) (field 0 ∷ [])) ∷ z)) (c.goes_on.ensures c.args.callee.now)
    c.written.ensures
