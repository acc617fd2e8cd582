use Rattle.std.proofs.Common.{◌∙◌, subst, sym}
use Rattle.cg_cmachine_layout.specs.Kinds.{layout_of}
use Rattle.cg_cmachine_def.specs.Operands.{Value}
use Rattle.cg_cmachine_def.specs.Outcomes.{Judged}
use Rattle.cg_cmachine_values.specs.Values.{Tries, value_of}
use Rattle.cg_cmachine.proofs.Asking as asking
use Rattle.cg_cmachine.proofs.abstracts.read_result.Goals as goal

pub returns-then-scalars-size : goal.returns-then-scalars-size
returns-then-scalars-size c =
    asking.whole_other (layout_of c.args.kind) c.args.scalars.now (λ z. c.if-scalars-size.true (z ∙ sym c.size.ensures))

pub returns : goal.returns
returns c =
    subst (λ (j : Judged Value). Tries value_of j c.read_local.result)
    (asking.whole_read (layout_of c.args.kind) c.args.scalars.now (c.if-scalars-size.false ∙ c.size.ensures))
    c.read_local.ensures
