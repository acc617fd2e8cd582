use Rattle.std.proofs.Common.{sym, ◌∙◌}
use Rattle.std.proofs.lemmas.Result.{IfOk-weaker}
use Rattle.cg_lower_nodes.proofs.NodeSteps.{casts_same, casts_other}
use Rattle.cg_lower_nodes.proofs.nodes.cast.Goals as goal

pub returns-then-is_number : goal.returns-then-is_number
returns-then-is_number c = casts_same c.args.state.now c.args.word c.args.value (sym c.is_number.ensures ∙ c.if-is_number.true)

pub returns-else-is_number : goal.returns-else-is_number
returns-else-is_number c =
    IfOk-weaker c.converted.result _ _
    (λ p s. casts_other c.args.state.now c.converted.new.state c.args.word c.args.value p (sym c.is_number.ensures ∙ c.if-is_number.false) s) c.converted.ensures
