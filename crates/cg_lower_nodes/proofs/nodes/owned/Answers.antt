use Rattle.std.proofs.Common.{sym, ◌∙◌}
use Rattle.std.proofs.lemmas.Result.{IfOk-weaker}
use Rattle.cg_base.specs.Types.{type_of}
use Rattle.cg_lower_nodes.specs.Grown.{Owns, Sets}
use Rattle.cg_lower_nodes.specs.Kept.{c_type_in}
use Rattle.cg_lower_nodes.specs.Views.{place_of}
use Rattle.cg_lower_nodes.proofs.NodeSteps.{owns_same, owns_other}
use Rattle.cg_lower_def.specs.Lowered.{copy}
use Rattle.cg_lower_nodes.proofs.nodes.owned.Goals as goal

pub returns-then-is_own : goal.returns-then-is_own
returns-then-is_own c = owns_same c.args.state.now c.args.from (c_type_in c.args.state.now (type_of c.args.ty.now)) c.args.value (sym c.is_own.ensures ∙ c.if-is_own.true)

pub returns-else-is_own : goal.returns-else-is_own
returns-else-is_own c =
    IfOk-weaker c.copied.result (λ p. Sets c.args.state.now c.copied.new.state (c_type_in c.args.state.now (type_of c.args.ty.now)) (copy (place_of c.args.value)) p)
    (λ p. Owns c.args.state.now c.copied.new.state c.args.from (c_type_in c.args.state.now (type_of c.args.ty.now)) c.args.value p)
    (λ p s. owns_other c.args.state.now c.copied.new.state c.args.from (c_type_in c.args.state.now (type_of c.args.ty.now)) c.args.value p (sym c.is_own.ensures ∙ c.if-is_own.false) s) c.copied.ensures
