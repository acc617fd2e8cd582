use Rattle.std.proofs.Common.{sym, ◌∙◌}
use Rattle.std.proofs.lemmas.Result.{IfOk-weaker}
use Rattle.cg_base.specs.Types.{type_of}
use Rattle.cg_lower_nodes.specs.Grown.{Bares, Sets}
use Rattle.cg_lower_nodes.specs.Kept.{c_type_in}
use Rattle.cg_lower_nodes.specs.Views.{place_of}
use Rattle.cg_lower_nodes.proofs.NodeSteps.{bares_same, bares_other}
use Rattle.cg_lower_def.specs.Lowered.{copy}
use Rattle.cg_lower_nodes.proofs.nodes.bare.Goals as goal

pub returns-then-is_bare : goal.returns-then-is_bare
returns-then-is_bare c = bares_same c.args.state.now (c_type_in c.args.state.now (type_of c.args.ty.now)) c.args.value (sym c.is_bare.ensures ∙ c.if-is_bare.true)

pub returns-else-is_bare : goal.returns-else-is_bare
returns-else-is_bare c =
    IfOk-weaker c.copied.result (λ p. Sets c.args.state.now c.copied.new.state (c_type_in c.args.state.now (type_of c.args.ty.now)) (copy (place_of c.args.value)) p)
    (λ p. Bares c.args.state.now c.copied.new.state (c_type_in c.args.state.now (type_of c.args.ty.now)) c.args.value p)
    (λ p s. bares_other c.args.state.now c.copied.new.state (c_type_in c.args.state.now (type_of c.args.ty.now)) c.args.value p (sym c.is_bare.ensures ∙ c.if-is_bare.false) s) c.copied.ensures
