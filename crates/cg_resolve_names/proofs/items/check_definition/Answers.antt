use Rattle.cg_surface.specs.Exprs.{expr_of}
use Rattle.cg_surface.specs.Patterns.{pattern_of}
use Rattle.cg_resolve_declared.specs.Declarations.{entries_of}
use Rattle.cg_resolve_names.proofs.ItemSteps.{definition_says}
use Rattle.cg_resolve_names.proofs.items.check_definition.Goals as goal

pub returns : goal.returns
returns c =
    definition_says (entries_of c.args.declared.now) c.in_ok-vars.vars _ c.in_ok-scope.scope (pattern_of c.args.param.now) (expr_of c.args.body.now) c.check_expr.result c.in_ok-scope.ensures.says c.in_ok-scope.ensures.names c.in_ok-vars.ensures
    c.check_expr.ensures.says
