use Rattle.std.proofs.Common.{◌∙◌, ap, arith, rules}
use Rattle.cg_core.specs.Kernels.{the_term}
use Rattle.cg_core.specs.Terms.{term, var}
use Rattle.cg_resolve_def.specs.Desugar.{depth_of}
use Rattle.cg_surface.specs.Patterns.{pattern_of}
use Rattle.cg_resolve_sites.proofs.SiteLaws.{weaker, err_binds}
use Rattle.cg_resolve_binders.proofs.BinderSteps.{fields_next, taken_turn, taken_deep}
use Rattle.cg_resolve_binders.proofs.binders.take_fields.Goals as goal

pub returns-in_err-take_one-clause-binds : goal.returns-in_err-take_one-clause-binds
returns-in_err-take_one-clause-binds c =
    rw (← c.as_slice-field-items.ensures) (err_binds c.args.site.now c.take_one.new.site _ c.in_err-take_one.field-0.0 _ c.from_residual-in_err-take_one.ensures.1
    (weaker _ _ _ c.in_err-take_one.ensures.binds
    (taken_deep c.args.site.now c.loop-field.site c.take_one.new.site _ c.args.place (the_term c.loop-field.whole) c.in_ok-at.at (pattern_of c.field-item.result.pat) _ _
    (fields_next c.as_slice-field-items.result.now c.loop-field.field-index c.field-item.result c.in_ok-at.at (omega arith) c.field-item.is c.in_ok-at.ensures)
    c.loop-field.invariant.0)))

pub loop-field-preserved : goal.loop-field-preserved
loop-field-preserved c = (
  taken_turn c.args.site.now c.loop-field.site c.take_one.new.site _ c.args.place (the_term c.loop-field.whole) c.in_ok-at.at (pattern_of c.field-item.result.pat) _ _
      (fields_next c.as_slice-field-items.result.now c.loop-field.field-index c.field-item.result c.in_ok-at.at (omega arith) c.field-item.is c.in_ok-at.ensures)
      c.loop-field.invariant.0 _ (c.variable_term-whole.ensures ∙ ap (λ n. term c.args.place (var n)) (search rules)) c.in_ok-take_one.ensures.binds,
  (λ within room. omega (arith, ap depth_of c.variable_term-whole.ensures)),
  omega (arith, c.in_ok-take_one.ensures.entries),
)
