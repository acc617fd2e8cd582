use Rattle.std.proofs.Common.{◌∙◌, ap, arith, rules}
use Rattle.cg_core.specs.Kernels.{the_term}
use Rattle.cg_core.specs.Terms.{term, var}
use Rattle.cg_resolve_def.specs.Desugar.{depth_of}
use Rattle.cg_surface.specs.Patterns.{pattern_of}
use Rattle.cg_resolve_sites.proofs.SiteLaws.{weaker, err_binds}
use Rattle.cg_resolve_binders.proofs.BinderSteps.{components_next, taken_turn, taken_deep}
use Rattle.cg_resolve_binders.proofs.binders.take_components.Goals as goal

pub returns-in_err-take_one-clause-binds : goal.returns-in_err-take_one-clause-binds
returns-in_err-take_one-clause-binds c =
    rw (← c.as_slice-item-items.ensures) (err_binds c.args.site.now c.take_one.new.site _ c.in_err-take_one.field-0.0 _ c.from_residual-in_err-take_one.ensures.1
    (weaker _ _ _ c.in_err-take_one.ensures.binds
    (taken_deep c.args.site.now c.loop-item.site c.take_one.new.site _ c.args.place (the_term c.loop-item.whole) (record { place = c.inner_place.result; name = c.in_ok-component.field-0 }) (pattern_of c.item-item.result) _ _
    (components_next c.as_slice-item-items.result.now c.loop-item.item-index c.loop-item.index c.item-item.result _ _ (omega arith) c.item-item.is c.inner_place.ensures c.in_ok-component.ensures)
    c.loop-item.invariant.0)))

pub loop-item-preserved : goal.loop-item-preserved
loop-item-preserved c = (
  taken_turn c.args.site.now c.loop-item.site c.take_one.new.site _ c.args.place (the_term c.loop-item.whole) (record { place = c.inner_place.result; name = c.in_ok-component.field-0 }) (pattern_of c.item-item.result) _ _
      (components_next c.as_slice-item-items.result.now c.loop-item.item-index c.loop-item.index c.item-item.result _ _ (omega arith) c.item-item.is c.inner_place.ensures c.in_ok-component.ensures)
      c.loop-item.invariant.0 _ (c.variable_term-whole.ensures ∙ ap (λ n. term c.args.place (var n)) (search rules)) c.in_ok-take_one.ensures.binds,
  omega arith,
  (λ within room. omega (arith, ap depth_of c.variable_term-whole.ensures)),
  omega (arith, c.in_ok-take_one.ensures.entries),
)
