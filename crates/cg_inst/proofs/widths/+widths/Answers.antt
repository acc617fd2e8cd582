use Rattle.std.proofs.Common.{◌++◌, map, ap, ◌∙◌}
use Rattle.cg_base.specs.Types.{type_of, part_of, to_parts, to_taus}
use Rattle.cg_inst.specs.Measured.{own_nodes_all, own_nodes_parts, variables_in_all, variables_in_parts}
use Rattle.cg_inst_types.specs.Layers.{capped}
use Rattle.cg_typing.proofs.NodeSteps.{walked_all, walked_on}
use Rattle.cg_inst.proofs.WidthSteps.{first_part, first_part_variables, first_type, first_type_variables, no_part, no_part_variables, no_type, no_type_variables, sum_on, sum_whole, sum_within}
use Rattle.cg_inst.proofs.widths.+widths.Goals as goal

pub push_types-loop-ty-preserved : goal.push_types-loop-ty-preserved
push_types-loop-ty-preserved t c =
    let items = c.as_slice-ty-items.result.now in (
      sum_within _ _ _ c.saturating_add-total.ensures,
      sum_on _ _ _ _ _ _ _ c.in_ok-push_type.ensures.base c.saturating_add-total.ensures
          (first_type items c.loop-ty.ty-index c.ty-item.result c.loop-ty-test.true c.ty-item.is) c.loop-ty.invariant.1,
      walked_on _ _ _ _ _ _ c.in_ok-push_type.ensures.variables
          (first_type_variables items c.loop-ty.ty-index c.ty-item.result c.loop-ty-test.true c.ty-item.is) c.loop-ty.invariant.2,
    )

pub push_types-returns-clause-base : goal.push_types-returns-clause-base
push_types-returns-clause-base t c =
    sum_whole _ _ _ c.loop-ty.invariant.0 (no_type c.as_slice-ty-items.result.now c.loop-ty.ty-index c.loop-ty-test.false) c.loop-ty.invariant.1
    ∙ ap (λ ys. capped (own_nodes_all (to_taus (map type_of ys)))) c.as_slice-ty-items.ensures

pub push_types-returns-clause-variables : goal.push_types-returns-clause-variables
push_types-returns-clause-variables t c =
    walked_all _ _ _ (no_type_variables c.as_slice-ty-items.result.now c.loop-ty.ty-index c.loop-ty-test.false) c.loop-ty.invariant.2
    ∙ ap (λ ys. c.args.variables.now.items ++ variables_in_all (to_taus (map type_of ys))) c.as_slice-ty-items.ensures

pub push_parts-loop-part-preserved : goal.push_parts-loop-part-preserved
push_parts-loop-part-preserved t c =
    let items = c.as_slice-part-items.result.now in (
      sum_within _ _ _ c.saturating_add-total.ensures,
      sum_on _ _ _ _ _ _ _ c.in_ok-push_type.ensures.base c.saturating_add-total.ensures
          (first_part items c.loop-part.part-index c.part-item.result c.loop-part-test.true c.part-item.is) c.loop-part.invariant.1,
      walked_on _ _ _ _ _ _ c.in_ok-push_type.ensures.variables
          (first_part_variables items c.loop-part.part-index c.part-item.result c.loop-part-test.true c.part-item.is) c.loop-part.invariant.2,
    )

pub push_parts-returns-clause-base : goal.push_parts-returns-clause-base
push_parts-returns-clause-base t c =
    sum_whole _ _ _ c.loop-part.invariant.0 (no_part c.as_slice-part-items.result.now c.loop-part.part-index c.loop-part-test.false) c.loop-part.invariant.1
    ∙ ap (λ ys. capped (own_nodes_parts (to_parts (map part_of ys)))) c.as_slice-part-items.ensures

pub push_parts-returns-clause-variables : goal.push_parts-returns-clause-variables
push_parts-returns-clause-variables t c =
    walked_all _ _ _ (no_part_variables c.as_slice-part-items.result.now c.loop-part.part-index c.loop-part-test.false) c.loop-part.invariant.2
    ∙ ap (λ ys. c.args.variables.now.items ++ variables_in_parts (to_parts (map part_of ys))) c.as_slice-part-items.ensures
