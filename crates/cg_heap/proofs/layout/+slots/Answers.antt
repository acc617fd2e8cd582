use Rattle.std.proofs.Common.{rules, ◌+◌, ◌∷◌, map, drop, sym, ap, ◌∙◌, arith}
use Rattle.std.proofs.lemmas.List.{drop_more, drop_all}
use Rattle.cg_base.specs.declared.ty.Part.{the_lemmas}
use Rattle.cg_base.specs.Types.{type_of, part_of, to_parts}
use Rattle.cg_heap.specs.Reps.{slots_of_parts}
use Rattle.cg_heap.proofs.Widths.{slots_first, nodes_first, slots_none, slots_within}
use Rattle.cg_heap.proofs.layout.+slots.Goals as goal

pub slots_of_parts-slots-total-requires : goal.slots_of_parts-slots-total-requires
slots_of_parts-slots-total-requires t c =
    let items = c.as_slice-part-items.result.now in
    let next = drop_more items c.loop-part.part-index c.part-item.result c.loop-part-test.true ∙ (λ k. sym c.part-item.is k ∷ drop (c.loop-part.part-index + 1) items) in
    let first = nodes_first (drop c.loop-part.part-index items) (drop (c.loop-part.part-index + 1) items) c.part-item.result next in
    let within = c.loop-part.invariant.within in (
      search (rules, the_lemmas),
      omega arith,
    )

pub slots_of_parts-overflow_add-total : goal.slots_of_parts-overflow_add-total
slots_of_parts-overflow_add-total t c =
    let items = c.as_slice-part-items.result.now in
    let next = drop_more items c.loop-part.part-index c.part-item.result c.loop-part-test.true ∙ (λ k. sym c.part-item.is k ∷ drop (c.loop-part.part-index + 1) items) in
    let first = nodes_first (drop c.loop-part.part-index items) (drop (c.loop-part.part-index + 1) items) c.part-item.result next in
    let within = c.loop-part.invariant.within in
    let few = slots_within (type_of c.part-item.result.ty) in
    let is = c.slots-total.ensures in
    omega arith

pub slots_of_parts-loop-part-preserved : goal.slots_of_parts-loop-part-preserved
slots_of_parts-loop-part-preserved t c =
    let items = c.as_slice-part-items.result.now in
    let next = drop_more items c.loop-part.part-index c.part-item.result c.loop-part-test.true ∙ (λ k. sym c.part-item.is k ∷ drop (c.loop-part.part-index + 1) items) in
    let nodes_are = nodes_first (drop c.loop-part.part-index items) (drop (c.loop-part.part-index + 1) items) c.part-item.result next in
    let slots_are = slots_first (drop c.loop-part.part-index items) (drop (c.loop-part.part-index + 1) items) c.part-item.result next in
    let within = c.loop-part.invariant.within in
    let sum = c.loop-part.invariant.sum in
    let few = slots_within (type_of c.part-item.result.ty) in
    let is = c.slots-total.ensures in
    record {
      within = omega arith;
      sum = omega arith;
    }

pub slots_of_parts-returns-clause-exact : goal.slots_of_parts-returns-clause-exact
slots_of_parts-returns-clause-exact t c =
    let items = c.as_slice-part-items.result.now in
    let nothing = ap (λ ps. slots_of_parts (to_parts (map part_of ps))) (drop_all c.loop-part.part-index items c.loop-part-test.false) ∙ slots_none in
    let sum = c.loop-part.invariant.sum in
    let same = ap (λ ps. slots_of_parts (to_parts (map part_of ps))) c.as_slice-part-items.ensures in
    omega arith
