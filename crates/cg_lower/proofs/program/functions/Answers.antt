use Rattle.std.proofs.Common.{ap, get_or, length, map, refl, subst, ◌∙◌, ◌++◌, []}
use Rattle.cg_lower_nodes.specs.Kept.{Kept, kept_of, whole_in}
use Rattle.cg_lower.specs.Collected.{entries_of}
use Rattle.cg_lower.specs.Copies.{copies_of}
use Rattle.cg_ctree.specs.Trees.{function_of}
use Rattle.cg_lower_def.specs.Functions.{function_of_item, with_function}
use Rattle.cg_lower.specs.Lowerings.{IsFewItem}
use Rattle.cg_lower.specs.Programs.{item_of}
use Rattle.cg_lower.proofs.ProgramSteps.{few_more, function_more}
use Rattle.cg_lower.proofs.program.functions.Goals as goal

pub loop-node-preserved : goal.loop-node-preserved
loop-node-preserved c =
    let kept = c.loop-node.invariant.2 in
    let start = kept_of c.args.state.now in
    let entries = entries_of (copies_of c.args.mono.now) in
    let copies = copies_of c.args.mono.now in
    let order = c.args.order.now in
    let at = c.loop-node.node-index in
    let arrows = length c.args.state.now.places.arrows in (
      function_more (function_of_item (whole_in start) entries) arrows order at (map function_of c.loop-node.functions) (map function_of c.push_function.new.functions)
          (function_of_item (whole_in start) entries (item_of arrows (get_or order at 0))) c.loop-node-test.true c.loop-node.invariant.0 refl
          (c.in_ok-push_function.ensures.functions
          ∙ ap (λ (k : Kept). map function_of c.loop-node.functions ++ with_function (function_of_item (whole_in k) entries (item_of (length k.arrows) (get_or order at 0))) []) kept),
      few_more (IsFewItem (whole_in start) copies) arrows order at c.loop-node-test.true c.loop-node.invariant.1
          (subst (λ (k : Kept). IsFewItem (whole_in k) copies (item_of (length k.arrows) (get_or order at 0))) kept c.in_ok-push_function.ensures.few),
      c.in_ok-push_function.ensures.kept ∙ kept,
    )
