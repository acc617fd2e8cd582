use Rattle.std.proofs.Common.{◌+◌, get_or, set, refl, ap, ◌∙◌, arith}
use Rattle.std.proofs.lemmas.List.{length-set}
use Rattle.cg_flat.proofs.Loops.{elements_step}
use Rattle.cg_flat.proofs.write.write_elements.Goals as goal

pub loop-index-preserved : goal.loop-index-preserved
loop-index-preserved c =
    let before = c.loop-index.invariant in
    let fits = c.requires in (
      ap (λ l. set l (c.args.at + c.loop-index.index) (get_or c.args.elements.now c.loop-index.index 0)) before.0
          ∙ elements_step c.args.at c.loop-index.index (get_or c.args.elements.now c.loop-index.index 0) c.args.elements.now c.args.words.now.items (omega arith) refl fits,
      length-set c.loop-index.words.items (c.args.at + c.loop-index.index) (get_or c.args.elements.now c.loop-index.index 0) ∙ before.1,
    )
