use Rattle.std.proofs.Common.{◌+◌, set, ap, ◌∙◌, arith}
use Rattle.std.proofs.lemmas.List.{length-set}
use Rattle.cg_flat.proofs.Loops.{clear_step}
use Rattle.cg_flat.proofs.write.clear.Goals as goal

pub loop-index-preserved : goal.loop-index-preserved
loop-index-preserved c =
    let before = c.loop-index.invariant in
    let fits = c.requires in (
      ap (λ l. set l (c.args.at + c.loop-index.index) 0) before.0 ∙ clear_step c.args.at c.loop-index.index c.args.words.now.items (omega arith),
      length-set c.loop-index.words.items (c.args.at + c.loop-index.index) 0 ∙ before.1,
    )
