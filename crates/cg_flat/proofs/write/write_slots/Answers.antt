use Rattle.std.proofs.Common.{◌+◌, ◌*◌, ◌<◌, get_or, length, ap, ◌∙◌, arith}
use Rattle.std.proofs.lemmas.List.{get_or_default}
use Rattle.cg_heap.specs.declared.cell.Scalar.TheVariants.{Unset}
use Rattle.cg_flat.specs.Flat.{scalar_words, written}
use Rattle.cg_flat.proofs.Cells.{scalar_long}
use Rattle.cg_flat.proofs.Loops.{slots_step}
use Rattle.cg_flat.proofs.Wordy.{length-written}
use Rattle.cg_flat.proofs.write.write_slots.Goals as goal

pub loop-index-preserved : goal.loop-index-preserved
loop-index-preserved c =
    let before = c.loop-index.invariant in
    let fits = c.requires in
    let low : c.loop-index.index < length c.args.slots.now = omega arith in
    let two = scalar_long (get_or c.args.slots.now c.loop-index.index Unset) in (
      c.write_scalar.ensures ∙ ap (written (c.args.at + 2 * c.loop-index.index) (scalar_words _)) before.0 ∙ slots_step c.args.at c.loop-index.index _ c.args.slots.now c.args.words.now.items low (get_or_default _ _ _ _ low) fits,
      ap length c.write_scalar.ensures ∙ length-written (c.args.at + 2 * c.loop-index.index) _ c.loop-index.words.items (omega arith) ∙ before.1,
    )
