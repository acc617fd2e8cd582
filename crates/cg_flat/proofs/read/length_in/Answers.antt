use Rattle.std.proofs.Common.{sym, ap, ◌∙◌}
use Rattle.cg_heap.specs.Stored.{cell_length}
use Rattle.cg_flat.specs.Flat.{cell_in}
use Rattle.cg_flat.proofs.Cells.{slots_length}
use Rattle.cg_flat.proofs.read.length_in.Goals as goal

pub returns-in-Slots : goal.returns-in-Slots
returns-in-Slots c = sym (slots_length c.args.words.now) ∙ sym (ap (λ k. cell_length (cell_in k c.args.words.now)) c.in-Slots.is)
