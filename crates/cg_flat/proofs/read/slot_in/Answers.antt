use Rattle.std.proofs.Common.{sym, ap, ◌∙◌}
use Rattle.cg_heap.specs.Stored.{slot_of}
use Rattle.cg_flat.specs.Flat.{cell_in}
use Rattle.cg_flat.proofs.read.slot_in.Goals as goal

pub returns-in-Slots : goal.returns-in-Slots
returns-in-Slots c = c.pair_at.ensures ∙ sym (ap (λ k. slot_of c.args.slot (cell_in k c.args.words.now)) c.in-Slots.is)
