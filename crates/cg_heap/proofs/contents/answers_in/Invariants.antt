use Rattle.std.proofs.Common.{◌≡◌, take}
use Rattle.cg_heap.specs.Readings.{held_answers}
use Rattle.cg_heap.specs.Stored.{cell_at}
use Rattle.cg_heap.proofs.contents.answers_in.Given as goal

abbrev pub invariant-loop-index : goal.invariant-loop-index
invariant-loop-index g l = l.answers ≡ take l.index (held_answers (cell_at (g.S.Store.stored l.store) l.at))
