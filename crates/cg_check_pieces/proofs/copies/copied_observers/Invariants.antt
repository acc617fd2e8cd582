use Rattle.std.proofs.Common.{◌≡◌, take}
use Rattle.cg_check_pieces.proofs.copies.copied_observers.Given as goal

abbrev pub invariant-loop-observer : goal.invariant-loop-observer
invariant-loop-observer l = l.list ≡ take l.observer-index l.observer-items
