use Rattle.std.proofs.Common.{rules}
use Rattle.cg_flat.proofs.room.make_room.Goals as goal

pub returns-in_err-try_reserve-clause-no_freed : goal.returns-in_err-try_reserve-clause-no_freed
returns-in_err-try_reserve-clause-no_freed c = let free = rw (← c.try_reserve.ensures.items) at c.settle.ensures.free in search (rules, free)

pub returns-in_err-grow-clause-no_freed : goal.returns-in_err-grow-clause-no_freed
returns-in_err-grow-clause-no_freed c = let free = rw (← c.try_reserve.ensures.items) at c.settle.ensures.free in search (rules, free)

pub returns-in-Err-clause-no_freed : goal.returns-in-Err-clause-no_freed
returns-in-Err-clause-no_freed c = rw c.try_reserve.ensures.items c.settle.ensures.free
