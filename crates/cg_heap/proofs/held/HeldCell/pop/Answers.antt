use Rattle.cg_heap.proofs.Lefts.{popped}
use Rattle.cg_heap.proofs.held.HeldCell.pop.Goals as goal

pub returns-clause-cell : goal.returns-clause-cell
returns-clause-cell c =
    let within = rw c.len.ensures at c.if-self-len.false in
    rw (← c.self.view_is, c.in-Answers.is) (popped c.self.inside.taken c.in-Answers.answers within)
