use Rattle.std.proofs.Common.{rules}
use Rattle.cg_graphs.specs.Walks.{fresh}
use Rattle.cg_graphs.proofs.walk.start.Goals as goal

pub returns : goal.returns
unfolding fresh
returns c =
    let marks = c.in_ok-from_elem.ensures.items_if_clones_equal (λ y h. search rules) in
    let nexts = c.in_ok-from_elem-2.ensures.items_if_clones_equal (λ y h. search rules) in
    cc
