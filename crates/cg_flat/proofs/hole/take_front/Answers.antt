use Rattle.std.proofs.Common.{ap, ◌∙◌, arith}
use Rattle.std.proofs.lemmas.Bool.Decides.{nat_tests}
use Rattle.cg_flat.proofs.Rooms.{found_room, part_taken, whole_taken}
use Rattle.cg_flat.proofs.hole.take_front.Goals as goal

pub overflow_add-hole : goal.overflow_add-hole
overflow_add-hole c =
    let found = found_room c.args.count c.args.holes.now.items c.args.index c.index-hole.result.now c.requires.first in
    let bound = c.requires.within c.args.index c.index-hole.result.now found.0 in
    let start = ap (λ h. h.start) c.index-hole.ensures in
    let count = ap (λ h. h.count) c.index-hole.ensures in
    record { fits = omega arith }

pub overflow_sub-hole : goal.overflow_sub-hole
overflow_sub-hole c =
    let found = found_room c.args.count c.args.holes.now.items c.args.index c.index-hole.result.now c.requires.first in
    let count = ap (λ h. h.count) c.index-hole.ensures in
    omega arith

pub returns-then-hole-count-clause-holes : goal.returns-then-hole-count-clause-holes
returns-then-hole-count-clause-holes c =
    c.remove-whole.ensures.items ∙ whole_taken c.args.count c.args.holes.now.items c.args.index c.index-hole.result.now c.requires.first c.index-hole.ensures (grind (arith, nat_tests))

pub returns-else-hole-count-clause-holes : goal.returns-else-hole-count-clause-holes
returns-else-hole-count-clause-holes c =
    part_taken c.args.count c.args.holes.now.items c.args.index c.index-hole.result.now c.requires.first c.index-hole.ensures (λ same. grind (arith, nat_tests))
