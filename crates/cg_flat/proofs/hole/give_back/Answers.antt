use Rattle.std.proofs.Common.{◌∙◌, arith}
use Rattle.std.specs.Result.{is_ok}
use Rattle.cg_flat.proofs.Gives.{gives_before, gives_behind, gives_both, gives_neither, parted, was_put}
use Rattle.cg_flat.proofs.hole.give_back.Goals as goal

pub first_from-index-requires : goal.first_from-index-requires
first_from-index-requires c = rw c.as_slice.ensures.value (parted 0 c.args.hole.start c.args.holes.now.items c.requires.apart)

pub returns-in-Some-Some-clause-holes : goal.returns-in-Some-Some-clause-holes
returns-in-Some-Some-clause-holes c =
    let within = rw c.as_slice.ensures.value at c.first_from-index.ensures.within in
    let point = rw c.as_slice.ensures.value at c.first_from-index.ensures.parts in
    let before = rw (c.in-Some-Some.is-0, c.as_slice-2.ensures.value) at c.touching_before-before.ensures.some in
    let behind = rw (c.in-Some-Some.is-1, c.as_slice-3.ensures.value) at c.touching_behind-behind.ensures.some in
    rw c.remove-last.ensures.items
    (gives_both c.args.hole c.args.holes.now.items c.first_from-index.result c.in-Some-Some.first c.in-Some-Some.last c.requires.some c.requires.apart c.requires.around within point before behind)

pub returns-in-Some-None-clause-holes : goal.returns-in-Some-None-clause-holes
returns-in-Some-None-clause-holes c =
    let within = rw c.as_slice.ensures.value at c.first_from-index.ensures.within in
    let point = rw c.as_slice.ensures.value at c.first_from-index.ensures.parts in
    let before = rw (c.in-Some-None.is-0, c.as_slice-2.ensures.value) at c.touching_before-before.ensures.some in
    let behind = rw (c.in-Some-None.is-1, c.as_slice-3.ensures.value) at c.touching_behind-behind.ensures.none in
    gives_before c.args.hole c.args.holes.now.items c.first_from-index.result c.requires.some c.requires.apart c.requires.around within point c.in-Some-None.first before behind

pub returns-in-None-Some-clause-holes : goal.returns-in-None-Some-clause-holes
returns-in-None-Some-clause-holes c =
    let within = rw c.as_slice.ensures.value at c.first_from-index.ensures.within in
    let point = rw c.as_slice.ensures.value at c.first_from-index.ensures.parts in
    let before = rw (c.in-None-Some.is-0, c.as_slice-2.ensures.value) at c.touching_before-before.ensures.none in
    let behind = rw (c.in-None-Some.is-1, c.as_slice-3.ensures.value) at c.touching_behind-behind.ensures.some in
    gives_behind c.args.hole c.args.holes.now.items c.first_from-index.result c.requires.some c.requires.apart c.requires.around within point c.in-None-Some.last before behind

pub returns-in-None-None-clause-holes : goal.returns-in-None-None-clause-holes
returns-in-None-None-clause-holes c =
    let within = rw c.as_slice.ensures.value at c.first_from-index.ensures.within in
    let point = rw c.as_slice.ensures.value at c.first_from-index.ensures.parts in
    let before = rw (c.in-None-None.is-0, c.as_slice-2.ensures.value) at c.touching_before-before.ensures.none in
    let behind = rw (c.in-None-None.is-1, c.as_slice-3.ensures.value) at c.touching_behind-behind.ensures.none in
    let long = c.args.holes.now.ok.0 in
    let room = c.requires.room in
    was_put (is_ok c.insert-there_is_room.result) _ _ _ (c.insert-there_is_room.ensures.succeeds (omega arith)) c.insert-there_is_room.ensures.items
    ∙ gives_neither c.args.hole c.args.holes.now.items c.first_from-index.result c.requires.some c.requires.apart c.requires.around within point before behind
