use Rattle.std.proofs.Common.{◌≡◌, ◌++◌, [], ◌∷◌, arith, map, ap, sym, ◌∙◌, if◌then◌else◌}
use Rattle.std.proofs.lemmas.Grind.{common_steps}
use Rattle.cg_base.specs.Types.{part_of}
use Rattle.cg_typing_parts.specs.Views.{marked}
use Rattle.cg_typing_parts.proofs.MarkSteps.{marked_more, marked_pieces, mark_past}
use Rattle.cg_typing_parts.proofs.named.copies_with.Goals as goal
use Rattle.cg_typing_parts.proofs.named.copies_with.Goals.{then-here, else-here}

pub loop-part-preserved : goal.loop-part-preserved
loop-part-preserved c =
    let here = c.is_first-here.result in
    let part = c.part-item.result in
    let flag : c.if-here.marked ≡ (if here then c.args.taken else part.taken) =
    elim c.if-here.branch [
      | then-here w ↦ w.marked-is ∙ ap (λ b. if b then c.args.taken else part.taken) (sym w.if-here.true)
      | else-here w ↦ w.marked-is ∙ ap (λ b. if b then c.args.taken else part.taken) (sym w.if-here.false)
    ] in
    let added = c.in_ok-push_copy.ensures ∙ ap (λ b. map part_of c.loop-part.copies ++ marked b (part_of part) ∷ []) flag in
    marked_more (map part_of c.loop-part.copies) (map part_of c.push_copy.new.copies) c.loop-part.found c.args.name.now c.args.taken c.as_slice-part-items.result.now c.loop-part.part-index
    part here c.loop-part-test.true c.part-item.is c.is_first-here.ensures added
    ∙ c.loop-part.invariant

pub returns : goal.returns
returns c =
    let past = mark_past c.loop-part.found c.args.name.now c.args.taken c.as_slice-part-items.result.now c.loop-part.part-index in
    grind (arith, common_steps, past, marked_pieces c.args.name.now c.args.taken (map part_of c.args.parts.now))
