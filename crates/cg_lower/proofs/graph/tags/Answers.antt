use Rattle.std.proofs.Common.{[], ap, length, replicate, sym, ◌∙◌, ◌+◌, ℕ, map, refl, take}
use Rattle.std.proofs.lemmas.List.{length-map}
use Rattle.cg_graphs.specs.Orders.{lists}
use Rattle.cg_lower.specs.Calls.{put_tag, tags_of}
use Rattle.cg_lower.specs.Collected.{entries_of}
use Rattle.cg_lower.specs.Copies.{pair_of}
use Rattle.cg_lower_tables.specs.Found.{Known}
use Rattle.cg_lower_def.specs.Lowered.{arrow_number}
use Rattle.cg_base.specs.Types.{type_of}
use Rattle.cg_mono.specs.Copies.{copy_of}
use Rattle.cg_lower.proofs.CallSteps.{entries_more, entries_size, no_tags, tagged_more}
use Rattle.cg_lower.proofs.graph.tags.Goals as goal

pub loop-copy-init : goal.loop-copy-init
loop-copy-init c = (c.in_ok-tags.ensures ∙ ap (λ (n : ℕ). replicate n []) (sym (length-map c.arrow_types.result.now type_of) ∙ ap length c.arrow_types.ensures) ∙ no_tags c.args.places.now.arrows, refl, refl)

pub loop-copy-preserved : goal.loop-copy-preserved
loop-copy-preserved c =
    let xs = c.as_slice-copy-items.result.now in
    let arrows = c.args.places.now.arrows in
    let kept = c.loop-copy.invariant.1 in
    let before = entries_of (map pair_of (take c.loop-copy.copy-index xs)) in
    let number = arrow_number arrows (type_of c.copy-item.result.ty) in (
      c.in_ok-tag.ensures.tags
          ∙ ap (λ (p : Known). put_tag (lists c.loop-copy.tags.items) (arrow_number p.arrows (type_of c.copy-item.result.ty)) c.loop-copy.at) kept
          ∙ ap (λ z. put_tag z number c.loop-copy.at) c.loop-copy.invariant.0
          ∙ ap (put_tag (tags_of before arrows) number) (c.loop-copy.invariant.2 ∙ sym (entries_size xs c.loop-copy.copy-index c.loop-copy-test.true))
          ∙ tagged_more arrows c.requires.apart before (copy_of c.copy-item.result) number refl
          ∙ ap (λ z. tags_of z arrows) (entries_more xs c.loop-copy.copy-index c.copy-item.result c.loop-copy-test.true c.copy-item.is),
      c.tag.ensures.kept ∙ kept,
      ap (λ (n : ℕ). n + 1) c.loop-copy.invariant.2,
    )
