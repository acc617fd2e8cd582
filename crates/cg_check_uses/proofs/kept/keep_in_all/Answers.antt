use Rattle.std.proofs.Common.{slice_set, sym, ap, ◌∙◌}
use Rattle.std.proofs.lemmas.List.Edits.{map_over_more}
use Rattle.cg_check_uses.specs.Marks.{keep_all}
use Rattle.cg_check_uses.proofs.kept.keep_in_all.Goals as goal

pub loop-i-preserved : goal.loop-i-preserved
loop-i-preserved c =
    let kept = c.args.kept.now.items in
    let is = c.index-strings-i.is in
    ap (λ s. slice_set c.loop-i.strings c.loop-i.i s) (c.keep.ensures ∙ ap (keep_all kept) (sym is))
    ∙ map_over_more (keep_all kept) c.as_mut_slice-strings.result.now c.loop-i.strings c.loop-i.i c.index-strings-i.result c.loop-i-test.true c.loop-i.invariant is
