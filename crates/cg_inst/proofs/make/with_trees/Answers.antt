use Rattle.std.proofs.Common.{◌++◌, ◌∷◌, [], ap, map, sym, ◌∙◌}
use Rattle.std.proofs.lemmas.List.{map-append}
use Rattle.cg_inst.specs.Founds.{found_in}
use Rattle.cg_inst.specs.Views.{instance_of}
use Rattle.cg_inst.proofs.make.with_trees.Goals as goal
use Rattle.cg_base.proofs.Sequences.{one_more' as one_more}

pub loop-at-preserved : goal.loop-at-preserved
loop-at-preserved c =
    let x = c.in_ok-instance_at.field-0 in
    ap (map instance_of) c.in_ok-push.ensures.ok ∙ map-append instance_of c.loop-at.list (x ∷ []) ∙ ap (λ xs. xs ++ instance_of x ∷ []) c.loop-at.invariant
    ∙ sym (one_more (found_in c.args.found.now) c.loop-at.at (instance_of x) c.in_ok-instance_at.ensures)
