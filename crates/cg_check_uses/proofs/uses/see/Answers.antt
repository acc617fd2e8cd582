use Rattle.std.proofs.Common.{rules, ap, ◌∙◌, slice_set}
use Rattle.cg_check_uses.proofs.SeenSteps.{put_one, put_past}
use Rattle.cg_check_uses.proofs.uses.see.Goals as goal

pub returns-then-at-len : goal.returns-then-at-len
returns-then-at-len c =
    ap (λ p. slice_set c.args.seen.now.items c.args.observer.var p) c.first_place.ensures
    ∙ put_one c.args.seen.now.items c.args.observer.var c.index.result.now c.index.result.now c.args.observer.place (search rules) c.index.ensures

pub returns-else-at-len : goal.returns-else-at-len
returns-else-at-len c = put_past c.args.seen.now.items c.args.observer.var c.args.observer.place (search rules)
