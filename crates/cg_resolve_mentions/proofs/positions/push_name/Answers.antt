use Rattle.std.proofs.Common.{rules}
use Rattle.cg_resolve_mentions.proofs.PositionSteps.{pushed_found, pushed_absent}
use Rattle.cg_resolve_mentions.proofs.positions.push_name.Goals as goal

pub returns-in_ok-push : goal.returns-in_ok-push
returns-in_ok-push c =
    let found = pushed_found c.args.positions.now c.args.targets.now.items c.args.name.now c.in-Some.position.now in
    search (rules, found)

pub returns-in_default : goal.returns-in_default
returns-in_default c =
    let absent = pushed_absent c.args.positions.now c.args.targets.now.items c.args.name.now in
    search (rules, absent)
