use Rattle.cg_lower.proofs.CallSteps.{put_one}
use Rattle.cg_lower.proofs.graph.put.Goals as goal

pub returns-in_ok-push : goal.returns-in_ok-push
returns-in_ok-push c =
    put_one c.args.tags.now.items c.args.number c.args.at c.in-Some.places.now c.push.new.self c.in-Some.ensures.item.3.0 c.in-Some.ensures.value c.in_ok-push.ensures.items
