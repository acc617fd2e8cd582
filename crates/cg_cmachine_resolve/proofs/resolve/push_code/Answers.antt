use Rattle.cg_cmachine_resolve.proofs.resolve.push_code.Goals as goal

pub returns : goal.returns
returns c = record { last = _; holds = c.in_ok-code.ensures; behind = c.in_ok-push.ensures.items }
