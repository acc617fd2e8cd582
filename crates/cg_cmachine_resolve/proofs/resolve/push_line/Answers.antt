use Rattle.std.proofs.Common.{refl}
use Rattle.cg_cmachine_resolve.proofs.resolve.push_line.Goals as goal

pub returns-clause-line : goal.returns-clause-line
returns-clause-line c = record { last = _; holds = record { same = refl; stands = c.in_ok-action.ensures.does }; behind = c.in_ok-push.ensures.items }
