use Rattle.std.proofs.Common.{refl}
use Rattle.cg_cmachine_resolve.proofs.scope.Variables.push.Goals as goal

pub returns-clause-list : goal.returns-clause-list
returns-clause-list c = record {
  last = record { start = c.args.self.now.slots; ty = _; kind = c.kind-kind.result };
  holds = record { starts = refl; typed = refl; kinded = c.kind-kind.ensures };
  behind = c.in_ok-push.ensures.items;
}
