-- What the pass over a term goes by.
use Rattle.cg_check_context.proofs.ObservedSteps.{restored, seen_types}
use Rattle.cg_check_context.proofs.SourceSteps.{types_pushed}

pub ruleset pass_steps = (types_pushed, restored, seen_types)
