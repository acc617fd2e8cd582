use Rattle.cg_gen_laws.proofs.Going.{never_refused}
use Rattle.cg_gen_laws.proofs.law.gen_is_never_refused.Goals as goal

pub returns : goal.returns
returns c = never_refused c.one_outcome.ensures c.gen_goes.ensures
