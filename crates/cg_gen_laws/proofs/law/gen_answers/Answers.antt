use Rattle.cg_gen_laws.proofs.Answering.{gen_answers}
use Rattle.cg_gen_laws.proofs.law.gen_answers.Goals as goal

pub returns : goal.returns
returns c = gen_answers c.gen_is_never_refused.ensures
