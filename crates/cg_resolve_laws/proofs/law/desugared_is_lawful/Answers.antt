use Rattle.cg_resolve_laws.proofs.Kernel.{desugared_lawful}
use Rattle.cg_resolve_laws.proofs.law.desugared_is_lawful.Goals as goal

pub returns : goal.returns
returns c = desugared_lawful
