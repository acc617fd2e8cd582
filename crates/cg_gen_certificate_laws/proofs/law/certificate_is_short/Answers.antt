use Rattle.cg_gen_certificate_laws.proofs.Short.{certificate_is_short}
use Rattle.cg_gen_certificate_laws.proofs.law.certificate_is_short.Goals as goal

pub returns : goal.returns
returns c = certificate_is_short
