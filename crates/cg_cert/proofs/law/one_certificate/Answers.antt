use Rattle.cg_cert.proofs.Complete.{one}
use Rattle.cg_cert.proofs.law.one_certificate.Goals as goal

pub returns : goal.returns
returns c = one
