use Rattle.cg_cert.proofs.Marked.{kept}
use Rattle.cg_cert.proofs.law.kept_is_marked.Goals as goal

pub returns : goal.returns
returns c = kept
