use Rattle.cg_check_laws.proofs.Limits.{within_limits}
use Rattle.cg_check_laws.proofs.law.accepted_within_limits.Goals as goal

pub returns : goal.returns
returns c = within_limits
