use Rattle.cg_parser_laws.proofs.ItemFaults.{spelled_ordered}
use Rattle.cg_parser_laws.proofs.law.spelled_faults_are_ordered.Goals as goal

pub returns : goal.returns
returns c = spelled_ordered
