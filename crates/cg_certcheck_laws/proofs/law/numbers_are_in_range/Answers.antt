use Rattle.cg_certcheck_laws.proofs.FirstFault.{numbers}
use Rattle.cg_certcheck_laws.proofs.law.numbers_are_in_range.Goals as goal

pub returns : goal.returns
returns c = numbers
