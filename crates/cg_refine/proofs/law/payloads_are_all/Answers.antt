use Rattle.cg_refine.proofs.Parting.{payloads_are_all}
use Rattle.cg_refine.proofs.law.payloads_are_all.Goals as goal

pub returns : goal.returns
returns c = payloads_are_all
