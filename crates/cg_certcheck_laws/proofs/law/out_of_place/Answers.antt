use Rattle.cg_certcheck_laws.proofs.OutOfPlace.{out_of_place}
use Rattle.cg_certcheck_laws.proofs.law.out_of_place.Goals as goal

pub returns : goal.returns
returns c = out_of_place
