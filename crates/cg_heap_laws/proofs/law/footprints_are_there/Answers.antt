use Rattle.cg_heap_laws.proofs.There.{foot_there}
use Rattle.cg_heap_laws.proofs.law.footprints_are_there.Goals as goal

pub returns : goal.returns
returns c = foot_there
