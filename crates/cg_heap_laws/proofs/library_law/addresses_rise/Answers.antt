use Rattle.cg_heap_laws.proofs.Rising.{addresses_rise}
use Rattle.cg_heap_laws.proofs.library_law.addresses_rise.Goals as goal

pub returns : goal.returns
returns c = addresses_rise
