use Rattle.cg_heap_laws.proofs.Fitting.{holds_fits}
use Rattle.cg_heap_laws.proofs.law.represented_fits.Goals as goal

pub returns : goal.returns
returns c = holds_fits
