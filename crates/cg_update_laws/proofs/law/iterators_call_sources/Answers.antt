use Rattle.cg_update_laws.proofs.Sources.{iterators_call_sources}
use Rattle.cg_update_laws.proofs.law.iterators_call_sources.Goals as goal

pub returns : goal.returns
returns c = iterators_call_sources
