use Rattle.cg_gen_names_laws.proofs.Entry.{entry_is_last}
use Rattle.cg_gen_names_laws.proofs.law.entry_is_last.Goals as goal

pub returns : goal.returns
returns c = entry_is_last
