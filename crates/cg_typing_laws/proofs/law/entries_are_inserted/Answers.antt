use Rattle.cg_typing_laws.proofs.Renumbering.{insertion}
use Rattle.cg_typing_laws.proofs.law.entries_are_inserted.Goals as goal

pub returns : goal.returns
returns c = insertion
