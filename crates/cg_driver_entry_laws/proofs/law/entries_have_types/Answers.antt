use Rattle.cg_driver_entry_laws.proofs.Entries.{entries_have_types}
use Rattle.cg_driver_entry_laws.proofs.law.entries_have_types.Goals as goal

pub returns : goal.returns
returns c = entries_have_types c.mentions_stand_before.ensures
