use Rattle.cg_driver_laws.proofs.Sound.{entries_are_sound}
use Rattle.cg_driver_laws.proofs.law.entries_are_sound.Goals as goal

pub returns : goal.returns
returns c = entries_are_sound
