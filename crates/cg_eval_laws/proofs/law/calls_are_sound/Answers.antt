use Rattle.cg_eval_laws.proofs.Soundness.{calls_are_sound}
use Rattle.cg_eval_laws.proofs.law.calls_are_sound.Goals as goal

pub returns : goal.returns
returns c = calls_are_sound
