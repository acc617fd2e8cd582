use Rattle.cg_typing_laws.proofs.Instances.{checked_arguments}
use Rattle.cg_typing_laws.proofs.law.checked_arguments_are_instance.Goals as goal

pub returns : goal.returns
returns c = checked_arguments
