use Rattle.cg_gen_typing_laws.proofs.Derived.{kernel_is_accepted}
use Rattle.cg_gen_typing_laws.proofs.law.kernel_is_accepted.Goals as goal

pub returns : goal.returns
returns c = kernel_is_accepted
