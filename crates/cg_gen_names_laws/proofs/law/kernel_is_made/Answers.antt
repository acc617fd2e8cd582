use Rattle.cg_gen_names_laws.proofs.Kernel.{kernel_is_made}
use Rattle.cg_gen_names_laws.proofs.law.kernel_is_made.Goals as goal

pub returns : goal.returns
returns c = kernel_is_made
