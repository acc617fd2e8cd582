use Rattle.cg_check_laws.proofs.BindingsCases.{bindings}
use Rattle.cg_check_laws.proofs.law.binding_cases.Goals as goal

pub returns : goal.returns
returns c = bindings
