use Rattle.cg_gen_names_laws.proofs.Order.{names_are_in_order}
use Rattle.cg_gen_names_laws.proofs.law.names_are_in_order.Goals as goal

pub returns : goal.returns
returns c = names_are_in_order
