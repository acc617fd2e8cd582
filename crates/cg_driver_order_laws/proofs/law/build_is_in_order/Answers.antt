use Rattle.cg_driver_order_laws.proofs.Building.{build_in_order}
use Rattle.cg_driver_order_laws.proofs.law.build_is_in_order.Goals as goal

pub returns : goal.returns
returns c = build_in_order
