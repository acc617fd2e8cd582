use Rattle.std.proofs.Common.{ap, map, ◌∙◌}
use Rattle.cg_graphs.specs.Orders.{lists}
use Rattle.cg_core.specs.Kernels.{function_of, kernel_of}
use Rattle.cg_driver_entry.proofs.Users.{answered}
use Rattle.cg_driver_entry.proofs.mentions.reaches_abstract.Goals as goal

pub returns : goal.returns
returns c =
    answered c.args.checked.now c.args.at (lists c.as_slice.result.now) (map function_of c.as_slice-2.result.now) c.in_ok-marks.marks.items c.as_slice-3.result.now c.is_marked_abstract.result
    (ap lists c.as_slice.ensures.value ∙ c.in_ok-edges.ensures) c.in_ok-marks.ensures c.as_slice-3.ensures.value
    (ap (map function_of) c.as_slice-2.ensures ∙ ap kernel_of c.kernel.ensures) c.is_marked_abstract.ensures
