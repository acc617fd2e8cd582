use Rattle.std.proofs.Common.{◌≡◌, ◌++◌, map, drop}
use Rattle.cg_core.specs.Kernels.{function_of}
use Rattle.cg_typing.specs.Holds.{trees_in}
use Rattle.cg_typing.specs.Kept.{maybe_tree}
use Rattle.cg_cert.specs.Printed.{functions_text}
use Rattle.cg_cert.proofs.print.lines.Given as goal

abbrev pub invariant-loop-at : goal.invariant-loop-at
invariant-loop-at l =
    l.text.items ++ functions_text (map function_of (drop l.at l.fun-items)) (map maybe_tree (drop l.at (trees_in l.checked)))
    ≡ l.fn.text.items ++ functions_text (map function_of l.fun-items) (map maybe_tree (trees_in l.checked))
