use Rattle.std.proofs.Common.{◌≡◌, length, map, take}
use Rattle.std.specs.List.{AllByRecursion}
use Rattle.cg_lower_nodes.specs.Kept.{kept_of, whole_of}
use Rattle.cg_lower.specs.Collected.{entries_of}
use Rattle.cg_lower.specs.Copies.{copies_of}
use Rattle.cg_ctree.specs.Trees.{function_of}
use Rattle.cg_lower_def.specs.Functions.{function_of_item, functions_at}
use Rattle.cg_lower.specs.Lowerings.{IsFewItem}
use Rattle.cg_lower.specs.Programs.{item_of}
use Rattle.cg_lower.proofs.program.functions.Given as goal

abbrev pub invariant-loop-node : goal.invariant-loop-node
invariant-loop-node l =
    (map function_of l.functions ≡ functions_at (function_of_item (whole_of l.fn.state) (entries_of (copies_of l.mono))) (map (item_of (length l.fn.state.places.arrows)) (take l.node-index l.order)))
    × AllByRecursion (IsFewItem (whole_of l.fn.state) (copies_of l.mono)) (map (item_of (length l.fn.state.places.arrows)) (take l.node-index l.order))
    × (kept_of l.state ≡ kept_of l.fn.state)
