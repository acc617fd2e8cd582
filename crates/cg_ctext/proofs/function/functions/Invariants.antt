use Rattle.std.proofs.Common.{◌≡◌, ◌++◌, map, take}
use Rattle.std.specs.List.{flat_map}
use Rattle.cg_ctree.specs.Trees.{function_of}
use Rattle.cg_ctext.specs.Printed.{function_text}
use Rattle.cg_ctext.proofs.function.functions.Given as goal

abbrev pub invariant-loop-fun : goal.invariant-loop-fun
invariant-loop-fun l = l.text.items ≡ l.fn.text.items ++ flat_map function_text (map function_of (take l.fun-index l.funs))
