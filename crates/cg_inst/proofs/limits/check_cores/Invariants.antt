use Rattle.std.proofs.Common.{◌≡◌, ◌+◌, ◌≤◌, drop}
use Rattle.cg_inst.specs.Founds.{found_in}
use Rattle.cg_inst.specs.Judged.{core_in}
use Rattle.cg_inst.specs.Lists.{most_nodes, nodes_in}
use Rattle.cg_inst.proofs.limits.check_cores.Given as goal

abbrev pub invariant-loop-at : goal.invariant-loop-at
invariant-loop-at l =
    (l.count ≤ most_nodes)
    × (l.count + nodes_in (core_in l.checked) (drop l.at (found_in l.found)) ≡ nodes_in (core_in l.checked) (found_in l.found))
