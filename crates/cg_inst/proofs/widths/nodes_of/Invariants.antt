use Rattle.std.proofs.Common.{◌≡◌, ◌+◌, ◌≤◌, drop}
use Rattle.cg_inst.specs.Measured.{nodes_by, nodes_for, width_in}
use Rattle.cg_inst_types.specs.Layers.{capped, types_at}
use Rattle.cg_inst.proofs.widths.nodes_of.Given as goal

abbrev pub invariant-loop-variable : goal.invariant-loop-variable
invariant-loop-variable l =
    (l.total ≤ 4294967295)
    × (capped (l.total + nodes_for (types_at l.table l.types) (drop l.variable-index l.variable-items)) ≡ nodes_by (types_at l.table l.types) (width_in l.width))
