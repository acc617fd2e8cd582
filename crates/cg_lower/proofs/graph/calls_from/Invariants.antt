use Rattle.std.proofs.Common.{Bor, ◌≡◌, map, take}
use Rattle.std.specs.List.{flat_map}
use Rattle.cg_core.specs.declared.term.Term.{Term}
use Rattle.cg_core.specs.declared.term.Typed.{Typed}
use Rattle.cg_core.specs.Kernels.{the_core}
use Rattle.cg_lower.specs.Calls.{calls_at, nodes_called, whole_by}
use Rattle.cg_lower.proofs.graph.calls_from.Given as goal

abbrev pub invariant-loop-node : goal.invariant-loop-node
invariant-loop-node l =
    (l.targets.items ≡ nodes_called (whole_by l.fn.places) (flat_map (calls_at (whole_by l.fn.places)) (map (λ (n : Bor (Term Typed)). the_core n.now) (take l.node-index l.node-items))))
    × (l.places ≡ l.fn.places)
