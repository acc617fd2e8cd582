use Rattle.std.proofs.Common.{◌≡◌, ◌++◌, map, drop}
use Rattle.cg_core.specs.Kernels.{the_core, the_core_field}
use Rattle.cg_core.specs.Terms.{to_named, to_trees}
use Rattle.cg_typing.specs.Instances.{nodes_of_all, nodes_of_fields}
use Rattle.cg_typing.proofs.nodes.+nodes.Given as goal

abbrev pub invariant-push_all-loop-term : goal.invariant-push_all-loop-term
invariant-push_all-loop-term l =
    map (λ node. the_core node.now) l.nodes.items ++ nodes_of_all (to_trees (map the_core (drop l.term-index l.terms)))
    ≡ map (λ node. the_core node.now) l.initial.nodes.items ++ nodes_of_all (to_trees (map the_core l.terms))

abbrev pub invariant-push_fields-loop-field : goal.invariant-push_fields-loop-field
invariant-push_fields-loop-field l =
    map (λ node. the_core node.now) l.nodes.items ++ nodes_of_fields (to_named (map the_core_field (drop l.field-index l.fields)))
    ≡ map (λ node. the_core node.now) l.initial.nodes.items ++ nodes_of_fields (to_named (map the_core_field l.fields))
