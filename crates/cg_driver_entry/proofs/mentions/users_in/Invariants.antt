use Rattle.std.proofs.Common.{Bor, ◌≡◌, map, take}
use Rattle.std.specs.List.{flat_map}
use Rattle.cg_core.specs.declared.term.Term.{Term}
use Rattle.cg_core.specs.declared.term.Typed.{Typed}
use Rattle.cg_core.specs.Kernels.{the_core}
use Rattle.cg_driver_entry.specs.Entries.{users_at}
use Rattle.cg_driver_entry.proofs.mentions.users_in.Given as goal

abbrev pub invariant-loop-node : goal.invariant-loop-node
invariant-loop-node l = l.targets.items ≡ flat_map users_at (map (λ (n : Bor (Term Typed)). the_core n.now) (take l.node-index l.node-items))
