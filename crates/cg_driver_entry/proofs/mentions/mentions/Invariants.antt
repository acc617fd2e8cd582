use Rattle.std.proofs.Common.{◌≡◌, map}
use Rattle.std.specs.List.{range_with_len}
use Rattle.cg_graphs.specs.Orders.{lists}
use Rattle.cg_typing.specs.Holds.{cores_in, kept_at}
use Rattle.cg_typing.specs.Kept.{maybe_core}
use Rattle.cg_driver_entry.specs.Entries.{users_in}
use Rattle.cg_driver_entry.proofs.mentions.mentions.Given as goal

abbrev pub invariant-loop-at : goal.invariant-loop-at
invariant-loop-at l = lists l.edges.items ≡ map (λ i. users_in (maybe_core (kept_at (cores_in l.checked) i))) (range_with_len 0 l.at)
