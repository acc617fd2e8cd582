use Rattle.std.proofs.Common.{◌≡◌, map, take}
use Rattle.cg_lower_tables.proofs.layer.places.Given as goal

abbrev pub invariant-loop-member : goal.invariant-loop-member
invariant-loop-member l = l.places.items ≡ map (λ m. m.at) (take l.member-index l.members)
