use Rattle.std.proofs.Common.{◌≡◌, ◌<◌, ◌++◌, length, map}
use Rattle.cg_inst_types.specs.Places.{Each, type_at}
use Rattle.cg_inst_types.specs.Listings.{IsListing, list_at}
use Rattle.cg_inst_types.proofs.layers.Layers.list.Given as goal

abbrev pub invariant-loop : goal.invariant-loop
invariant-loop l =
    IsListing l.self.types l.rest
    × (map (type_at l.self.types) l.types.items ++ list_at l.self.types l.rest ≡ list_at l.self.types l.at)
    × Each (λ id. id < length l.self.types) l.types.items
