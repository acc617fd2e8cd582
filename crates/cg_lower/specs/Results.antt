-- What is collected of a list of instances.
use Rattle.std.specs.Prelude.{◌≡◌, List}
use Rattle.std.specs.List.{AllByRecursion, flat_map}
use Rattle.cg_lower.specs.Calls.{AreApart}
use Rattle.cg_lower.specs.Collected.{Copy, arrows_in, list_of, table_in, types_of}
use Rattle.cg_lower.specs.declared.gather.Collected.{Collected}
use Rattle.cg_lower_def.specs.Structs.{IsCovered}

-- what is known of the whole is that of these copies
pub record IsCollected (copies : List Copy) (c : Collected) : Type 0 where
  pub list : c.places.list ≡ list_of copies
  pub arrows : c.places.arrows ≡ arrows_in copies
  pub table : c.structs.table ≡ table_in copies
  pub covered : AllByRecursion (IsCovered (table_in copies)) (flat_map types_of copies)
  pub apart : AreApart c.places.arrows
