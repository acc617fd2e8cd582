-- The place of an item.
use Rattle.std.proofs.Common.{◌≡◌, ℕ, ◌<◌, List, map, length, get_or, Some, ap, refl, ◌∙◌}
use Rattle.std.proofs.lemmas.Option.{slice_get-map, slice_get_read}
use Rattle.std.specs.Option.{option_map}
use Rattle.cg_surface.specs.declared.program.Item.{Item}
use Rattle.cg_surface.specs.Programs.{entry_of}
use Rattle.cg_resolve_def.specs.Desugar.{entry_at}
use Rattle.cg_resolve.specs.Answers.{IsPlaceAt}

-- an item, read from a list, that is this one
pub place_is : (items : List Item) (at : ℕ) (read : Item) → at < length items → read ≡ get_or items at read → (item : Item) → read ≡ item → IsPlaceAt (map entry_of items) at (entry_at (entry_of item)).place
place_is items at read within is item same =
    (entry_of item, slice_get-map entry_of items at ∙ ap (option_map entry_of) (slice_get_read items (length items) at read refl within is ∙ ap Some same), refl)
