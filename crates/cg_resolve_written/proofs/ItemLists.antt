-- The items of a program, one further.
use Rattle.std.proofs.Common.{◌≡◌, ℕ, ◌+◌, ◌<◌, max, List, [], ◌∷◌, ◌++◌, length, map, take, get_or, refl, ap, ◌∙◌, arith}
use Rattle.std.proofs.lemmas.List.{map-append, take_more}
use Rattle.cg_surface.specs.declared.program.Item.{Item}
use Rattle.cg_surface.specs.Programs.{Entry, entry_of}
use Rattle.cg_resolve_def.specs.Takes.{widest_entry, widest_part}

widest_behind : (front : List Entry) (e : Entry) → widest_part (front ++ e ∷ []) ≡ max (widest_part front) (widest_entry e)
widest_behind [] e = omega arith
widest_behind (f ∷ front) e = let later = widest_behind front e in omega arith

pub widest_more : (items : List Item) (i : ℕ) (d : Item) → i < length items → (get_or items i d ≡ get_or items i d)
    × (widest_part (map entry_of (take (i + 1) items)) ≡ max (widest_part (map entry_of (take i items))) (widest_entry (entry_of (get_or items i d))))
widest_more items i d lt = (
  refl,
  ap (λ l. widest_part (map entry_of l)) (take_more items i d lt) ∙ ap widest_part (map-append entry_of (take i items) (get_or items i d ∷ [])) ∙ widest_behind (map entry_of (take i items)) (entry_of (get_or items i d)),
)
