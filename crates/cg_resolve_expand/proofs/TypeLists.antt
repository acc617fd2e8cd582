-- Lists of written types of the code, an item further. Each says first that the item is itself, so that `grind` finds it where
-- the item is read.
use Rattle.std.proofs.Common.{◌≡◌, ℕ, ◌+◌, ◌<◌, List, [], ◌∷◌, length, map, take, get_or, refl, ap, ◌∙◌}
use Rattle.std.proofs.lemmas.List.{map-append, take_more}
use Rattle.std.specs.Option.{option_map}
use Rattle.cg_surface.proofs.Views.{type_field_is, type_alt_is}
use Rattle.cg_surface.specs.declared.written.STy.{STy}
use Rattle.cg_surface.specs.declared.written.SPart.{SPart}
use Rattle.cg_surface.specs.declared.written.SAlt.{SAlt, out-SAlt}
use Rattle.cg_surface.specs.Written.{OneAlt, OneField, written_of, field_of, alt_of, and_type, and_field, and_one, to_types, to_fields, to_alts, types_push, fields_push, alts_push}

pub types_at : (ts : List STy) (i : ℕ) (d : STy) → i < length ts → (get_or ts i d ≡ get_or ts i d)
    × (to_types (map written_of (take (i + 1) ts)) ≡ and_type (to_types (map written_of (take i ts))) (written_of (get_or ts i d)))
types_at ts i d lt = (
  refl,
  ap (λ l. to_types (map written_of l)) (take_more ts i d lt) ∙ ap to_types (map-append written_of (take i ts) (get_or ts i d ∷ [])) ∙ types_push (map written_of (take i ts)) (written_of (get_or ts i d)),
)

pub fields_at : (fs : List SPart) (i : ℕ) (d : SPart) → i < length fs → (get_or fs i d ≡ get_or fs i d)
    × (to_fields (map field_of (take (i + 1) fs)) ≡ and_field (to_fields (map field_of (take i fs))) (get_or fs i d).at (written_of (get_or fs i d).ty))
fields_at fs i d lt = (
  refl,
  ap (λ l. to_fields (map field_of l)) (take_more fs i d lt) ∙ ap to_fields (map-append field_of (take i fs) (get_or fs i d ∷ [])) ∙ fields_push (map field_of (take i fs)) (field_of (get_or fs i d))
      ∙ ap (λ (f : OneField). and_field (to_fields (map field_of (take i fs))) f.at f.ty) (type_field_is (get_or fs i d)),
)

pub alts_at : (choices : List SAlt) (i : ℕ) (d : SAlt) → i < length choices → (get_or choices i d ≡ get_or choices i d)
    × (to_alts (map alt_of (take (i + 1) choices)) ≡ and_one (to_alts (map alt_of (take i choices))) (out-SAlt (get_or choices i d)).at (option_map written_of (out-SAlt (get_or choices i d)).ty))
alts_at choices i d lt = (
  refl,
  ap (λ l. to_alts (map alt_of l)) (take_more choices i d lt) ∙ ap to_alts (map-append alt_of (take i choices) (get_or choices i d ∷ [])) ∙ alts_push (map alt_of (take i choices)) (alt_of (get_or choices i d))
      ∙ ap (λ (a : OneAlt). and_one (to_alts (map alt_of (take i choices))) a.at a.ty) (type_alt_is (get_or choices i d)),
)
