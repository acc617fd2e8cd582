-- Trees that are built from a table.
use Rattle.std.proofs.Common.{◌≡◌, ℕ, Bool, List, [], ◌∷◌, ◌++◌, map, slice_get, Some, sym, ap, ◌∙◌}
use Rattle.std.proofs.lemmas.List.{map-append}
use Rattle.cg_base.specs.declared.ty.Ty.{Ty}
use Rattle.cg_base.specs.declared.ty.Part.{Part}
use Rattle.cg_base.specs.Types.{Tau, type_of, part_of}
use Rattle.cg_inst_types.specs.Forms.{with_argument, with_arguments, with_part, with_parts}
use Rattle.cg_inst_types.specs.Places.{type_at}
use Rattle.cg_inst_types.proofs.Growth.{at_type}
use Rattle.cg_inst_types.proofs.Fronts.{arguments_behind, parts_behind}

-- one argument more, and the type without it
pub argument_built : (types : List Tau) (items all : List Ty) (item : Ty) (rest next ty : ℕ) (whole : Tau) → all ≡ items ++ item ∷ [] → type_of item ≡ type_at types ty →
    slice_get types rest ≡ Some (with_argument (type_at types next) (type_at types ty)) → with_arguments (map type_of items) (type_at types rest) ≡ whole →
    with_arguments (map type_of all) (type_at types next) ≡ whole
argument_built types items all item rest next ty whole e f g h =
    ap (λ ys. with_arguments (map type_of ys) (type_at types next)) e
    ∙ ap (λ ts. with_arguments ts (type_at types next)) (map-append type_of items (item ∷ []))
    ∙ ap (λ t. with_arguments (map type_of items ++ t ∷ []) (type_at types next)) f
    ∙ arguments_behind (map type_of items) (type_at types ty) (type_at types next)
    ∙ ap (with_arguments (map type_of items)) (sym (at_type types rest _ g))
    ∙ h

pub part_built : (types : List Tau) (items all : List Part) (item : Part) (rest next ty : ℕ) (name : List ℕ) (taken : Bool) (whole : Tau) → all ≡ items ++ item ∷ [] →
    part_of item ≡ record { name = name; ty = type_at types ty; taken = taken } →
    slice_get types rest ≡ Some (with_part (type_at types next) name (type_at types ty) taken) → with_parts (map part_of items) (type_at types rest) ≡ whole →
    with_parts (map part_of all) (type_at types next) ≡ whole
part_built types items all item rest next ty name taken whole e f g h =
    ap (λ ys. with_parts (map part_of ys) (type_at types next)) e
    ∙ ap (λ ps. with_parts ps (type_at types next)) (map-append part_of items (item ∷ []))
    ∙ ap (λ p. with_parts (map part_of items ++ p ∷ []) (type_at types next)) f
    ∙ parts_behind (map part_of items) (record { name = name; ty = type_at types ty; taken = taken }) (type_at types next)
    ∙ ap (with_parts (map part_of items)) (sym (at_type types rest _ g))
    ∙ h
