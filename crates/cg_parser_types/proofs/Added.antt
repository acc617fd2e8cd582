-- Lists of the code with an item more, and the place of a type.
use Rattle.std.proofs.Common.{◌≡◌, List, [], ◌∷◌, ◌++◌, map, Some, None, ap, ◌∙◌}
use Rattle.std.proofs.lemmas.List.{map-append}
use Rattle.cg_base.specs.declared.place.Place.{Place}
use Rattle.cg_core.specs.declared.at.At.{At}
use Rattle.cg_surface.specs.declared.written.STy.{STy}
use Rattle.cg_surface.specs.declared.written.STyForm.{STyForm, fold-STyForm, fold_out-STyForm}
use Rattle.cg_surface.specs.declared.written.STyForm.TheOpen as open'
use Rattle.cg_surface.specs.declared.written.SPart.{SPart}
use Rattle.cg_surface.specs.declared.written.SAlt.{SAlt, roll-SAlt, fold-roll-SAlt}
use Rattle.cg_surface.specs.Written.{Written, OneAlt, OneField, layer, alt_layer, field_layer, type_layer, written_of, field_of, alt_of, and_type, and_field, and_plain, and_alt, and_one, to_types, to_fields, to_alts, types_push, fields_push, alts_push, types_none, fields_none, alts_none, place_of}
use Rattle.cg_surface.proofs.Views.{type_field_is as field_is, layer_at}

-- an alternative without, and with a payload
abbrev plain_alt : At → SAlt
plain_alt at = roll-SAlt (record { at = at; ty = None })

abbrev alt_with : At → STy → SAlt
alt_with at t = roll-SAlt (record { at = at; ty = Some t })

plain_is : (at : At) → alt_of (plain_alt at) ≡ record { at = at; ty = None }
plain_is at = fold-roll-SAlt (Place → Written) OneAlt OneField Written layer alt_layer field_layer type_layer (record { at = at; ty = None })

alt_is : (at : At) (t : STy) → alt_of (alt_with at t) ≡ record { at = at; ty = Some (written_of t) }
alt_is at t = fold-roll-SAlt (Place → Written) OneAlt OneField Written layer alt_layer field_layer type_layer (record { at = at; ty = Some t })

-- a form stands at the place that it is given
form_of : STyForm → Place → Written
form_of = fold-STyForm (Place → Written) OneAlt OneField Written layer alt_layer field_layer type_layer

form_at : (f : STyForm) (p : Place) → place_of (form_of f p) ≡ p
unfolding form_of
form_at f p = ap (λ g. place_of (g p)) (fold_out-STyForm (Place → Written) OneAlt OneField Written layer alt_layer field_layer type_layer f) ∙ layer_at _ p

pub types_added : (ts : List STy) (t : STy) → to_types (map written_of (ts ++ t ∷ [])) ≡ and_type (to_types (map written_of ts)) (written_of t)
types_added ts t = ap to_types (map-append written_of ts (t ∷ [])) ∙ types_push (map written_of ts) (written_of t)

pub fields_added : (gs : List SPart) (at : At) (t : STy) → to_fields (map field_of (gs ++ record { at = at; ty = t } ∷ [])) ≡ and_field (to_fields (map field_of gs)) at (written_of t)
fields_added gs at t =
    let g : SPart = record { at = at; ty = t } in
    ap to_fields (map-append field_of gs (g ∷ [])) ∙ fields_push (map field_of gs) (field_of g) ∙ ap (λ (f : OneField). and_field (to_fields (map field_of gs)) f.at f.ty) (field_is g)

alts_added : (choices : List SAlt) (a : SAlt) (b : OneAlt) → alt_of a ≡ b → to_alts (map alt_of (choices ++ a ∷ [])) ≡ and_one (to_alts (map alt_of choices)) b.at b.ty
alts_added choices a b e =
    ap to_alts (map-append alt_of choices (a ∷ [])) ∙ alts_push (map alt_of choices) (alt_of a) ∙ ap (λ (o : OneAlt). and_one (to_alts (map alt_of choices)) o.at o.ty) e

pub plain_added : (choices : List SAlt) (at : At) → to_alts (map alt_of (choices ++ roll-SAlt (record { at = at; ty = None }) ∷ [])) ≡ and_plain (to_alts (map alt_of choices)) at
plain_added choices at = alts_added choices (plain_alt at) (record { at = at; ty = None }) (plain_is at)

pub alt_added : (choices : List SAlt) (at : At) (t : STy) → to_alts (map alt_of (choices ++ roll-SAlt (record { at = at; ty = Some t }) ∷ [])) ≡ and_alt (to_alts (map alt_of choices)) at (written_of t)
alt_added choices at t = alts_added choices (alt_with at t) (record { at = at; ty = Some (written_of t) }) (alt_is at t)

pub ruleset added = (types_added, fields_added, plain_added, alt_added, types_none, fields_none, alts_none)
