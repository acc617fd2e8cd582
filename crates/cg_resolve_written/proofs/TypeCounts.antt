-- How many items lists of written types of the code have, and the widest of them.
use Rattle.std.proofs.Common.{◌≡◌, ◌+◌, max, List, [], ◌∷◌, length, map, Option, Some, None, refl, ap, ◌∙◌, arith}
use Rattle.std.proofs.lemmas.List.{length-map}
use Rattle.cg_core.specs.declared.at.At.{At}
use Rattle.cg_surface.specs.declared.written.STy.{the_lemmas}
use Rattle.cg_surface.specs.declared.written.SPart.{SPart}
use Rattle.cg_surface.specs.declared.written.SAlt.{SAlt}
use Rattle.cg_surface.specs.Written.{Written, WrittenFields, WrittenAlts, OneAlt, OneField, field_of, alt_of, and_field, and_one, to_fields, to_alts, fields_behind, alts_behind, no_fields, no_alts, types_none, fields_none, alts_none}
use Rattle.cg_resolve_def.specs.Takes.{fields_length, alts_length, widest_alt}
use Rattle.cg_resolve_def.proofs.TypesCounted.{types_counted}
use Rattle.cg_resolve_expand.proofs.TypeLists.{types_at, fields_at, alts_at}
use Rattle.cg_resolve_written.specs.Wide.{widest_payload}

fields_more : (before : WrittenFields) (fs : List OneField) → fields_length (fields_behind before fs) ≡ fields_length before + length fs
fields_more before [] = omega arith
fields_more before (f ∷ fs) = fields_more (and_field before f.at f.ty) fs ∙ omega arith

alts_more : (before : WrittenAlts) (choices : List OneAlt) → alts_length (alts_behind before choices) ≡ alts_length before + length choices
alts_more before [] = omega arith
alts_more before (a ∷ choices) = alts_more (and_one before a.at a.ty) choices ∙ ap (λ n. n + length choices) (one a.ty) ∙ omega arith
  where
    one : (t : Option Written) → alts_length (and_one before a.at t) ≡ alts_length before + 1
    one None = refl
    one (Some t) = refl

pub fields_counted : (fs : List SPart) → fields_length (to_fields (map field_of fs)) ≡ length fs
unfolding to_fields
fields_counted fs = fields_more no_fields (map field_of fs) ∙ omega (arith, length-map fs field_of)

pub alts_counted : (choices : List SAlt) → alts_length (to_alts (map alt_of choices)) ≡ length choices
unfolding to_alts
alts_counted choices = alts_more no_alts (map alt_of choices) ∙ omega (arith, length-map choices alt_of)

pub widest_one : (choices : WrittenAlts) (at : At) (t : Option Written) → widest_alt (and_one choices at t) ≡ max (widest_alt choices) (widest_payload t)
widest_one choices at None = omega arith
widest_one choices at (Some t) = refl

pub ruleset type_counts = (types_counted, fields_counted, alts_counted, types_at, fields_at, alts_at, types_none, fields_none, alts_none, widest_one, the_lemmas)
