-- Steps over written types.
use Rattle.std.proofs.Common.{◌≡◌, ℕ, ◌+◌, ◌<◌, List, ◌++◌, Option, Some, None, map, length, get_or, take, sym, ap, ◌∙◌, refl, append-nil, Bor}
use Rattle.std.specs.BTreeMap.{BTreeMap}
use Rattle.cg_surface.specs.declared.written.SAlt.{SAlt}
use Rattle.cg_surface.specs.declared.written.SPart.{SPart}
use Rattle.cg_surface.specs.declared.written.STy.{STy}
use Rattle.cg_surface.specs.declared.written.STyForm.{the_lemmas}
use Rattle.cg_surface.specs.Written.{Written, and_type, WrittenAlts, OneAlt, and_one, written_of, field_of, alt_of, to_types, to_fields, to_alts, types_push, fields_push, alts_push, types_none, fields_none, alts_none}
use Rattle.cg_resolve_def.specs.Mentions.{type_mentions, types_mentions, fields_mentions, alts_mentions}
use Rattle.cg_surface.proofs.Views.{type_field_is}
use Rattle.cg_resolve_names.proofs.TypeSteps.{one_alt, one_field}
use Rattle.cg_resolve_mentions.specs.Parts.{payload_mentions}
use Rattle.cg_resolve_mentions.specs.Positions.{pushed}
use Rattle.cg_resolve_mentions.proofs.Pushed.{turn, pushed_steps}

alt_step : (choices : WrittenAlts) (a : OneAlt) → alts_mentions (one_alt choices a) ≡ alts_mentions choices ++ payload_mentions a.ty
alt_step choices a = at_payload a.ty
  where
    at_payload : (ty : Option Written) → alts_mentions (and_one choices a.at ty) ≡ alts_mentions choices ++ payload_mentions ty
    at_payload None = sym (append-nil (alts_mentions choices))
    at_payload (Some t) = refl

module _ (table : BTreeMap (Bor (List ℕ)) ℕ) (start targets new : List ℕ) where
  -- a turn of the loop over types, over fields, and over alternatives
  pub type_turn : (items : List STy) (i : ℕ) (x : STy) → i < length items → x ≡ get_or items i x → targets ≡ pushed table start (types_mentions (to_types (map written_of (take i items))))
      → new ≡ pushed table targets (type_mentions (written_of x)) → new ≡ pushed table start (types_mentions (to_types (map written_of (take (i + 1) items))))
  type_turn items i x within is before more =
      turn to_types and_type types_push written_of items i x within is types_mentions (λ ts t. type_mentions t) (λ ts t. refl) table start targets new before more

  pub field_turn : (items : List SPart) (i : ℕ) (x : SPart) → i < length items → x ≡ get_or items i x → targets ≡ pushed table start (fields_mentions (to_fields (map field_of (take i items))))
      → new ≡ pushed table targets (type_mentions (written_of x.ty)) → new ≡ pushed table start (fields_mentions (to_fields (map field_of (take (i + 1) items))))
  field_turn items i x within is before more =
      turn to_fields one_field fields_push field_of items i x within is fields_mentions (λ fs f. type_mentions f.ty) (λ fs f. refl) table start targets new before
      (more ∙ ap (λ f. pushed table targets (type_mentions f.ty)) (sym (type_field_is x)))

  pub alternative_turn : (items : List SAlt) (i : ℕ) (x : SAlt) → i < length items → x ≡ get_or items i x → targets ≡ pushed table start (alts_mentions (to_alts (map alt_of (take i items))))
      → new ≡ pushed table targets (payload_mentions (alt_of x).ty) → new ≡ pushed table start (alts_mentions (to_alts (map alt_of (take (i + 1) items))))
  alternative_turn items i x within is before more =
      turn to_alts one_alt alts_push alt_of items i x within is alts_mentions (λ choices a. payload_mentions a.ty) alt_step table start targets new before more

pub ruleset type_steps = (the_lemmas, types_none, fields_none, alts_none, pushed_steps)
