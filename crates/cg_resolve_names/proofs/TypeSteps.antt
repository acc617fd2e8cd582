-- Steps over written types.
use Rattle.std.proofs.Common.{◌≡◌, ℕ, ◌+◌, ◌<◌, ◌||◌, List, [], ◌∷◌, ◌++◌, Option, Some, None, map, length, get_or, take, sym, ap, ◌∙◌, subst, refl, append-nil, append_assoc, if◌then◌else◌}
use Rattle.std.specs.Cmp.Lexicographic.{nat_list_eq_equiv}
use Rattle.std.specs.Str.{bytes_eq}
use Rattle.cg_base.specs.declared.place.Place.{Place}
use Rattle.cg_core.specs.declared.at.At.{At}
use Rattle.cg_surface.specs.declared.written.SAlt.{SAlt}
use Rattle.cg_surface.specs.declared.written.SPart.{SPart}
use Rattle.cg_surface.specs.declared.written.STy.{STy}
use Rattle.cg_surface.specs.declared.written.STyForm.{the_lemmas}
use Rattle.cg_surface.specs.Programs.{Entry}
use Rattle.cg_surface.specs.Written.{Written, named, and_type, WrittenFields, OneField, and_field, WrittenAlts, OneAlt, and_one, written_of, field_of, alt_of, to_types, to_fields, to_alts, types_push, fields_push, alts_push, types_none, fields_none, alts_none}
use Rattle.cg_resolve_def.specs.Declared.{is_among}
use Rattle.cg_resolve_def.specs.Expand.{types_length}
use Rattle.cg_resolve_def.specs.Faults.{NameFault, twice, again, name_faults, type_faults, types_faults, field_names, fields_faults, alt_names, alts_faults}
use Rattle.cg_resolve_def.proofs.TypesCounted.{types_counted}
use Rattle.cg_resolve_names.specs.Parts.{field_faults, payload_faults, alternative_faults}
use Rattle.cg_resolve_names.specs.Says.{IsFirstFault}
use Rattle.cg_resolve_names.specs.Scopes.{SameNames}
use Rattle.cg_resolve_names.specs.declared.fault.NamingFault.{NamingFault}
use Rattle.cg_resolve_names.proofs.Loops.{turn, fault, so_far}
use Rattle.cg_resolve_names.proofs.SaysSteps.{says_first}
use Rattle.cg_resolve_names.proofs.ScopeSteps.{among_one}

-- a name among those before it, in any order
pub again_same : (names others : List (List ℕ)) (p : Place) (n : List ℕ) → SameNames names others → again names p n ≡ again others p n
again_same names others p n same = ap (λ b. if b then twice p ∷ [] else []) (same n)

-- one name more, at the end of the one list and in front of the other
pub same_more : (names others : List (List ℕ)) (m : List ℕ) → SameNames names others → SameNames (names ++ m ∷ []) (m ∷ others)
same_more names others m same = λ n. among_one names m n ∙ ap (λ b. bytes_eq m n || b) (same n) ∙ ap (λ b. b || is_among others n) (nat_list_eq_equiv.symm m n)

abbrev pub one_field : WrittenFields → OneField → WrittenFields
one_field fs f = and_field fs f.at f.ty

abbrev pub one_alt : WrittenAlts → OneAlt → WrittenAlts
one_alt choices a = and_one choices a.at a.ty

module _ (entries : List Entry) (vars : List (List ℕ)) where
  abbrev of_field : WrittenFields → OneField → List NameFault
  of_field fs f = again (field_names fs) f.at.place f.at.name ++ type_faults entries vars f.ty

  field_step : (fs : WrittenFields) (f : OneField) → fields_faults entries vars (one_field fs f) ≡ fields_faults entries vars fs ++ of_field fs f
  field_step fs f = append_assoc (fields_faults entries vars fs) (again (field_names fs) f.at.place f.at.name) (type_faults entries vars f.ty)

  abbrev of_alt : WrittenAlts → OneAlt → List NameFault
  of_alt choices a = again (alt_names choices) a.at.place a.at.name ++ payload_faults entries vars a.ty

  alt_step : (choices : WrittenAlts) (a : OneAlt) → alts_faults entries vars (one_alt choices a) ≡ alts_faults entries vars choices ++ of_alt choices a
  alt_step choices a = at_payload a.at a.ty
    where
      at_payload : (at : At) (ty : Option Written) → alts_faults entries vars (and_one choices at ty) ≡ alts_faults entries vars choices ++ (again (alt_names choices) at.place at.name ++ payload_faults entries vars ty)
      at_payload at None = ap (λ l. alts_faults entries vars choices ++ l) (sym (append-nil (again (alt_names choices) at.place at.name)))
      at_payload at (Some t) = append_assoc (alts_faults entries vars choices) (again (alt_names choices) at.place at.name) (type_faults entries vars t)

  -- a turn of the loop over types
  module _ (items : List STy) (i : ℕ) (x : STy) (within : i < length items) (is : x ≡ get_or items i x) (none : types_faults entries vars (to_types (map written_of (take i items))) ≡ []) where
    pub type_fault : (first : NamingFault) → IsFirstFault (type_faults entries vars (written_of x)) first → IsFirstFault (types_faults entries vars (to_types (map written_of items))) first
    type_fault first h = fault to_types and_type types_push (types_faults entries vars) (λ ts t. type_faults entries vars t) (λ ts t. refl) written_of items i x within is none first h

    pub type_turn : type_faults entries vars (written_of x) ≡ [] → types_faults entries vars (to_types (map written_of (take (i + 1) items))) ≡ []
    type_turn no_more = turn to_types and_type types_push (types_faults entries vars) (λ ts t. type_faults entries vars t) (λ ts t. refl) written_of items i x within is none no_more

  -- a turn of the loop over fields
  module _ (items : List SPart) (i : ℕ) (x : SPart) (within : i < length items) (is : x ≡ get_or items i x) (none : fields_faults entries vars (to_fields (map field_of (take i items))) ≡ [])
      (names : List (List ℕ)) (same : SameNames names (field_names (to_fields (map field_of (take i items))))) where
    field_of_same : field_faults entries vars names (field_of x) ≡ of_field (to_fields (map field_of (take i items))) (field_of x)
    field_of_same = ap (λ l. l ++ type_faults entries vars (field_of x).ty) (again_same names (field_names (to_fields (map field_of (take i items)))) (field_of x).at.place (field_of x).at.name same)

    pub field_fault : (first : NamingFault) → IsFirstFault (field_faults entries vars names (field_of x)) first → IsFirstFault (fields_faults entries vars (to_fields (map field_of items))) first
    field_fault first h = fault to_fields one_field fields_push (fields_faults entries vars) of_field field_step field_of items i x within is none first (subst (λ l. IsFirstFault l first) field_of_same h)

    pub field_turn : field_faults entries vars names (field_of x) ≡ [] → fields_faults entries vars (to_fields (map field_of (take (i + 1) items))) ≡ []
    field_turn no_more = turn to_fields one_field fields_push (fields_faults entries vars) of_field field_step field_of items i x within is none (sym field_of_same ∙ no_more)

    pub field_more : (new : List (List ℕ)) → new ≡ names ++ (field_of x).at.name ∷ [] → SameNames new (field_names (to_fields (map field_of (take (i + 1) items))))
    field_more new new_is =
        subst (λ l. SameNames l (field_names (to_fields (map field_of (take (i + 1) items))))) (sym new_is)
        (subst (λ fs. SameNames (names ++ (field_of x).at.name ∷ []) (field_names fs))
        (sym (ap to_fields (so_far to_fields one_field fields_push (fields_faults entries vars) of_field field_step field_of items i x within is) ∙ fields_push (map field_of (take i items)) (field_of x)))
        (same_more names (field_names (to_fields (map field_of (take i items)))) (field_of x).at.name same))

  -- a turn of the loop over alternatives
  module _ (items : List SAlt) (i : ℕ) (x : SAlt) (within : i < length items) (is : x ≡ get_or items i x) (none : alts_faults entries vars (to_alts (map alt_of (take i items))) ≡ [])
      (names : List (List ℕ)) (same : SameNames names (alt_names (to_alts (map alt_of (take i items))))) where
    alt_of_same : alternative_faults entries vars names (alt_of x) ≡ of_alt (to_alts (map alt_of (take i items))) (alt_of x)
    alt_of_same = ap (λ l. l ++ payload_faults entries vars (alt_of x).ty) (again_same names (alt_names (to_alts (map alt_of (take i items)))) (alt_of x).at.place (alt_of x).at.name same)

    pub alternative_fault : (first : NamingFault) → IsFirstFault (alternative_faults entries vars names (alt_of x)) first → IsFirstFault (alts_faults entries vars (to_alts (map alt_of items))) first
    alternative_fault first h = fault to_alts one_alt alts_push (alts_faults entries vars) of_alt alt_step alt_of items i x within is none first (subst (λ l. IsFirstFault l first) alt_of_same h)

    pub alternative_turn : alternative_faults entries vars names (alt_of x) ≡ [] → alts_faults entries vars (to_alts (map alt_of (take (i + 1) items))) ≡ []
    alternative_turn no_more = turn to_alts one_alt alts_push (alts_faults entries vars) of_alt alt_step alt_of items i x within is none (sym alt_of_same ∙ no_more)

    pub alternative_more : (new : List (List ℕ)) → new ≡ names ++ (alt_of x).at.name ∷ [] → SameNames new (alt_names (to_alts (map alt_of (take (i + 1) items))))
    alternative_more new new_is =
        subst (λ l. SameNames l (alt_names (to_alts (map alt_of (take (i + 1) items))))) (sym new_is)
        (subst (λ fs. SameNames (names ++ (alt_of x).at.name ∷ []) (alt_names fs))
        (sym (ap to_alts (so_far to_alts one_alt alts_push (alts_faults entries vars) of_alt alt_step alt_of items i x within is) ∙ alts_push (map alt_of (take i items)) (alt_of x)))
        (at_alternative (to_alts (map alt_of (take i items))) (alt_of x).at (alt_of x).ty (same_more names (alt_names (to_alts (map alt_of (take i items)))) (alt_of x).at.name same)))
      where
        at_alternative : (choices : WrittenAlts) (at : At) (ty : Option Written) → SameNames (names ++ at.name ∷ []) (at.name ∷ alt_names choices) → SameNames (names ++ at.name ∷ []) (alt_names (and_one choices at ty))
        at_alternative choices at None h = h
        at_alternative choices at (Some t) h = h

-- a fault of a type's own name comes before those of its arguments
pub name_first : (entries : List Entry) (vars : List (List ℕ)) (p : Place) (n : List ℕ) (args : List STy) (first : NamingFault) → IsFirstFault (name_faults entries vars p n (length args)) first
    → IsFirstFault (type_faults entries vars (named p n (to_types (map written_of args)))) first
name_first entries vars p n args first h =
    says_first (name_faults entries vars p n (types_length (to_types (map written_of args)))) (types_faults entries vars (to_types (map written_of args))) first
    (subst (λ k. IsFirstFault (name_faults entries vars p n k) first) (sym (types_counted args)) h)

pub ruleset type_steps = (the_lemmas, types_counted, types_none, fields_none, alts_none)
