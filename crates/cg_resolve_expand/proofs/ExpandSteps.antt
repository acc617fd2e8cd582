-- Written types that are expanded, an item further.
use Rattle.std.proofs.Common.{◌≡◌, ℕ, ◌+◌, ◌<◌, Bool, true, false, cond, List, [], ◌∷◌, ◌++◌, map, length, take, get_or, Option, Some, None, refl, sym, ap, ◌∙◌, arith}
use Rattle.std.proofs.lemmas.List.{append_assoc, length-take-le}
use Rattle.cg_base.specs.declared.ty.Ty.{the_lemmas as type_lemmas}
use Rattle.cg_base.specs.Types.{Tau, var, Piece}
use Rattle.cg_base.specs.declared.place.Place.{Place}
use Rattle.cg_surface.specs.declared.written.STy.{STy, roll-STy, the_lemmas}
use Rattle.cg_surface.specs.declared.written.STyForm.{STyForm, Name, fold-STyForm, the_lemmas as form_lemmas}
use Rattle.cg_surface.specs.declared.written.SPart.{SPart}
use Rattle.cg_surface.specs.declared.written.SAlt.{SAlt}
use Rattle.cg_surface.specs.Written.{Written, Writtens, WrittenFields, WrittenAlts, OneAlt, OneField, layer, alt_layer, field_layer, type_layer, written_of, field_of, alt_of, and_one, to_types, to_fields, to_alts, alts_behind, types_none, fields_none, alts_none}
use Rattle.cg_surface.specs.Written as types
use Rattle.cg_resolve_def.specs.Declared.{is_variable}
use Rattle.cg_resolve_def.specs.Expand.{Bodies, bytes_le, component, components, expanded, expanded_all, expanded_alts, expanded_fields, in_order, inserted, position_of, types_length}
use Rattle.cg_resolve_def.proofs.TypesCounted.{types_counted}
use Rattle.cg_resolve_expand.specs.Alternatives.{alt_inserted, alt_name, alts_in_order}
use Rattle.cg_resolve_expand.specs.Pieces.{alt_piece, applied_type, named_type, payload_type}
use Rattle.cg_resolve_expand.proofs.TypeLists.{types_at, fields_at}
use Rattle.cg_surface.proofs.Views.{type_alt_is}

module _ (known : Bodies) (vars : List (List ℕ)) where
  -- a name
  pub named-variable : (n : List ℕ) (args : List Tau) → is_variable n ≡ true → named_type known vars n args ≡ var (position_of vars n)
  unfolding named_type
  named-variable n args is = ap (λ b. cond b (var (position_of vars n)) (applied_type known n args)) is

  pub named-applied : (n : List ℕ) (args : List Tau) → is_variable n ≡ false → named_type known vars n args ≡ applied_type known n args
  unfolding named_type
  named-applied n args is = ap (λ b. cond b (var (position_of vars n)) (applied_type known n args)) is

  -- what stands behind a list
  all_behind : (ts : Writtens) (behind : List Tau) → expanded_all known vars ts behind ≡ expanded_all known vars ts [] ++ behind
  all_behind types.no_types behind = refl
  all_behind (types.and_type ts t) behind =
      all_behind ts (expanded known vars t ∷ behind) ∙ sym (ap (λ l. l ++ behind) (all_behind ts (expanded known vars t ∷ [])) ∙ append_assoc (expanded_all known vars ts []) (expanded known vars t ∷ []) behind)

  components_behind : (ts : Writtens) (behind : List Piece) → components known vars ts behind ≡ components known vars ts [] ++ behind
  components_behind types.no_types behind = refl
  components_behind (types.and_type ts t) behind =
      let p : Piece = record { name = component (types_length ts); ty = expanded known vars t; taken = false } in
      components_behind ts (p ∷ behind) ∙ sym (ap (λ l. l ++ behind) (components_behind ts (p ∷ [])) ∙ append_assoc (components known vars ts []) (p ∷ []) behind)

  fields_behind : (fs : WrittenFields) (behind : List Piece) → expanded_fields known vars fs behind ≡ expanded_fields known vars fs [] ++ behind
  fields_behind types.no_fields behind = refl
  fields_behind (types.and_field fs at t) behind =
      let p : Piece = record { name = at.name; ty = expanded known vars t; taken = false } in
      fields_behind fs (p ∷ behind) ∙ sym (ap (λ l. l ++ behind) (fields_behind fs (p ∷ [])) ∙ append_assoc (expanded_fields known vars fs []) (p ∷ []) behind)

  -- each says first that the item is itself, so that `grind` finds it where the item is read
  pub expanded_at : (ts : List STy) (i : ℕ) (d : STy) → i < length ts → (get_or ts i d ≡ get_or ts i d)
      × (expanded_all known vars (to_types (map written_of (take (i + 1) ts))) [] ≡ expanded_all known vars (to_types (map written_of (take i ts))) [] ++ expanded known vars (written_of (get_or ts i d)) ∷ [])
  expanded_at ts i d lt = (
    refl,
    ap (λ l. expanded_all known vars l []) (types_at ts i d lt).1 ∙ all_behind (to_types (map written_of (take i ts))) (expanded known vars (written_of (get_or ts i d)) ∷ []),
  )

  pub component_at : (ts : List STy) (i : ℕ) (d : STy) → i < length ts → (get_or ts i d ≡ get_or ts i d)
      × (components known vars (to_types (map written_of (take (i + 1) ts))) []
      ≡ components known vars (to_types (map written_of (take i ts))) [] ++ record { name = component i; ty = expanded known vars (written_of (get_or ts i d)); taken = false } ∷ [])
  component_at ts i d lt = (
    refl,
    ap (λ l. components known vars l []) (types_at ts i d lt).1
        ∙ ap (λ k. components known vars (to_types (map written_of (take i ts))) (record { name = component k; ty = expanded known vars (written_of (get_or ts i d)); taken = false } ∷ []))
        (types_counted (take i ts) ∙ length-take-le i ts (omega arith))
        ∙ components_behind (to_types (map written_of (take i ts))) (record { name = component i; ty = expanded known vars (written_of (get_or ts i d)); taken = false } ∷ []),
  )

  pub field_at : (fs : List SPart) (i : ℕ) (d : SPart) → i < length fs → (get_or fs i d ≡ get_or fs i d)
      × (expanded_fields known vars (to_fields (map field_of (take (i + 1) fs))) []
      ≡ expanded_fields known vars (to_fields (map field_of (take i fs))) [] ++ record { name = (get_or fs i d).at.name; ty = expanded known vars (written_of (get_or fs i d).ty); taken = false } ∷ [])
  field_at fs i d lt = (
    refl,
    ap (λ l. expanded_fields known vars l []) (fields_at fs i d lt).1
        ∙ fields_behind (to_fields (map field_of (take i fs))) (record { name = (get_or fs i d).at.name; ty = expanded known vars (written_of (get_or fs i d).ty); taken = false } ∷ []),
  )

  -- alternatives, one by one
  one_alt : (before : WrittenAlts) (a : OneAlt) (behind : List Piece)
      → expanded_alts known vars (and_one before a.at a.ty) behind ≡ expanded_alts known vars before (record { name = a.at.name; ty = payload_type known vars a.ty; taken = false } ∷ behind)
  one_alt before a behind = go a.ty
    where
      go : (t : Option Written) → expanded_alts known vars (and_one before a.at t) behind ≡ expanded_alts known vars before (record { name = a.at.name; ty = payload_type known vars t; taken = false } ∷ behind)
      go None = refl
      go (Some t) = refl

  alts_list : (before : WrittenAlts) (choices : List SAlt) → expanded_alts known vars (alts_behind before (map alt_of choices)) [] ≡ expanded_alts known vars before (map (alt_piece known vars) choices)
  alts_list before [] = refl
  alts_list before (a ∷ choices) =
      alts_list (and_one before (alt_of a).at (alt_of a).ty) choices
      ∙ one_alt before (alt_of a) (map (alt_piece known vars) choices)
      ∙ ap (λ (o : OneAlt). expanded_alts known vars before (record { name = o.at.name; ty = payload_type known vars o.ty; taken = false } ∷ map (alt_piece known vars) choices)) (type_alt_is a)

  alts_mapped : (choices : List SAlt) → expanded_alts known vars (to_alts (map alt_of choices)) [] ≡ map (alt_piece known vars) choices
  unfolding to_alts
  alts_mapped choices = alts_list types.no_alts choices

  mapped_inserted : (a : SAlt) (choices : List SAlt) → map (alt_piece known vars) (alt_inserted a choices) ≡ inserted (alt_piece known vars a) (map (alt_piece known vars) choices)
  mapped_inserted a [] = refl
  mapped_inserted a (b ∷ choices) = pick (bytes_le (alt_name a) (alt_name b)) (mapped_inserted a choices)
    where
      pick : (test : Bool) → map (alt_piece known vars) (alt_inserted a choices) ≡ inserted (alt_piece known vars a) (map (alt_piece known vars) choices)
          → map (alt_piece known vars) (cond test (a ∷ b ∷ choices) (b ∷ alt_inserted a choices))
          ≡ cond test (alt_piece known vars a ∷ alt_piece known vars b ∷ map (alt_piece known vars) choices) (alt_piece known vars b ∷ inserted (alt_piece known vars a) (map (alt_piece known vars) choices))
      pick true h = refl
      pick false h = ap (λ l. alt_piece known vars b ∷ l) h

  mapped_in_order : (choices : List SAlt) → map (alt_piece known vars) (alts_in_order choices) ≡ in_order (map (alt_piece known vars) choices)
  mapped_in_order [] = refl
  mapped_in_order (a ∷ choices) = mapped_inserted a (alts_in_order choices) ∙ ap (inserted (alt_piece known vars a)) (mapped_in_order choices)

  pub alts_ordered : (choices : List SAlt) → map (alt_piece known vars) (alts_in_order choices) ≡ in_order (expanded_alts known vars (to_alts (map alt_of choices)) [])
  alts_ordered choices = mapped_in_order choices ∙ ap in_order (sym (alts_mapped choices))

-- a type that is written by its name
form_of : STyForm → Place → Written
form_of = fold-STyForm (Place → Written) OneAlt OneField Written layer alt_layer field_layer type_layer

name_is : (n : List ℕ) (args : List STy) → form_of (Name n args) ≡ (λ p. types.named p n (to_types (map written_of args)))
unfolding form_of
name_is n args = search form_lemmas

form_is : (p : Place) (form : STyForm) → written_of (roll-STy (record { place = p; form = form })) ≡ form_of form p
unfolding form_of
form_is p form = search form_lemmas

written_as : (p : Place) (form : STyForm) (n : List ℕ) (args : List STy) → form ≡ Name n args → written_of (roll-STy (record { place = p; form = form })) ≡ types.named p n (to_types (map written_of args))
written_as p form n args is = form_is p form ∙ ap (λ f. form_of f p) is ∙ ap (λ f. f p) (name_is n args)

pub expanded_name : (known : Bodies) (vars : List (List ℕ)) (t : STy) (n : List ℕ) (args : List STy) → t.form ≡ Name n args
    → expanded known vars (written_of t) ≡ named_type known vars n (expanded_all known vars (to_types (map written_of args)) [])
unfolding named_type applied_type
expanded_name known vars t n args is = ap (expanded known vars) (written_as t.place t.form n args is)

pub ruleset expand_steps = (named-variable, named-applied, expanded_at, component_at, field_at, alts_ordered, types_none, fields_none, alts_none, type_lemmas, the_lemmas)
