-- The head of a written type is the top of what it is in the kernel.
use Rattle.std.proofs.Common.{◌≡◌, ℕ, Bool, true, false, cond, List, [], ◌∷◌, ◌++◌, map, Option, Some, None, refl, sym, ap, ◌∙◌, append_assoc, append-nil, add-one}
use Rattle.std.proofs.lemmas.Option.{slice_get-map}
use Rattle.std.specs.List.{slice_get}
use Rattle.std.specs.Option.{option_map}
use Rattle.std.specs.Prelude.{codes}
use Rattle.std.specs.Str.{bytes_eq}
use Rattle.cg_base.specs.Types.{Tau, var, seen, unit, word, bool, arrow, abs, variant, fields, Parts, Piece, to_parts}
use Rattle.cg_kinds.specs.Kinds.{bang, bang_parts, subst, subst_parts, or_unit}
use Rattle.cg_core_def.specs.Lawful.{part_names}
use Rattle.cg_surface.specs.Written.{Written, Writtens, WrittenFields}
use Rattle.cg_surface.specs.Written as types
use Rattle.cg_resolve_def.specs.Declared.{is_among, is_variable, looked_up, plain_types}
use Rattle.cg_resolve_def.specs.Expand.{Bodies, all_taken, applied_as, component, components, expanded, expanded_all, expanded_fields, position_of, take_of, taken_parts, types_length}
use Rattle.cg_resolve_def.proofs.PartNames.{all_names, bang_names, piece_names, subst_names, taken_names}
use Rattle.cg_resolve_takes.specs.Heads.{Head, record_of, parameter, other, top, or_other, applied_head, named_head, component_names, field_names, head_of, heads_of, head_of_body, tops}

-- ---- tops

-- a record, with other parts of the same names
same_record : (ps qs : Parts) → part_names ps ≡ part_names qs → record_of (is_among (part_names ps)) ≡ record_of (is_among (part_names qs))
same_record ps qs same = ap (λ l. record_of (is_among l)) same

pub top_bang : (t : Tau) → top (bang t) ≡ top t
unfolding bang
top_bang (var n) = refl
top_bang (seen n) = refl
top_bang unit = refl
top_bang (word w) = refl
top_bang bool = refl
top_bang (arrow a b) = refl
top_bang (abs n ts sigil) = refl
top_bang (variant ps) = refl
top_bang (fields ps sigil) = same_record (bang_parts ps) ps (bang_names ps)

top_argument : (t : Option Tau) → top (or_unit t) ≡ or_other (option_map top t)
top_argument None = refl
top_argument (Some t) = refl

pub top_subst : (args : List Tau) (t : Tau) → top (subst args t) ≡ applied_head (top t) (map top args)
unfolding subst
top_subst args (var n) = top_argument (slice_get args n) ∙ ap or_other (sym (slice_get-map top args n))
top_subst args (seen n) = top_bang (or_unit (slice_get args n)) ∙ top_argument (slice_get args n) ∙ ap or_other (sym (slice_get-map top args n))
top_subst args unit = refl
top_subst args (word w) = refl
top_subst args bool = refl
top_subst args (arrow a b) = refl
top_subst args (abs n ts sigil) = refl
top_subst args (variant ps) = refl
top_subst args (fields ps sigil) = same_record (subst_parts args ps) ps (subst_names args ps)

top_take : (taken : Parts → Parts) → ((ps : Parts) → part_names (taken ps) ≡ part_names ps) → (t : Tau) → top (take_of taken t) ≡ top t
top_take taken same (var n) = refl
top_take taken same (seen n) = refl
top_take taken same unit = refl
top_take taken same (word w) = refl
top_take taken same bool = refl
top_take taken same (arrow a b) = refl
top_take taken same (abs n ts sigil) = refl
top_take taken same (variant ps) = refl
top_take taken same (fields ps sigil) = same_record (taken ps) ps (same ps)

-- ---- a type by its name

-- what is declared beforehand is no record and no parameter
abbrev IsPlain : Option Tau → Type 0
IsPlain None = Unit {0}
IsPlain (Some t) = top t ≡ other

plain_line : (b : Bool) (t : Tau) (behind : Option Tau) → top t ≡ other → IsPlain behind → IsPlain (cond b (Some t) behind)
plain_line true t behind is rest = is
plain_line false t behind is rest = rest

plain_is : (n : List ℕ) → IsPlain (looked_up plain_types n)
plain_is n =
    plain_line (bytes_eq n (codes "U8")) _ _ refl
    (plain_line (bytes_eq n (codes "U16")) _ _ refl
    (plain_line (bytes_eq n (codes "U32")) _ _ refl
    (plain_line (bytes_eq n (codes "U64")) _ _ refl
    (plain_line (bytes_eq n (codes "Bool")) _ _ refl
    (plain_line (bytes_eq n (codes "SysState")) _ _ refl tt)))))

top_applied : (n : List ℕ) (args : List Tau) (plain : Option Tau) (body : Option Tau) → IsPlain plain → top (applied_as n args plain body) ≡ named_head plain (head_of_body body) (map top args)
top_applied n args None None is = refl
top_applied n args None (Some body) is = top_subst args body
top_applied n args (Some t) body is = is

-- ---- written types

module _ (known : Bodies) (vars : List (List ℕ)) where
  component_parts : (ts : Writtens) (behind : List Piece) → map (λ p. p.name) (components known vars ts behind) ≡ component_names (types_length ts) ++ map (λ p. p.name) behind
  unfolding component_names
  component_parts types.no_types behind = refl
  component_parts (types.and_type ts t) behind =
      component_parts ts (record { name = component (types_length ts); ty = expanded known vars t; taken = false } ∷ behind)
      ∙ sym (append_assoc (component_names (types_length ts)) (component (types_length ts) ∷ []) (map (λ p. p.name) behind))
      ∙ ap (λ k. component_names k ++ map (λ p. p.name) behind) (sym (add-one (types_length ts)))

  field_parts : (fs : WrittenFields) (behind : List Piece) → map (λ p. p.name) (expanded_fields known vars fs behind) ≡ field_names fs ++ map (λ p. p.name) behind
  field_parts types.no_fields behind = refl
  field_parts (types.and_field fs at t) behind =
      field_parts fs (record { name = at.name; ty = expanded known vars t; taken = false } ∷ behind)
      ∙ sym (append_assoc (field_names fs) (at.name ∷ []) (map (λ p. p.name) behind))

  -- a record of these parts
  record_top : (ps : List Piece) (names : List (List ℕ)) → map (λ p. p.name) ps ≡ names ++ [] → record_of (is_among names) ≡ record_of (is_among (part_names (to_parts ps)))
  record_top ps names same = ap (λ l. record_of (is_among l)) (sym (append-nil names) ∙ sym same ∙ sym (piece_names ps))

  -- a type variable, or a type by its name
  by_name : (b : Bool) (p : ℕ) (head : Head) (t : Tau) → head ≡ top t → cond b (parameter p) head ≡ top (cond b (var p) t)
  by_name true p head t same = refl
  by_name false p head t same = same

  mutual
    pub head_is : (t : Written) → head_of (tops known) vars t ≡ top (expanded known vars t)
    head_is (types.named p n args) =
        by_name (is_variable n) (position_of vars n) _ _
        (ap (named_head (looked_up plain_types n) (tops known n)) (sym (append-nil (heads_of (tops known) vars args)) ∙ sym (heads_are args []))
        ∙ sym (top_applied n (expanded_all known vars args []) (looked_up plain_types n) (known n) (plain_is n)))
    head_is (types.nothing p) = refl
    head_is (types.tuple p ts) = record_top (components known vars ts []) (component_names (types_length ts)) (component_parts ts [])
    head_is (types.paren p t) = head_is t
    head_is (types.arrow p a b) = refl
    head_is (types.fields p boxed fs) = record_top (expanded_fields known vars fs []) (field_names fs) (field_parts fs [])
    head_is (types.variant p choices) = refl
    head_is (types.bang p t) = head_is t ∙ sym (top_bang (expanded known vars t))
    head_is (types.take_some p t ns) = head_is t ∙ sym (top_take (taken_parts (map (λ n. n.name) ns)) (taken_names (map (λ n. n.name) ns)) (expanded known vars t))
    head_is (types.take_all p t q) = head_is t ∙ sym (top_take all_taken all_names (expanded known vars t))

    heads_are : (ts : Writtens) (behind : List Tau) → map top (expanded_all known vars ts behind) ≡ heads_of (tops known) vars ts ++ map top behind
    heads_are types.no_types behind = refl
    heads_are (types.and_type ts t) behind =
        heads_are ts (expanded known vars t ∷ behind)
        ∙ ap (λ h. heads_of (tops known) vars ts ++ h ∷ map top behind) (sym (head_is t))
        ∙ sym (append_assoc (heads_of (tops known) vars ts) (head_of (tops known) vars t ∷ []) (map top behind))
