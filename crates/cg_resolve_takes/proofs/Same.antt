-- What the head of a written type depends on: the heads of the names that it mentions, and, where it is no parameter, no type variable.
use Rattle.std.proofs.Common.{◌≡◌, ℕ, Bool, true, false, cond, List, [], ◌∷◌, ◌++◌, map, Option, Some, None, refl, sym, ap, ◌∙◌, arith}
use Rattle.std.proofs.lemmas.List.{map-append}
use Rattle.std.proofs.lemmas.List.Elements.{Contains-append_left, Contains-append_right}
use Rattle.std.proofs.lemmas.Option.{slice_get-map}
use Rattle.std.specs.List.{slice_get, Contains}
use Rattle.std.specs.Option.{option_map}
use Rattle.cg_base.specs.Types.{Tau}
use Rattle.cg_surface.specs.Written.{Written, Writtens}
use Rattle.cg_surface.specs.Written as types
use Rattle.cg_resolve_def.specs.Declared.{is_variable, looked_up, plain_types}
use Rattle.cg_resolve_def.specs.Expand.{position_of}
use Rattle.cg_resolve_def.specs.Mentions.{type_mentions, types_mentions}
use Rattle.cg_resolve_takes.specs.Heads.{Head, Heads, record_of, parameter, other, or_other, or_none, applied_head, named_head, fields_in, head_of, heads_of, shape_of}

-- ---- the heads of the names that it mentions

module _ (heads others : Heads) where
  -- both have the same heads of these names
  pub record Agree (names : List (List ℕ)) : Type 0 where
    pub at : (n : List ℕ) → Contains names n → heads n ≡ others n

  agree_left : (ns ms : List (List ℕ)) → Agree (ns ++ ms) → Agree ns
  agree_left ns ms same = record { at = λ n has. same.at n (Contains-append_left ns ms n has) }

  agree_right : (ns ms : List (List ℕ)) → Agree (ns ++ ms) → Agree ms
  agree_right ns ms same = record { at = λ n has. same.at n (Contains-append_right ns ms n has) }

  module _ (vars : List (List ℕ)) where
    mutual
      pub head_same : (t : Written) → Agree (type_mentions t) → head_of heads vars t ≡ head_of others vars t
      head_same (types.named p n args) same =
          ap (λ h. cond (is_variable n) (parameter (position_of vars n)) (named_head (looked_up plain_types n) h (heads_of heads vars args))) (same.at n (0, omega arith, refl))
          ∙ ap (λ l. cond (is_variable n) (parameter (position_of vars n)) (named_head (looked_up plain_types n) (others n) l)) (heads_same args (agree_right (n ∷ []) (types_mentions args) same))
      head_same (types.nothing p) same = refl
      head_same (types.tuple p ts) same = refl
      head_same (types.paren p t) same = head_same t same
      head_same (types.arrow p a b) same = refl
      head_same (types.fields p boxed fs) same = refl
      head_same (types.variant p choices) same = refl
      head_same (types.bang p t) same = head_same t same
      head_same (types.take_some p t ns) same = head_same t same
      head_same (types.take_all p t q) same = head_same t same

      heads_same : (ts : Writtens) → Agree (types_mentions ts) → heads_of heads vars ts ≡ heads_of others vars ts
      heads_same types.no_types same = refl
      heads_same (types.and_type ts t) same =
          ap (λ l. l ++ head_of heads vars t ∷ []) (heads_same ts (agree_left (types_mentions ts) (type_mentions t) same))
          ∙ ap (λ h. heads_of others vars ts ++ h ∷ []) (head_same t (agree_right (types_mentions ts) (type_mentions t) same))

-- ---- no type variable

-- the fields of an argument
argument_fields : (args : List Head) (i : ℕ) → fields_in (or_other (slice_get args i)) ≡ or_none (slice_get (map fields_in args) i)
argument_fields args i = pick (slice_get args i) ∙ ap or_none (sym (slice_get-map fields_in args i))
  where
    pick : (h : Option Head) → fields_in (or_other h) ≡ or_none (option_map fields_in h)
    pick None = refl
    pick (Some h) = refl

applied_fields : (h : Head) (args others : List Head) → map fields_in args ≡ map fields_in others → fields_in (applied_head h args) ≡ fields_in (applied_head h others)
applied_fields (record_of test) args others same = refl
applied_fields (parameter i) args others same = argument_fields args i ∙ ap (λ l. or_none (slice_get l i)) same ∙ sym (argument_fields others i)
applied_fields other args others same = refl

named_fields : (b : Bool) (i j : ℕ) (plain : Option Tau) (known : Option Head) (args others : List Head) → map fields_in args ≡ map fields_in others
    → fields_in (cond b (parameter i) (named_head plain known args)) ≡ fields_in (cond b (parameter j) (named_head plain known others))
named_fields true i j plain known args others same = refl
named_fields false i j (Some t) known args others same = refl
named_fields false i j None (Some h) args others same = applied_fields h args others same
named_fields false i j None None args others same = refl

module _ (heads : Heads) (vars : List (List ℕ)) where
  mutual
    pub shape_is : (t : Written) → fields_in (head_of heads vars t) ≡ shape_of heads t
    shape_is (types.named p n args) = named_fields (is_variable n) _ _ (looked_up plain_types n) (heads n) _ _ (shapes_are args)
    shape_is (types.nothing p) = refl
    shape_is (types.tuple p ts) = refl
    shape_is (types.paren p t) = shape_is t
    shape_is (types.arrow p a b) = refl
    shape_is (types.fields p boxed fs) = refl
    shape_is (types.variant p choices) = refl
    shape_is (types.bang p t) = shape_is t
    shape_is (types.take_some p t ns) = shape_is t
    shape_is (types.take_all p t q) = shape_is t

    shapes_are : (ts : Writtens) → map fields_in (heads_of heads vars ts) ≡ map fields_in (heads_of heads [] ts)
    shapes_are types.no_types = refl
    shapes_are (types.and_type ts t) =
        map-append fields_in (heads_of heads vars ts) (head_of heads vars t ∷ [])
        ∙ ap (λ l. l ++ fields_in (head_of heads vars t) ∷ []) (shapes_are ts)
        ∙ ap (λ s. map fields_in (heads_of heads [] ts) ++ s ∷ []) (shape_is t)
        ∙ sym (map-append fields_in (heads_of heads [] ts) (head_of heads [] t ∷ []))
