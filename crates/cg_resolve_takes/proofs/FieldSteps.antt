-- The names of fields, one more.
use Rattle.std.proofs.Common.{◌≡◌, ℕ, ◌+◌, ◌<◌, Bool, true, false, ◌||◌, List, [], ◌∷◌, ◌++◌, map, length, take, get_or, refl, sym, ap, ◌∙◌, subst}
use Rattle.std.proofs.Math.Bool.{or-false, or_comm}
use Rattle.std.proofs.lemmas.List.{map-append, take_more}
use Rattle.std.specs.Str.{bytes_eq}
use Rattle.std.specs.Cmp.Lexicographic.{nat_list_eq_equiv}
use Rattle.std.specs.BTreeSet.{BTreeSet, IsEmpty}
use Rattle.cg_surface.specs.declared.written.SPart.{SPart}
use Rattle.cg_surface.specs.Written.{field_of, to_fields, fields_push}
use Rattle.cg_resolve_def.specs.Declared.{is_among}
use Rattle.cg_resolve_declared.specs.Tables.{has, IsSetOf}
use Rattle.cg_resolve_declared.proofs.Tables.{set_none}
use Rattle.cg_surface.proofs.Views.{type_field_is}
use Rattle.cg_resolve_takes.specs.Heads.{field_names}
use denote.Ref.{Bor}

-- is a name among these, or the last
pub among_more : (names : List (List ℕ)) (name other : List ℕ) → is_among (names ++ name ∷ []) other ≡ (is_among names other || bytes_eq other name)
among_more [] name other = or-false (bytes_eq other name)
among_more (first ∷ names) name other = pick (bytes_eq other first) (among_more names name other)
  where
    pick : (b : Bool) → is_among (names ++ name ∷ []) other ≡ (is_among names other || bytes_eq other name) → (b || is_among (names ++ name ∷ []) other) ≡ ((b || is_among names other) || bytes_eq other name)
    pick true h = refl
    pick false h = h

-- the set with one name more
set_last : (names : List (List ℕ)) (name : List ℕ) (set new : BTreeSet (Bor (List ℕ))) → IsSetOf names set → ((other : List ℕ) → has new other ≡ (bytes_eq name other || has set other)) → IsSetOf (names ++ name ∷ []) new
set_last names name set new is added = λ other. added other ∙ or_comm (bytes_eq name other) (has set other) ∙ ap (λ b. b || bytes_eq name other) (is other) ∙ ap (λ b. is_among names other || b) (nat_list_eq_equiv.symm name other) ∙ sym (among_more names name other)

-- a turn of the loop over fields
names_more : (parts : List SPart) (i : ℕ) (d : SPart) → i < length parts → field_names (to_fields (map field_of (take (i + 1) parts))) ≡ field_names (to_fields (map field_of (take i parts))) ++ (get_or parts i d).at.name ∷ []
names_more parts i d within =
    ap (λ l. field_names (to_fields (map field_of l))) (take_more parts i d within)
    ∙ ap (λ l. field_names (to_fields l)) (map-append field_of (take i parts) (get_or parts i d ∷ []))
    ∙ ap field_names (fields_push (map field_of (take i parts)) (field_of (get_or parts i d)))
    ∙ ap (λ f. field_names (to_fields (map field_of (take i parts))) ++ f.at.name ∷ []) (type_field_is (get_or parts i d))

pub set_turn : (parts : List SPart) (i : ℕ) (x : SPart) (set new : BTreeSet (Bor (List ℕ))) → i < length parts → x ≡ get_or parts i x → IsSetOf (field_names (to_fields (map field_of (take i parts)))) set
    → ((other : List ℕ) → has new other ≡ (bytes_eq x.at.name other || has set other)) → IsSetOf (field_names (to_fields (map field_of (take (i + 1) parts)))) new
set_turn parts i x set new within is before added =
    subst (λ l. IsSetOf l new) (sym (names_more parts i x within))
    (subst (λ y. IsSetOf (field_names (to_fields (map field_of (take i parts))) ++ y.at.name ∷ []) new) is
    (set_last (field_names (to_fields (map field_of (take i parts)))) x.at.name set new before added))

pub set_start : (set : BTreeSet (Bor (List ℕ))) → IsEmpty set → IsSetOf (field_names (to_fields (map field_of []))) set
unfolding to_fields
set_start set empty = set_none set empty

pub ruleset field_steps = (set_start, set_turn)
