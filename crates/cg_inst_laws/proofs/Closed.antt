-- Types without type variables: what arguments without type variables make of any type, and what they leave as it is.
use Rattle.std.proofs.Common.{◌≡◌, ℕ, zero, suc, max, IsTrue, List, [], ◌∷◌, map, refl, ap, ◌∙◌, arith, eqb-true, eq-eqb}
use Rattle.std.proofs.lemmas.Bool.{and_parts, and_from}
use Rattle.std.specs.List.{list_all}
use Rattle.std.specs.Prelude.{slice_get}
use Rattle.cg_base.specs.Types.{Tau, var, seen, unit, word, bool, arrow, abs, variant, fields, Taus, none, more, Parts, end, part}
use Rattle.cg_typing.specs.Instances.{is_closed}
use Rattle.cg_kinds.specs.Kinds.{bang, bang_all, bang_parts, or_unit, subst, subst_all, subst_parts, width, width_all, width_parts}
use Rattle.cg_core_def.specs.Lawful.{IsLawfulType, AreLawfulTypes, AreLawfulParts}

zero_max : (a b : ℕ) → a ≡ 0 → b ≡ 0 → max a b ≡ 0
zero_max a b p q = ap (λ a. max a b) p ∙ ap (λ b. max 0 b) q

-- a sigil has no type variables
mutual
  unfolding width bang

  width_observed : (t : Tau) → width (bang t) ≡ width t
  width_observed (var n) = refl
  width_observed (seen n) = refl
  width_observed unit = refl
  width_observed (word w) = refl
  width_observed bool = refl
  width_observed (arrow a b) = refl
  width_observed (abs name ts s) = all_observed ts
  width_observed (variant ps) = parts_observed ps
  width_observed (fields ps s) = parts_observed ps

  all_observed : (ts : Taus) → width_all (bang_all ts) ≡ width_all ts
  all_observed none = refl
  all_observed (more t ts) = let p = width_observed t in let q = all_observed ts in cc

  parts_observed : (ps : Parts) → width_parts (bang_parts ps) ≡ width_parts ps
  parts_observed end = refl
  parts_observed (part x t taken ps) = let p = width_observed t in let q = parts_observed ps in cc

module _ (given : List Tau) (closed : IsTrue (list_all is_closed given)) where
  argument_closed : (n : ℕ) → width (or_unit (slice_get given n)) ≡ 0
  unfolding width
  argument_closed n = go given n closed
    where
      go : (ts : List Tau) (n : ℕ) → IsTrue (list_all is_closed ts) → width (or_unit (slice_get ts n)) ≡ 0
      go [] n h = refl
      go (t ∷ ts) zero h = eqb-true (width t) 0 (and_parts (is_closed t) _ h).0
      go (t ∷ ts) (suc n) h = go ts n (and_parts (is_closed t) _ h).1

  mutual
    unfolding width subst

    width_subst : (t : Tau) → width (subst given t) ≡ 0
    width_subst (var n) = argument_closed n
    width_subst (seen n) = width_observed (or_unit (slice_get given n)) ∙ argument_closed n
    width_subst unit = refl
    width_subst (word w) = refl
    width_subst bool = refl
    width_subst (arrow a b) = zero_max _ _ (width_subst a) (width_subst b)
    width_subst (abs name ts s) = all_subst ts
    width_subst (variant ps) = parts_subst ps
    width_subst (fields ps s) = parts_subst ps

    all_subst : (ts : Taus) → width_all (subst_all given ts) ≡ 0
    all_subst none = refl
    all_subst (more t ts) = zero_max _ _ (width_subst t) (all_subst ts)

    parts_subst : (ps : Parts) → width_parts (subst_parts given ps) ≡ 0
    parts_subst end = refl
    parts_subst (part x t taken ps) = zero_max _ _ (width_subst t) (parts_subst ps)

  -- any type is closed with closed arguments for its variables
  pub closed_subst : (t : Tau) → IsTrue (is_closed (subst given t))
  closed_subst t = eq-eqb _ _ (width_subst t)

  pub closed_all : (ts : List Tau) → IsTrue (list_all is_closed (map (subst given) ts))
  closed_all [] = refl
  closed_all (t ∷ ts) = and_from (is_closed (subst given t)) _ (closed_subst t) (closed_all ts)

-- a type over no type variables stays what it is
mutual
  unfolding subst

  pub lawful_stays : (given : List Tau) (t : Tau) → IsLawfulType 0 t → subst given t ≡ t
  lawful_stays given (var n) h = absurd (omega arith)
  lawful_stays given (seen n) h = absurd (omega arith)
  lawful_stays given unit h = refl
  lawful_stays given (word w) h = refl
  lawful_stays given bool h = refl
  lawful_stays given (arrow a b) h = let p = lawful_stays given a h.0 in let q = lawful_stays given b h.1 in cc
  lawful_stays given (abs name ts s) h = ap (λ us. abs name us s) (lawful_all given ts h.1)
  lawful_stays given (variant ps) h = ap variant (lawful_parts given ps h.3)
  lawful_stays given (fields ps s) h = ap (λ qs. fields qs s) (lawful_parts given ps h.2)

  lawful_all : (given : List Tau) (ts : Taus) → AreLawfulTypes 0 ts → subst_all given ts ≡ ts
  lawful_all given none h = refl
  lawful_all given (more t ts) h = let p = lawful_stays given t h.0 in let q = lawful_all given ts h.1 in cc

  lawful_parts : (given : List Tau) (ps : Parts) → AreLawfulParts 0 ps → subst_parts given ps ≡ ps
  lawful_parts given end h = refl
  lawful_parts given (part x t taken ps) h = let p = lawful_stays given t h.0 in let q = lawful_parts given ps h.1 in cc

-- and so does one without type variables
pub left_zero : (a b : ℕ) → max a b ≡ 0 → a ≡ 0
left_zero a b h = omega arith

pub right_zero : (a b : ℕ) → max a b ≡ 0 → b ≡ 0
right_zero a b h = omega arith

mutual
  unfolding subst width

  narrow_stays : (given : List Tau) (t : Tau) → width t ≡ 0 → subst given t ≡ t
  narrow_stays given (var n) h = absurd (omega arith)
  narrow_stays given (seen n) h = absurd (omega arith)
  narrow_stays given unit h = refl
  narrow_stays given (word w) h = refl
  narrow_stays given bool h = refl
  narrow_stays given (arrow a b) h = let p = narrow_stays given a (left_zero _ _ h) in let q = narrow_stays given b (right_zero _ _ h) in cc
  narrow_stays given (abs name ts s) h = ap (λ us. abs name us s) (narrow_all given ts h)
  narrow_stays given (variant ps) h = ap variant (narrow_parts given ps h)
  narrow_stays given (fields ps s) h = ap (λ qs. fields qs s) (narrow_parts given ps h)

  narrow_all : (given : List Tau) (ts : Taus) → width_all ts ≡ 0 → subst_all given ts ≡ ts
  narrow_all given none h = refl
  narrow_all given (more t ts) h = let p = narrow_stays given t (left_zero _ _ h) in let q = narrow_all given ts (right_zero _ _ h) in cc

  narrow_parts : (given : List Tau) (ps : Parts) → width_parts ps ≡ 0 → subst_parts given ps ≡ ps
  narrow_parts given end h = refl
  narrow_parts given (part x t taken ps) h = let p = narrow_stays given t (left_zero _ _ h) in let q = narrow_parts given ps (right_zero _ _ h) in cc

pub closed_stays : (given : List Tau) (t : Tau) → IsTrue (is_closed t) → subst given t ≡ t
closed_stays given t h = narrow_stays given t (eqb-true (width t) 0 h)

-- so what closed arguments make of types other arguments leave as it is
pub given_stay : (given : List Tau) → IsTrue (list_all is_closed given) → (other : List Tau) (ts : List Tau) → map (subst other) (map (subst given) ts) ≡ map (subst given) ts
given_stay given closed other [] = refl
given_stay given closed other (t ∷ ts) = let p = closed_stays other (subst given t) (closed_subst given closed t) in let q = given_stay given closed other ts in cc
