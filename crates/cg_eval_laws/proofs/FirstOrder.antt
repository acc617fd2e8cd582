-- Types without type variables and arrows: nothing is put into them, and what fits them is one in all worlds that agree on abstract types.
use Rattle.std.proofs.Common.{◌≡◌, ℕ, Bool, true, false, ◌&&◌, IsTrue, List, refl, ap}
use Rattle.std.proofs.lemmas.Bool.{and_parts}
use Rattle.cg_base.specs.Types.{Tau, unit, word, bool, abs, variant, fields, none, more, Parts, end, part}
use Rattle.cg_kinds.specs.Kinds.{subst, subst_parts}
use Rattle.cg_value.specs.Fits.{World, fits, fits_abstract, fits_alternative, fits_fields, is_gone}
use Rattle.cg_value.specs.Foreign.{is_plain_type, are_plain_parts}
use Rattle.cg_value.specs.Values as values
use Rattle.cg_value.specs.Values.{Val, chosen, parts, Vals}
use Rattle.cg_base.proofs.Counts.{no_steps as never}

module _ (owns : List ℕ → Bool) where
  mutual
    unfolding subst is_plain_type

    pub plain_stays : (given : List Tau) (t : Tau) → IsTrue (is_plain_type owns t) → subst given t ≡ t
    plain_stays given unit h = refl
    plain_stays given (word w) h = refl
    plain_stays given bool h = refl
    plain_stays given (abs name none s) h = refl
    plain_stays given (abs name (more (word w) none) s) h = refl
    plain_stays given (variant ps) h = ap variant (parts_stay given ps h)
    plain_stays given (fields ps s) h = ap (λ qs. fields qs s) (parts_stay given ps h)
    plain_stays given _ h = never h

    parts_stay : (given : List Tau) (ps : Parts) → IsTrue (are_plain_parts owns ps) → subst_parts given ps ≡ ps
    parts_stay given end h = refl
    parts_stay given (part x t taken ps) h =
        let p = and_parts (is_plain_type owns t) _ h in let q = plain_stays given t p.0 in let r = parts_stay given ps p.1 in cc

  module _ (one other : World) (alike : one.holds ≡ other.holds) where
    mutual
      unfolding fits is_plain_type

      pub plain_fits : (t : Tau) (v : Val) → IsTrue (is_plain_type owns t) → fits one t v ≡ fits other t v
      plain_fits unit v h = refl
      plain_fits (word w) v h = refl
      plain_fits bool v h = refl
      plain_fits (abs name none s) v h = ap (λ (holds : List ℕ → Val → Bool). fits_abstract (record { is_of = one.is_of; holds = holds }) name none v) alike
      plain_fits (abs name (more (word w) none) s) v h = refl
      plain_fits (variant ps) (chosen x v) h = plain_alternative x ps v h
      plain_fits (variant ps) _ h = refl
      plain_fits (fields ps s) (parts vs) h = plain_fields ps vs h
      plain_fits (fields ps s) _ h = refl
      plain_fits _ v h = never h

      plain_alternative : (x : List ℕ) (ps : Parts) (v : Val) → IsTrue (are_plain_parts owns ps) → fits_alternative one x ps v ≡ fits_alternative other x ps v
      plain_alternative x end v h = refl
      plain_alternative x (part y t taken ps) v h =
          let p = and_parts (is_plain_type owns t) _ h in let e = plain_fits t v p.0 in let f = plain_alternative x ps v p.1 in cc

      plain_fields : (ps : Parts) (vs : Vals) → IsTrue (are_plain_parts owns ps) → fits_fields one ps vs ≡ fits_fields other ps vs
      plain_fields end vs h = refl
      plain_fields (part x t true ps) values.none h = refl
      plain_fields (part x t false ps) values.none h = refl
      plain_fields (part x t true ps) (values.more v vs) h = let p = and_parts (is_plain_type owns t) _ h in ap (λ b. is_gone v && b) (plain_fields ps vs p.1)
      plain_fields (part x t false ps) (values.more v vs) h =
          let p = and_parts (is_plain_type owns t) _ h in let e = plain_fits t v p.0 in let f = plain_fields ps vs p.1 in cc
