-- Sigils say nothing of values: a value fits an observed type exactly where it fits the type.
use Rattle.std.proofs.Common.{◌≡◌, ℕ, true, false, ◌&&◌, List, refl, ap}
use Rattle.cg_base.specs.Types.{Tau, var, seen, unit, word, bool, arrow, abs, variant, fields, Taus, none, more, Parts, end, part}
use Rattle.cg_kinds.specs.Kinds.{bang, bang_all, bang_parts}
use Rattle.cg_value.specs.Fits.{World, fits, fits_abstract, fits_alternative, fits_fields, is_gone}
use Rattle.cg_value.specs.Values as values
use Rattle.cg_value.specs.Values.{Val, chosen, parts, Vals}

module _ (world : World) where
  abstract_observed : (name : List ℕ) (ts : Taus) (v : Val) → fits_abstract world name (bang_all ts) v ≡ fits_abstract world name ts v
  unfolding bang
  abstract_observed name none v = refl
  abstract_observed name (more (word w) none) v = refl
  abstract_observed name (more (word w) (more t ts)) v = refl
  abstract_observed name (more (var n) ts) v = refl
  abstract_observed name (more (seen n) ts) v = refl
  abstract_observed name (more unit ts) v = refl
  abstract_observed name (more bool ts) v = refl
  abstract_observed name (more (arrow a b) ts) v = refl
  abstract_observed name (more (abs n us s) ts) v = refl
  abstract_observed name (more (variant ps) ts) v = refl
  abstract_observed name (more (fields ps s) ts) v = refl

  mutual
    unfolding fits bang

    pub fits_observed : (t : Tau) (v : Val) → fits world (bang t) v ≡ fits world t v
    fits_observed (var n) v = refl
    fits_observed (seen n) v = refl
    fits_observed unit v = refl
    fits_observed (word w) v = refl
    fits_observed bool v = refl
    fits_observed (arrow a b) v = refl
    fits_observed (abs name ts s) v = abstract_observed name ts v
    fits_observed (variant ps) (chosen x v) = alternative_observed x ps v
    fits_observed (variant ps) _ = refl
    fits_observed (fields ps s) (parts vs) = fields_observed ps vs
    fits_observed (fields ps s) _ = refl

    alternative_observed : (x : List ℕ) (ps : Parts) (v : Val) → fits_alternative world x (bang_parts ps) v ≡ fits_alternative world x ps v
    alternative_observed x end v = refl
    alternative_observed x (part y t taken ps) v = let e = fits_observed t v in let f = alternative_observed x ps v in cc

    fields_observed : (ps : Parts) (vs : Vals) → fits_fields world (bang_parts ps) vs ≡ fits_fields world ps vs
    fields_observed end vs = refl
    fields_observed (part x t true ps) values.none = refl
    fields_observed (part x t false ps) values.none = refl
    fields_observed (part x t true ps) (values.more v vs) = ap (λ b. is_gone v && b) (fields_observed ps vs)
    fields_observed (part x t false ps) (values.more v vs) = let e = fits_observed t v in let f = fields_observed ps vs in cc
