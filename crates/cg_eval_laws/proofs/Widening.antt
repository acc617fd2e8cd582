-- What fits a type in a world fits it in one with the same abstract values and with more values of functions.
use Rattle.std.proofs.Common.{◌≡◌, ℕ, Bool, true, false, ◌&&◌, if◌then◌else◌, IsTrue, List, subst}
use Rattle.std.proofs.lemmas.Bool.{and_parts}
use Rattle.std.specs.Str.{bytes_eq}
use Rattle.cg_base.specs.declared.fun.Fun.{Fun}
use Rattle.cg_base.specs.Types.{Tau, unit, word, bool, arrow, abs, variant, fields, Parts, end, part}
use Rattle.cg_value.specs.Fits.{World, fits, fits_abstract, fits_alternative, fits_fields, is_gone}
use Rattle.cg_value.specs.Values as values
use Rattle.cg_value.specs.Values.{Val, number, nothing, function, chosen, parts, Vals}
use Rattle.cg_base.proofs.Counts.{no_steps as never}

both : (a b : Bool) → IsTrue a → IsTrue b → IsTrue (a && b)
both true b h k = k
both false b h k = never h

-- what holds on both ways out of a test
either : (b p q r s : Bool) → (IsTrue p → IsTrue q) → (IsTrue r → IsTrue s) → IsTrue (if b then p else r) → IsTrue (if b then q else s)
either true p q r s h k e = h e
either false p q r s h k e = k e

module _ (one other : World) (alike : one.holds ≡ other.holds) (more : (f : Fun) (types : List Tau) (t : Tau) → IsTrue (one.is_of f types t) → IsTrue (other.is_of f types t)) where
  mutual
    unfolding fits

    pub fits_wider : (t : Tau) (v : Val) → IsTrue (fits one t v) → IsTrue (fits other t v)
    fits_wider unit nothing h = h
    fits_wider (word w) (number n) h = h
    fits_wider bool (number n) h = h
    fits_wider (arrow a b) (function f types) h = more f types (arrow a b) h
    fits_wider (abs name args s) v h = subst (λ (holds : List ℕ → Val → Bool). IsTrue (fits_abstract (record { is_of = one.is_of; holds = holds }) name args v)) alike h
    fits_wider (variant ps) (chosen x v) h = alternative_wider x ps v h
    fits_wider (fields ps s) (parts vs) h = fields_wider ps vs h
    fits_wider _ _ h = never h

    alternative_wider : (x : List ℕ) (ps : Parts) (v : Val) → IsTrue (fits_alternative one x ps v) → IsTrue (fits_alternative other x ps v)
    alternative_wider x end v h = never h
    alternative_wider x (part y t true ps) v h =
        either (bytes_eq x y) false false (fits_alternative one x ps v) (fits_alternative other x ps v) (λ k. k) (alternative_wider x ps v) h
    alternative_wider x (part y t false ps) v h =
        either (bytes_eq x y) (fits one t v) (fits other t v) (fits_alternative one x ps v) (fits_alternative other x ps v) (fits_wider t v) (alternative_wider x ps v) h

    fields_wider : (ps : Parts) (vs : Vals) → IsTrue (fits_fields one ps vs) → IsTrue (fits_fields other ps vs)
    fields_wider end values.none h = h
    fields_wider (part x t true ps) (values.more v vs) h =
        let p = and_parts (is_gone v) _ h in both (is_gone v) _ p.0 (fields_wider ps vs p.1)
    fields_wider (part x t false ps) (values.more v vs) h =
        let p = and_parts (fits one t v) _ h in both (fits other t v) _ (fits_wider t v p.0) (fields_wider ps vs p.1)
    fields_wider _ _ h = never h
