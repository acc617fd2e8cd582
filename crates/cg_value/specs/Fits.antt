-- Which values fit a type (docs/LANGUAGE.md, "Values"), over what functions and abstract types are.
use Rattle.std.specs.Prelude.{ℕ, ◌^◌, Bool, true, false, ◌&&◌, not, nat_le, nat_lt, List, codes, length, if◌then◌else◌}
use Rattle.std.specs.List.{list_all}
use Rattle.std.specs.Str.{bytes_eq}
use Rattle.cg_base.specs.declared.fun.Fun.{Fun}
use Rattle.cg_base.specs.declared.kind.Word.{Word}
use Rattle.cg_base.specs.Types.{Tau, unit, word, bool, arrow, abs, variant, fields, Taus, none, more, Parts, end, part}
use Rattle.cg_base.specs.Words.{bits}
use Rattle.cg_value.specs.Values as values
use Rattle.cg_value.specs.Values.{Val, number, nothing, function, chosen, parts, elements, answers, gone, Vals}

-- how many elements an array may have
abbrev pub most_elements : ℕ
most_elements = 1048576

-- what functions and abstract types are: a function at type arguments is of an arrow type, and an abstract type holds a value
pub record World : Type 0 where
  pub is_of : Fun → List Tau → Tau → Bool
  pub holds : List ℕ → Val → Bool

abbrev pub is_gone : Val → Bool
is_gone gone = true
is_gone _ = false

abbrev pub is_answers : Val → Bool
is_answers (answers bs) = true
is_answers _ = false

-- an array of so few numbers, each a word
abbrev pub is_array : Word → Val → Bool
is_array w (elements ns) = nat_le (length ns) most_elements && list_all (λ n. nat_lt n (2 ^ bits w)) ns
is_array w _ = false

module _ (world : World) where
  -- a value of a type that is declared beforehand, or of one that has no arguments and is abstract
  abbrev pub fits_abstract : List ℕ → Taus → Val → Bool
  fits_abstract name none v = if bytes_eq name (codes "SysState") then is_answers v else world.holds name v
  fits_abstract name (more (word w) none) v = bytes_eq name (codes "WordArray") && is_array w v
  fits_abstract name _ v = false

  -- A value fits a type. A sigil says nothing of it, and nothing fits a type variable.
  unfoldable mutual
    pub fits : Tau → Val → Bool
    fits unit nothing = true
    fits (word w) (number n) = nat_lt n (2 ^ bits w)
    fits bool (number n) = nat_lt n 2
    fits (arrow a b) (function f types) = world.is_of f types (arrow a b)
    fits (abs name args sigil) v = fits_abstract name args v
    fits (variant ps) (chosen x v) = fits_alternative x ps v
    fits (fields ps sigil) (parts vs) = fits_fields ps vs
    fits _ _ = false

    -- the payload of an alternative, which is the first of its name and isn't taken
    pub fits_alternative : List ℕ → Parts → Val → Bool
    fits_alternative x end v = false
    fits_alternative x (part y t taken ps) v = if bytes_eq x y then not taken && fits t v else fits_alternative x ps v

    -- as many values as there are fields, each gone where the field is taken
    pub fits_fields : Parts → Vals → Bool
    fits_fields end values.none = true
    fits_fields (part x t taken ps) (values.more v vs) = (if taken then is_gone v else fits t v) && fits_fields ps vs
    fits_fields _ _ = false
