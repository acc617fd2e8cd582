-- What a table of abstract functions gives: which abstract types and functions it has, what they hold and mean, and its laws
-- (docs/LANGUAGE.md, "Abstract functions").
use Rattle.std.specs.Prelude.{◌≡◌, ℕ, ◌≤◌, Bool, true, false, ◌&&◌, ◌||◌, IsTrue, List, codes}
use Rattle.std.specs.Str.{bytes_eq}
use Rattle.cg_base.specs.Types.{Tau, unit, word, bool, arrow, abs, variant, fields, none, more, Parts, end, part}
use Rattle.cg_value.specs.Fits.{World, fits}
use Rattle.cg_value.specs.Values.{Val}

-- Abstract types by their names, of which it gives some; functions by their names, of which it names some and knows each at one type;
-- what an abstract type holds; and what a function gives and costs.
pub record Foreign : Type 0 where
  pub owns : List ℕ → Bool
  pub names : List ℕ → Bool
  pub knows : List ℕ → Tau → Bool
  pub holds : List ℕ → Val → Bool
  pub value : List ℕ → Val → Val
  pub cost : List ℕ → Val → ℕ

-- A type that abstract functions may take or give: without type variables and arrows, and each abstract type in it is declared
-- beforehand or owned.
unfoldable mutual
  pub is_plain_type : (List ℕ → Bool) → Tau → Bool
  is_plain_type owns unit = true
  is_plain_type owns (word w) = true
  is_plain_type owns bool = true
  is_plain_type owns (abs name none sigil) = bytes_eq name (codes "SysState") || owns name
  is_plain_type owns (abs name (more (word w) none) sigil) = bytes_eq name (codes "WordArray")
  is_plain_type owns (variant ps) = are_plain_parts owns ps
  is_plain_type owns (fields ps sigil) = are_plain_parts owns ps
  is_plain_type owns _ = false

  pub are_plain_parts : (List ℕ → Bool) → Parts → Bool
  are_plain_parts owns end = true
  are_plain_parts owns (part name t taken ps) = is_plain_type owns t && are_plain_parts owns ps

abbrev pub is_known_type : (List ℕ → Bool) → Tau → Bool
is_known_type owns (arrow a b) = is_plain_type owns a && is_plain_type owns b
is_known_type owns _ = false

-- what the types of a table's functions are about: no functions, and the abstract types that it owns
abbrev pub first_order : Foreign → World
first_order x = record { is_of = λ f types t. false; holds = λ name v. x.owns name && x.holds name v }

-- the most that one call may cost
abbrev pub most_cost : ℕ
most_cost = 1048576

-- The laws of a table. What it says of a function stands under the conditions that it knows the function and that the argument fits.
pub record IsLawful (x : Foreign) : Type 0 where
  pub known_is_named : (name : List ℕ) (t : Tau) → IsTrue (x.knows name t) → IsTrue (x.names name)
  pub known_once : (name : List ℕ) (s t : Tau) → IsTrue (x.knows name s) → IsTrue (x.knows name t) → s ≡ t
  pub known_type : (name : List ℕ) (t : Tau) → IsTrue (x.knows name t) → IsTrue (is_known_type x.owns t)
  pub value_fits : (name : List ℕ) (a b : Tau) (v : Val) → IsTrue (x.knows name (arrow a b)) → IsTrue (fits (first_order x) a v) → IsTrue (fits (first_order x) b (x.value name v))
  pub cost_is_small : (name : List ℕ) (a b : Tau) (v : Val) → IsTrue (x.knows name (arrow a b)) → IsTrue (fits (first_order x) a v) → x.cost name v ≤ most_cost
