-- Tables and sets of names, beside the lists that they stand for.
use Rattle.std.specs.Prelude.{◌≡◌, ℕ, List, map, Bool, Option, Some, None}
use Rattle.std.specs.BTreeMap.{BTreeMap, get_by}
use Rattle.std.specs.BTreeSet.{BTreeSet, contains_by}
use Rattle.std.specs.Cmp.Lexicographic.{slice_cmp}
use Rattle.std.specs.Ordering.{nat_cmp}
use Rattle.cg_resolve_def.specs.Declared.{is_among}
use denote.Ref.{Bor}

-- the names that references point to
abbrev pub texts : List (Bor (List ℕ)) → List (List ℕ)
texts names = map (λ name. name.now) names

-- what a table has for a name
abbrev pub find : {V : Type 0} → BTreeMap (Bor (List ℕ)) V → List ℕ → Option V
find table name = get_by (λ key. slice_cmp nat_cmp name key.now) table

-- the first of two, where there is one, else the second
abbrev pub otherwise : {A : Type 0} → Option A → Option A → Option A
otherwise None second = second
otherwise (Some value) second = Some value

-- whether a set has a name
unfoldable pub has : BTreeSet (Bor (List ℕ)) → List ℕ → Bool
has set name = contains_by (λ key. slice_cmp nat_cmp name key.now) set

-- a set has the names of the list, and no others
abbrev pub IsSetOf : List (List ℕ) → BTreeSet (Bor (List ℕ)) → Type 0
IsSetOf names set = (name : List ℕ) → has set name ≡ is_among names name
