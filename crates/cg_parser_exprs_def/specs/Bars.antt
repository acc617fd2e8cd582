-- To which match a bar belongs (docs/LANGUAGE.md, "Bars").
use Rattle.std.specs.Prelude.{ℕ, ◌+◌, Bool, true, false, nat_eq, nat_lt, List, [], ◌∷◌, Option, Some, None, if◌then◌else◌}

-- a bar opens a match, belongs to the open match outside so many others, or stands at a wrong column
pub data Choice : Type 0 where
  New : Choice
  Joins : ℕ → Choice
  Wrong : Choice

-- how many open matches stand inside the innermost one whose first bar has this column
abbrev pub inside_of : ℕ → List ℕ → Option ℕ
inside_of c [] = None
inside_of c (o ∷ os) = if nat_eq o c then Some 0 else elim (inside_of c os) [ None ↦ None | Some j ↦ Some (j + 1) ]

-- where no first bar has its column, a bar that is first on its line opens a match to the right of the innermost one
abbrev pub at_column : ℕ → ℕ → Option ℕ → Choice
at_column c o (Some j) = Joins j
at_column c o None = if nat_lt o c then New else Wrong

-- The match to which a bar belongs, of those that are open: the columns of their first bars, the innermost first. The bar is first on
-- its line or not, and stands at a column.
abbrev pub bar_choice : Bool → ℕ → List ℕ → Choice
bar_choice first c [] = New
bar_choice true c (o ∷ os) = at_column c o (inside_of c (o ∷ os))
bar_choice false c (o ∷ os) = Joins 0
