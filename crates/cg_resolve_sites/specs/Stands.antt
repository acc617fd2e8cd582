-- How far down a term stands in what is made of it: so many nodes are above it. None, where it is left out.
use Rattle.std.specs.Prelude.{◌≡◌, ℕ, ◌+◌, ◌==◌, ◌<◌, ◌≤◌, Option, Some, None, ⊤, List, [], ◌∷◌, if◌then◌else◌}
use Rattle.std.specs.Option.{option_map}
use Rattle.cg_resolve_def.specs.Desugar.{depth_of, term_limit}
use Rattle.cg_resolve_def.specs.Terms.{Scope, Term}
use Rattle.cg_surface.specs.Patterns.{Pattern, name, any, unit, paren, tuple, fields, take, Patterns, no_patterns, and_pattern, FieldPatterns, no_fields, and_field}
use Rattle.cg_surface.specs.Exprs.{OneAlt}

abbrev pub under_patterns : Patterns → Option ℕ
under_patterns no_patterns = None
under_patterns (and_pattern xs x) = Some 1

abbrev pub under_fields : FieldPatterns → Option ℕ
under_fields no_fields = None
under_fields (and_field fs at x) = Some 1

-- what is bound to a pattern
abbrev pub under : Pattern → Option ℕ
under (name p n) = Some 1
under (any p) = Some 1
under (unit p) = Some 2
under (paren p x) = under x
under (tuple p xs) = under_patterns xs
under (fields p fs) = under_fields fs
under (take p n fs) = under_fields fs

-- what a last alternative is for, with its constructor where it has one
abbrev pub under_last : Option (List ℕ) → Option ℕ → Option ℕ
under_last None stands = stands
under_last (Some n) stands = option_map (λ k. k + 1) stands

-- what is matched
abbrev pub under_choices : List OneAlt → Option ℕ
under_choices [] = Some 0
under_choices (a ∷ []) = under_last a.con (under a.pattern)
under_choices (a ∷ b ∷ choices) = Some 1

-- A term of this depth that stands that far down keeps the limit, if any term does there.
abbrev pub HasRoom : Option ℕ → ℕ → ℕ → Type 0
HasRoom None level depth = ⊤
HasRoom (Some k) level depth = level + k + 1 ≤ term_limit → level + k + depth ≤ term_limit

-- what is bound to so many parts
abbrev pub parts_under : ℕ → Option ℕ
parts_under parts = if (parts == 0) then None else Some 1

-- Two nodes, one below the other, keep the limit that far down.
abbrev pub HasTwo : Option ℕ → ℕ → Type 0
HasTwo None level = ⊤
HasTwo (Some k) level = level + k + 2 ≤ term_limit

abbrev pub LacksTwo : Option ℕ → ℕ → Type 0
LacksTwo None level = ⊥
LacksTwo (Some k) level = term_limit < level + k + 2

-- What is made of a term, in which that stands that far down, or is left out.
abbrev pub Uses : Option ℕ → (Term → Scope → Term) → Type 0
Uses None go = (e e' : Term) (scope : Scope) → go e scope ≡ go e' scope
Uses (Some k) go = (e : Term) (scope : Scope) → k + depth_of e ≤ depth_of (go e scope)
