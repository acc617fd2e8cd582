-- The parts of a pattern, the first outermost: what cg_resolve_def defines from the last part on; and what one node is made of.
use Rattle.std.specs.Prelude.{ℕ, ◌+◌, List, [], ◌∷◌, map, length, Option, Some, None}
use Rattle.cg_base.specs.declared.place.Place.{Place}
use Rattle.cg_core.specs.declared.at.At.{At}
use Rattle.cg_core.specs.Terms.{term, var, let_bang, take_field, case_of}
use Rattle.cg_surface.specs.Patterns.{Pattern, OneField}
use Rattle.cg_surface.specs.Exprs.{OneAlt}
use Rattle.cg_resolve_def.specs.Expand.{component}
use Rattle.cg_resolve_def.specs.Terms.{Scope, Term, Rest, positions, its_name, inner_place, named_remainder, bind, or_empty}

-- ---- patterns

-- components with their names, the first of this number
abbrev pub numbered : ℕ → List Pattern → List OneField
numbered i [] = []
numbered i (x ∷ xs) = record { at = record { place = inner_place x; name = component i }; pattern = x } ∷ numbered (i + 1) xs

-- fields, taken of a term
abbrev pub taken_from : Place → List OneField → Term → Scope → Rest → Term
taken_from p [] e scope rest = rest scope
taken_from p (f ∷ fs) e scope rest =
    term p (take_field e f.at p (inner_place f.pattern) (taken_from p fs (term p (var (length scope))) (its_name f.pattern ∷ None ∷ scope) rest))

-- one field, taken of a term
abbrev pub one_taken : Place → Term → At → Pattern → Scope → Rest → Term
one_taken p e at x scope rest = term p (take_field e at p (inner_place x) (rest (its_name x ∷ None ∷ scope)))

-- the variable at a position, bound to a pattern unless that is a name: then it is bound already
abbrev pub later_bound : Option (List ℕ) → Pattern → Place → ℕ → Scope → Rest → Term
later_bound (Some n) x q i scope rest = rest scope
later_bound None x q i scope rest = bind x (term q (var i)) scope rest

-- components, the first at this position, the others each two further
abbrev pub all_later : List Pattern → ℕ → Scope → Rest → Term
all_later [] i scope rest = rest scope
all_later (x ∷ xs) i scope rest = later_bound (its_name x) x (inner_place x) i scope (λ scope'. all_later xs (i + 2) scope' rest)

-- a term, bound to the parts of a pattern: all are taken first
abbrev pub parts_bound : Place → List OneField → Term → Scope → Rest → Term
parts_bound p fs e scope rest = taken_from p fs e scope (λ scope'. all_later (map (λ f. f.pattern) fs) (length scope + 1) scope' rest)

abbrev pub remainder_bound : Place → List ℕ → List OneField → Term → Scope → Rest → Term
remainder_bound p n fs e scope rest =
    taken_from p fs e scope (λ scope'. all_later (map (λ f. f.pattern) fs) (length scope + 1) (named_remainder n scope') rest)

abbrev pub tuple_bound : Place → List Pattern → Term → Scope → Rest → Term
tuple_bound p xs e scope rest = taken_from p (numbered 0 xs) e scope (λ scope'. all_later xs (length scope + 1) scope' rest)

-- ---- nodes

-- a term, observed, with an entry for it
abbrev pub seen_made : Place → List At → Place → Term → Option (List ℕ) → Scope → Rest → Term
seen_made p seen q e entry scope rest = term p (let_bang (positions scope seen) q e (rest (entry ∷ scope)))

-- a case with its first branch, round the rest
abbrev pub case_made : OneAlt → Term → Term → Scope → Rest → Term
case_made a subject first scope rest = term a.place (case_of subject (record { place = a.place; name = or_empty a.con }) (inner_place a.pattern) first (rest (None ∷ scope)))
