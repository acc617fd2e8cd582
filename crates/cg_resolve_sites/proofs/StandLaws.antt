-- How far down terms stand.
use Rattle.std.proofs.Common.{◌≡◌, ℕ, ◌+◌, ◌≤◌, ◌∷◌, Some, None, length, refl, arith}
use Rattle.cg_base.specs.declared.place.Place.{Place}
use Rattle.cg_core.specs.Terms.{term, var, take_field}
use Rattle.cg_surface.specs.Patterns.{Pattern, Patterns, FieldPatterns, name, any, unit, paren, tuple, fields, take, no_patterns, and_pattern, no_fields, and_field}
use Rattle.cg_resolve_def.specs.Desugar.{depth_of}
use Rattle.cg_resolve_def.specs.Expand.{component}
use Rattle.cg_resolve_def.specs.Terms.{Scope, Term, Rest, Later, bound_to, fields_taken, components_taken, named_remainder, behind, its_name, inner_place}
use Rattle.cg_resolve_sites.specs.Stands.{under, under_patterns, under_fields}

fields_under : (p : Place) (fs : FieldPatterns) (e : Term) (scope : Scope) (go : Term → Scope → Later → Term) (k : ℕ) → under_fields fs ≡ Some k → k + depth_of e ≤ depth_of (fields_taken p fs e scope go)
fields_under p no_fields e scope go k is = absurd (cc)
fields_under p (and_field no_fields at x) e scope go k is = let one : 1 ≡ k = cc in omega arith
fields_under p (and_field (and_field fs at' x') at x) e scope go k is = fields_under p (and_field fs at' x') e scope
    (λ e' scope' later. term p (take_field e' at p (inner_place x) (go (term p (var (length scope'))) (its_name x ∷ None ∷ scope') (behind later x (length scope' + 1)))))
    k is

patterns_under : (p : Place) (xs : Patterns) (e : Term) (scope : Scope) (go : ℕ → Term → Scope → Later → Term) (k : ℕ) → under_patterns xs ≡ Some k → k + depth_of e ≤ depth_of (components_taken p xs e scope go)
patterns_under p no_patterns e scope go k is = absurd (cc)
patterns_under p (and_pattern no_patterns x) e scope go k is = let one : 1 ≡ k = cc in omega arith
patterns_under p (and_pattern (and_pattern xs y) x) e scope go k is = patterns_under p (and_pattern xs y) e scope
    (λ i e' scope' later. term p (take_field e' (record { place = inner_place x; name = component i }) p (inner_place x)
    (go (i + 1) (term p (var (length scope'))) (its_name x ∷ None ∷ scope') (behind later x (length scope' + 1)))))
    k is

-- the term that is bound is as deep there
pub bound_under : (q : Place) (x : Pattern) (e : Term) (scope : Scope) (rest : Rest) (k : ℕ) → under x ≡ Some k → k + depth_of e ≤ depth_of (bound_to q x e scope rest)
bound_under q (name p n) e scope rest k is = let one : 1 ≡ k = cc in omega arith
bound_under q (any p) e scope rest k is = let one : 1 ≡ k = cc in omega arith
bound_under q (unit p) e scope rest k is = let two : 2 ≡ k = cc in omega arith
bound_under q (paren p x) e scope rest k is = bound_under q x e scope rest k is
bound_under q (tuple p xs) e scope rest k is = patterns_under p xs e scope (λ i e' scope' later. later scope' rest) k is
bound_under q (fields p fs) e scope rest k is = fields_under p fs e scope (λ e' scope' later. later scope' rest) k is
bound_under q (take p n fs) e scope rest k is = fields_under p fs e scope (λ e' scope' later. later (named_remainder n scope') rest) k is

-- where it is left out, any other serves
pub bound_alike : (q : Place) (x : Pattern) (e e' : Term) (scope : Scope) (rest : Rest) → under x ≡ None → bound_to q x e scope rest ≡ bound_to q x e' scope rest
bound_alike q (name p n) e e' scope rest is = absurd (cc)
bound_alike q (any p) e e' scope rest is = absurd (cc)
bound_alike q (unit p) e e' scope rest is = absurd (cc)
bound_alike q (paren p x) e e' scope rest is = bound_alike q x e e' scope rest is
bound_alike q (tuple p no_patterns) e e' scope rest is = refl
bound_alike q (tuple p (and_pattern xs x)) e e' scope rest is = absurd (cc)
bound_alike q (fields p no_fields) e e' scope rest is = refl
bound_alike q (fields p (and_field fs at x)) e e' scope rest is = absurd (cc)
bound_alike q (take p n no_fields) e e' scope rest is = refl
bound_alike q (take p n (and_field fs at x)) e e' scope rest is = absurd (cc)
