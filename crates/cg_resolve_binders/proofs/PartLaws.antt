-- Lists from their first item on.
use Rattle.std.proofs.Common.{◌≡◌, ℕ, ◌+◌, List, [], ◌∷◌, map, length, Option, Some, None, refl, ap, ◌∙◌, arith}
use Rattle.std.proofs.Math.Path.{fun_ext}
use Rattle.cg_base.specs.declared.place.Place.{Place}
use Rattle.cg_core.specs.Terms.{term, var, take_field}
use Rattle.cg_surface.specs.Patterns.{Pattern, Patterns, FieldPatterns, OneField, to_patterns, to_fields, patterns_behind, fields_behind}
use Rattle.cg_surface.specs.Patterns as patterns
use Rattle.cg_resolve_def.specs.Terms.{Scope, Term, Rest, Later, nothing_later, its_name, inner_place, named_remainder, bound_to, fields_taken, components_taken, behind}
use Rattle.cg_resolve_binders.specs.Parts.{numbered, taken_from, later_bound, all_later, parts_bound, remainder_bound, tuple_bound}

-- ---- patterns

-- what stands behind the later ones, by itself
pub behind_is : (later : Later) (x : Pattern) (i : ℕ) (scope : Scope) (rest : Rest) → behind later x i scope rest ≡ later scope (λ scope'. later_bound (its_name x) x (inner_place x) i scope' rest)
behind_is later (patterns.name p n) i scope rest = refl
behind_is later (patterns.any p) i scope rest = refl
behind_is later (patterns.unit p) i scope rest = refl
behind_is later (patterns.tuple p xs) i scope rest = refl
behind_is later (patterns.fields p fs) i scope rest = refl
behind_is later (patterns.take p n fs) i scope rest = refl
behind_is later (patterns.paren p x) i scope rest = behind_is later x i scope rest ∙ inner (its_name x)
  where
    inner : (n : Option (List ℕ)) → later scope (λ scope'. later_bound n x (inner_place x) i scope' rest) ≡ later scope (λ scope'. later_bound n (patterns.paren p x) (inner_place x) i scope' rest)
    inner None = refl
    inner (Some n) = refl

-- fields and components that go on, with what is later up to here
abbrev more_fields : Place → List OneField → Term → Scope → Later → (Term → Scope → Later → Term) → Term
more_fields p [] e scope later go = go e scope later
more_fields p (f ∷ fs) e scope later go =
    term p (take_field e f.at p (inner_place f.pattern)
    (more_fields p fs (term p (var (length scope))) (its_name f.pattern ∷ None ∷ scope) (behind later f.pattern (length scope + 1)) go))

fields_more : (p : Place) (before : FieldPatterns) (fs : List OneField) (e : Term) (scope : Scope) (go : Term → Scope → Later → Term)
    → fields_taken p (fields_behind before fs) e scope go ≡ fields_taken p before e scope (λ e' scope' later. more_fields p fs e' scope' later go)
fields_more p before [] e scope go = refl
fields_more p before (f ∷ fs) e scope go = fields_more p (patterns.and_field before f.at f.pattern) fs e scope go

components_more : (p : Place) (before : Patterns) (xs : List Pattern) (e : Term) (scope : Scope) (go : Term → Scope → Later → Term)
    → components_taken p (patterns_behind before xs) e scope (λ i e' scope' later. go e' scope' later) ≡ components_taken p before e scope (λ i e' scope' later. more_fields p (numbered i xs) e' scope' later go)
components_more p before [] e scope go = refl
components_more p before (x ∷ xs) e scope go = components_more p (patterns.and_pattern before x) xs e scope go

-- what is later, from the first on
later_is : (p : Place) (fs : List OneField) (e : Term) (scope : Scope) (later : Later) (change : Scope → Scope) (rest : Rest)
    → more_fields p fs e scope later (λ e' scope' later'. later' (change scope') rest)
    ≡ taken_from p fs e scope (λ scope'. later (change scope') (λ scope''. all_later (map (λ f. f.pattern) fs) (length scope + 1) scope'' rest))
later_is p [] e scope later change rest = refl
later_is p (f ∷ fs) e scope later change rest =
    ap (λ t. term p (take_field e f.at p (inner_place f.pattern) t))
    (later_is p fs (term p (var (length scope))) (its_name f.pattern ∷ None ∷ scope) (behind later f.pattern (length scope + 1)) change rest
    ∙ ap (taken_from p fs (term p (var (length scope))) (its_name f.pattern ∷ None ∷ scope))
    (fun_ext (λ scope'. behind_is later f.pattern (length scope + 1) (change scope') (λ scope''. all_later (map (λ g. g.pattern) fs) (length (its_name f.pattern ∷ None ∷ scope) + 1) scope'' rest)
    ∙ ap (λ n. later (change scope') (λ s. later_bound (its_name f.pattern) f.pattern (inner_place f.pattern) (length scope + 1) s (λ scope''. all_later (map (λ g. g.pattern) fs) n scope'' rest))) (omega arith))))

pub fields_are : (q p : Place) (fs : List OneField) (e : Term) (scope : Scope) (rest : Rest)
    → bound_to q (patterns.fields p (to_fields fs)) e scope rest ≡ parts_bound p fs e scope rest
unfolding to_fields
fields_are q p fs e scope rest =
    fields_more p patterns.no_fields fs e scope (λ e' scope' later. later scope' rest)
    ∙ later_is p fs e scope nothing_later (λ s. s) rest

pub remainder_is : (q p : Place) (n : List ℕ) (fs : List OneField) (e : Term) (scope : Scope) (rest : Rest)
    → bound_to q (patterns.take p n (to_fields fs)) e scope rest ≡ remainder_bound p n fs e scope rest
unfolding to_fields
remainder_is q p n fs e scope rest =
    fields_more p patterns.no_fields fs e scope (λ e' scope' later. later (named_remainder n scope') rest)
    ∙ later_is p fs e scope nothing_later (named_remainder n) rest

numbered_patterns : (i : ℕ) (xs : List Pattern) → map (λ f. f.pattern) (numbered i xs) ≡ xs
numbered_patterns i [] = refl
numbered_patterns i (x ∷ xs) = ap (λ l. x ∷ l) (numbered_patterns (i + 1) xs)

pub tuple_is : (q p : Place) (xs : List Pattern) (e : Term) (scope : Scope) (rest : Rest)
    → bound_to q (patterns.tuple p (to_patterns xs)) e scope rest ≡ tuple_bound p xs e scope rest
unfolding to_patterns
tuple_is q p xs e scope rest =
    components_more p patterns.no_patterns xs e scope (λ e' scope' later. later scope' rest)
    ∙ later_is p (numbered 0 xs) e scope nothing_later (λ s. s) rest
    ∙ ap (λ l. taken_from p (numbered 0 xs) e scope (λ scope'. all_later l (length scope + 1) scope' rest)) (numbered_patterns 0 xs)
