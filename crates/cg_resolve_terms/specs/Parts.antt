-- The parts of a list of expressions, the first outermost: what cg_resolve_def defines from the last item on.
use Rattle.std.specs.Prelude.{ℕ, ◌+◌, List, [], ◌∷◌, length}
use Rattle.cg_base.specs.declared.place.Place.{Place}
use Rattle.cg_core.specs.Terms.{term, var, OneField as NamedTerm}
use Rattle.cg_surface.specs.Exprs.{Expr, OneBind, OneAlt}
use Rattle.cg_surface.specs.Exprs as exprs
use Rattle.cg_surface.specs.Programs.{Entry}
use Rattle.cg_resolve_def.specs.Expand.{Bodies, component}
use Rattle.cg_resolve_def.specs.Terms.{Scope, Term, Rest, its_name, first_place, let_bound, payload_bound, last_bound, term_of}
use Rattle.cg_resolve_binders.specs.Parts.{case_made}

module _ (entries : List Entry) (known : Bodies) (vars : List (List ℕ)) where
  abbrev pub binds_from : Place → List OneBind → Scope → Rest → Term
  binds_from p [] scope rest = rest scope
  binds_from p (b ∷ bs) scope rest =
      let_bound p (first_place b.value) b.pattern (term_of entries known vars scope b.value) b.seen scope (λ scope'. binds_from p bs scope' rest)

  -- an alternative that isn't the last, round the rest
  abbrev pub one_case : OneAlt → Term → Scope → Rest → Term
  one_case a subject scope rest = case_made a subject (payload_bound (its_name a.pattern) a.pattern scope (λ scope'. term_of entries known vars scope' a.body)) scope rest

  abbrev pub one_last : OneAlt → Term → Scope → Term
  one_last a subject scope = last_bound a.place a.con a.pattern subject scope (λ scope'. term_of entries known vars scope' a.body)

  -- alternatives, of which one more stands before the others
  abbrev pub cases_from : OneAlt → List OneAlt → Term → Scope → Term
  cases_from a [] subject scope = one_last a subject scope
  cases_from a (b ∷ choices) subject scope = one_case a subject scope (λ scope'. cases_from b choices (term a.place (var (length scope))) scope')

  abbrev pub choices_from : List OneAlt → Term → Scope → Term
  choices_from [] subject scope = subject
  choices_from (a ∷ choices) subject scope = cases_from a choices subject scope

  abbrev pub components_from : Scope → ℕ → List Expr → List (NamedTerm Place)
  components_from scope i [] = []
  components_from scope i (e ∷ es) = record { name = component i; term = term_of entries known vars scope e } ∷ components_from scope (i + 1) es

  abbrev pub field_from : Scope → exprs.OneField → NamedTerm Place
  field_from scope f = record { name = f.at.name; term = term_of entries known vars scope f.value }
