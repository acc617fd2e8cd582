-- What expressions are, by what names mean.
use Rattle.std.specs.Prelude.{ℕ, List, length, Option}
use Rattle.cg_base.specs.declared.place.Place.{Place}
use Rattle.cg_core.specs.Terms.{OneField}
use Rattle.cg_surface.specs.Exprs.{Expr, FieldExprs, OneBind, OneAlt}
use Rattle.cg_surface.specs.Exprs as exprs
use Rattle.cg_surface.specs.Patterns.{Pattern}
use Rattle.cg_surface.specs.Written.{Writtens}
use Rattle.cg_resolve_def.specs.Expand.{bodies}
use Rattle.cg_resolve_def.specs.Terms as desugar
use Rattle.cg_resolve_def.specs.Terms.{Scope, Term, Rest}
use Rattle.cg_resolve_binders.specs.Parts.{seen_made, later_bound}
use Rattle.cg_resolve_nodes.specs.declared.names.Names.{Names}
use Rattle.cg_resolve_nodes.specs.Names.{entries_in, vars_in}
use Rattle.cg_resolve_terms.specs.Parts as parts

module _ (names : Names) where
  abbrev pub term_in : Scope → Expr → Term
  term_in = desugar.term_of (entries_in names) (bodies (entries_in names)) (vars_in names)

  abbrev pub name_in : Place → List ℕ → Writtens → Option ℕ → Term
  name_in = desugar.mention (entries_in names) (bodies (entries_in names)) (vars_in names)

  abbrev pub puts_in : Place → Scope → Term → FieldExprs → Term
  puts_in = desugar.puts (entries_in names) (bodies (entries_in names)) (vars_in names)

  abbrev pub binds_in : Place → List OneBind → Scope → Rest → Term
  binds_in = parts.binds_from (entries_in names) (bodies (entries_in names)) (vars_in names)

  -- one binding
  abbrev pub bind_in : Place → OneBind → Scope → Rest → Term
  bind_in p b scope = desugar.let_bound p (desugar.first_place b.value) b.pattern (term_in scope b.value) b.seen scope

  -- one that variables are observed in
  abbrev pub observed_in : Place → OneBind → Scope → Rest → Term
  observed_in p b scope rest =
      seen_made p b.seen (desugar.inner_place b.pattern) (term_in scope b.value) (desugar.its_name b.pattern) scope
      (λ scope'. later_bound (desugar.its_name b.pattern) b.pattern (desugar.first_place b.value) (length scope) scope' rest)

  -- the body of an alternative, or of a definition
  abbrev pub payload_in : Pattern → Scope → Expr → Term
  payload_in x scope b = desugar.payload_bound (desugar.its_name x) x scope (λ scope'. term_in scope' b)

  abbrev pub case_in : OneAlt → Term → Scope → Rest → Term
  case_in = parts.one_case (entries_in names) (bodies (entries_in names)) (vars_in names)

  abbrev pub last_in : OneAlt → Term → Scope → Term
  last_in = parts.one_last (entries_in names) (bodies (entries_in names)) (vars_in names)

  abbrev pub choices_in : List OneAlt → Term → Scope → Term
  choices_in = parts.choices_from (entries_in names) (bodies (entries_in names)) (vars_in names)

  abbrev pub components_in : Scope → ℕ → List Expr → List (OneField Place)
  components_in = parts.components_from (entries_in names) (bodies (entries_in names)) (vars_in names)

  abbrev pub field_in : Scope → exprs.OneField → OneField Place
  field_in = parts.field_from (entries_in names) (bodies (entries_in names)) (vars_in names)
