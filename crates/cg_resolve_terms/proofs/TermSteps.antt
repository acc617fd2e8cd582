-- Terms of expressions, one layer and one step at a time.
use Rattle.std.proofs.Common.{◌≡◌, ℕ, ◌+◌, ◌<◌, ◌≤◌, Result, Ok, Err, sym, subst, arith}
use Rattle.std.specs.Result.{IsErrAnd}
use Rattle.cg_base.specs.declared.place.Place.{Place}
use Rattle.cg_core.specs.declared.term.Term as code
use Rattle.cg_core.specs.declared.term.Term.{the_lemmas as term_lemmas}
use Rattle.cg_surface.specs.declared.expr.SExpr.{the_lemmas as expr_lemmas}
use Rattle.cg_resolve_def.specs.Desugar.{depth_of, term_limit}
use Rattle.cg_resolve_def.specs.Terms.{Term}
use Rattle.cg_resolve_sites.specs.declared.fault.TermFault.{TermFault}
use Rattle.cg_resolve_sites.specs.Answers.{Says}
use Rattle.cg_resolve_sites.specs.Sites.{Refuses}
use Rattle.cg_resolve_sites.proofs.SiteLaws.{weaker}
use Rattle.cg_resolve_sites.proofs.ScopeSteps.{scope_push, scope_long}
use Rattle.cg_resolve_terms.proofs.ExprLaws.{components_are, fields_are, bindings_are, puts_none}

pub ruleset term_steps = (scope_push, scope_long, components_are, fields_are, bindings_are, puts_none, term_lemmas, expr_lemmas)

-- an answer handed on: the part is no deeper than the whole
pub err_says : (above n : ℕ) (t : Term) (fault : TermFault) (r : Result (code.Term Place) TermFault) → IsErrAnd r (λ e. e ≡ fault) → Refuses fault (term_limit < n) → n ≤ above + depth_of t → Says above t r
err_says above n t fault (Ok made) is refuses deep = absurd is
err_says above n t fault (Err e) is refuses deep = subst (λ f. Refuses f (term_limit < above + depth_of t)) (sym is) (weaker fault _ _ refuses (λ over. omega arith))
