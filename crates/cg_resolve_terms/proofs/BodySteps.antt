-- The body of a definition.
use Rattle.std.proofs.Common.{◌≡◌, ◌<◌, Result, Ok, Err, sym, subst}
use Rattle.std.specs.Result.{IsErrAnd}
use Rattle.cg_base.specs.declared.place.Place.{Place}
use Rattle.cg_core.specs.declared.kernel.KBody.{KBody}
use Rattle.cg_resolve_def.specs.Desugar.{depth_of, term_limit}
use Rattle.cg_resolve_def.specs.Terms.{Term}
use Rattle.cg_resolve_sites.specs.declared.fault.TermFault.{TermFault}
use Rattle.cg_resolve_sites.specs.Sites.{Refuses}
use Rattle.cg_resolve_terms.specs.Answers.{BodySays}

-- an answer handed on
pub body_err : (t : Term) (param : Place) (fault : TermFault) (r : Result KBody TermFault) → IsErrAnd r (λ e. e ≡ fault) → Refuses fault (term_limit < depth_of t) → BodySays t param r
body_err t param fault (Ok made) is refuses = absurd is
body_err t param fault (Err e) is refuses = subst (λ f. Refuses f (term_limit < depth_of t)) (sym is) refuses
