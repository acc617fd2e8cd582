-- The whole answers of calls that make terms at a site, and the body of a definition.
use Rattle.std.specs.Prelude.{◌≡◌, ℕ, ◌+◌, ◌<◌, ◌≤◌, Option, Some, None, Result, Ok, Err, ⊤}
use Rattle.cg_base.specs.declared.place.Place.{Place}
use Rattle.cg_core.specs.declared.kernel.KBody.{KBody}
use Rattle.cg_core.specs.declared.term.Term as code
use Rattle.cg_core.specs.Kernels.{the_term, body_of}
use Rattle.cg_resolve_def.specs.Desugar.{depth_of, term_limit}
use Rattle.cg_resolve_def.specs.Terms.{Scope, Term}
use Rattle.cg_resolve_sites.specs.declared.fault.TermFault.{TermFault}
use Rattle.cg_resolve_sites.specs.declared.frames.Site.{Site}
use Rattle.cg_resolve_sites.specs.Answers.{Says}
use Rattle.cg_resolve_sites.specs.Sites.{scope_in, inside, level, Fits, Refuses}
use Rattle.cg_resolve_sites.specs.Stands.{HasRoom, Uses}

-- a term that stands that far down from here, or any where it is left out
abbrev pub StandingSays : Option ℕ → ℕ → Term → Result (code.Term Place) TermFault → Type 0
StandingSays (Some k) level t result = Says (level + k) t result
StandingSays None level t (Ok made) = ⊤
StandingSays None level t (Err fault) = Refuses fault ⊥

-- What is made of a term that is looked into goes on inside, with this term in its place.
pub record Looked (stands : Option ℕ) (old : Site) (made : (Term → Scope → Term) → Term) (subject : Term) (new : Site) : Type 0 where
  pub above : new.above ≡ old.above
  pub same : (go : Term → Scope → Term) → Uses stands go → inside old (made go) ≡ inside new (go subject (scope_in new))
  pub room : HasRoom stands (level new) (depth_of subject)
  pub fits : Fits new

-- a term that is looked into, that far down from where that goes on
abbrev pub LooksInto : Option ℕ → Site → ((Term → Scope → Term) → Term) → Result (code.Term Place) TermFault → Site → Type 0
LooksInto stands old made (Ok subject) new = Looked stands old made (the_term subject) new
LooksInto stands old made (Err fault) new = Refuses fault ((go : Term → Scope → Term) → Uses stands go → term_limit < old.above + depth_of (inside old (made go)))

-- the body of a definition whose term this is
abbrev pub BodySays : Term → Place → Result KBody TermFault → Type 0
BodySays t param (Ok body) = (depth_of t ≤ term_limit) × (body_of body ≡ record { param = param; term = t })
BodySays t param (Err fault) = Refuses fault (term_limit < depth_of t)
