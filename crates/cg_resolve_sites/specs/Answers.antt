-- The whole answer of a call that makes a term with so many nodes above it.
use Rattle.std.specs.Prelude.{◌≡◌, ℕ, ◌+◌, ◌<◌, ◌≤◌, Result, Ok, Err}
use Rattle.cg_base.specs.declared.place.Place.{Place}
use Rattle.cg_core.specs.declared.term.Term as code
use Rattle.cg_core.specs.Kernels.{the_term}
use Rattle.cg_resolve_def.specs.Desugar.{depth_of, term_limit}
use Rattle.cg_resolve_def.specs.Terms.{Term}
use Rattle.cg_resolve_sites.specs.declared.fault.TermFault.{TermFault}
use Rattle.cg_resolve_sites.specs.Sites.{Refuses}

-- this term, where it is within the limit
abbrev pub Says : ℕ → Term → Result (code.Term Place) TermFault → Type 0
Says above t (Ok made) = (the_term made ≡ t) × (above + depth_of t ≤ term_limit)
Says above t (Err fault) = Refuses fault (term_limit < above + depth_of t)
