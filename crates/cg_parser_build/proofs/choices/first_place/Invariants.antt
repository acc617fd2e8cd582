use Rattle.std.proofs.Common.{◌≡◌}
use Rattle.cg_surface.specs.Exprs.{expr_of}
use Rattle.cg_parser_build.specs.Plain.{first_place as first_of}
use Rattle.cg_parser_build.proofs.choices.first_place.Given as goal

abbrev pub invariant-loop-first : goal.invariant-loop-first
invariant-loop-first l = first_of (expr_of l.first) ≡ first_of (expr_of l.fn.tree)
