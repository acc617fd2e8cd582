use Rattle.std.proofs.Common.{◌≡◌, length}
use Rattle.cg_core.specs.Kernels.{the_term}
use Rattle.cg_resolve_sites.specs.Sites.{inside}
use Rattle.cg_resolve_sites.proofs.frames.Site.close.Given as goal

abbrev pub invariant-loop-frame : goal.invariant-loop-frame
invariant-loop-frame l = inside l.self (the_term l.whole) ≡ inside l.initial.self (the_term l.initial.whole)

abbrev pub decreases-loop-frame : goal.decreases-loop-frame
decreases-loop-frame l = length l.self.frames.items
