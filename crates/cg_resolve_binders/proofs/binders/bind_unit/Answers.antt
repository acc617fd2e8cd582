use Rattle.std.proofs.Common.{◌∷◌, None, arith}
use Rattle.cg_resolve_sites.specs.Sites.{scope_in}
use Rattle.cg_resolve_sites.proofs.SiteLaws.{no_room}
use Rattle.cg_resolve_sites.proofs.FrameLaws.{depth_pos}
use Rattle.cg_resolve_binders.proofs.binders.bind_unit.Goals as goal
use Rattle.cg_core.specs.Kernels.{the_term}

pub returns-then-level-gt-TERM_LIMIT : goal.returns-then-level-gt-TERM_LIMIT
returns-then-level-gt-TERM_LIMIT c =
    no_room c.args.site.now _ 3 (λ rest. omega (arith, depth_pos (rest (None ∷ scope_in c.args.site.now)), depth_pos (the_term c.args.value))) (omega arith)

pub returns : goal.returns
returns c = rw (← c.in_ok-value.ensures) c.bind_one.ensures
