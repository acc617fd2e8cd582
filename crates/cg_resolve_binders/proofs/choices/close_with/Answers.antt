use Rattle.std.proofs.Common.{arith}
use Rattle.cg_core.specs.Kernels.{the_term}
use Rattle.cg_resolve_sites.proofs.FrameLaws.{depth_pos, inside_deep}
use Rattle.cg_resolve_sites.proofs.SiteLaws.{inside_says}
use Rattle.cg_resolve_binders.proofs.choices.close_with.Goals as goal

pub returns-then-level-ge-TERM_LIMIT : goal.returns-then-level-ge-TERM_LIMIT
returns-then-level-ge-TERM_LIMIT c = omega (arith, inside_deep c.args.site.now.frames.items (the_term c.args.rest), depth_pos (the_term c.args.rest))

pub returns : goal.returns
returns c = (c.in_ok-close.ensures, inside_says c.args.site.now (the_term c.args.rest) c.requires.fits (omega (arith, c.requires.rest (omega arith))))
