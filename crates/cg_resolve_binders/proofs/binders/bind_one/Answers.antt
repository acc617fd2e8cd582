use Rattle.std.proofs.Common.{◌∷◌, refl, arith}
use Rattle.cg_resolve_sites.specs.declared.frames.Frame.TheVariants.{Let}
use Rattle.cg_resolve_sites.specs.Sites.{entry_of, scope_in}
use Rattle.cg_resolve_sites.proofs.SiteLaws.{pushed_one, no_room}
use Rattle.cg_resolve_sites.proofs.FrameLaws.{depth_pos}
use Rattle.cg_resolve_binders.proofs.binders.bind_one.Goals as goal

pub returns : goal.returns
returns c =
    pushed_one c.args.site.now _ (Let c.args.node c.args.place c.args.value) c.args.name c.requires.fits
    (omega (arith, c.requires.value (omega arith))) refl c.in_ok-push.ensures.items c.in_ok-push-2.ensures.items

pub returns-then-level-gt-TERM_LIMIT : goal.returns-then-level-gt-TERM_LIMIT
returns-then-level-gt-TERM_LIMIT c = no_room c.args.site.now _ 2 (λ rest. omega (arith, depth_pos (rest (entry_of c.args.name ∷ scope_in c.args.site.now)))) (omega arith)
