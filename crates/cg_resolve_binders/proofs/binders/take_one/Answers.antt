use Rattle.std.proofs.Common.{◌∷◌, None, refl, arith}
use Rattle.cg_core.specs.Kernels.{the_term}
use Rattle.cg_resolve_def.specs.Terms.{its_name}
use Rattle.cg_surface.specs.Patterns.{pattern_of}
use Rattle.cg_resolve_sites.specs.declared.frames.Frame.TheVariants.{Take}
use Rattle.cg_resolve_sites.specs.Sites.{scope_in}
use Rattle.cg_resolve_sites.proofs.SiteLaws.{pushed_two, no_room}
use Rattle.cg_resolve_sites.proofs.FrameLaws.{depth_pos}
use Rattle.cg_resolve_binders.proofs.BinderSteps.{taken_moved}
use Rattle.cg_resolve_binders.proofs.binders.take_one.Goals as goal

pub returns-clause-binds : goal.returns-clause-binds
returns-clause-binds c =
    taken_moved c.args.site.now _ _ c.args.place (the_term c.args.whole) c.args.at (pattern_of c.args.pattern.now) _ _ c.inner_place-value.ensures c.its_name.ensures
    (pushed_two c.args.site.now _ (Take c.args.place c.args.whole c.args.at c.inner_place-value.result) c.push-2.new.self.items None c.its_name.result c.requires.fits
    (omega (arith, c.requires.value (omega arith))) refl c.in_ok-push.ensures.items c.in_ok-push-2.ensures.items c.in_ok-push-3.ensures.items)

pub returns-then-level-gt-TERM_LIMIT-clause-binds : goal.returns-then-level-gt-TERM_LIMIT-clause-binds
returns-then-level-gt-TERM_LIMIT-clause-binds c =
    no_room c.args.site.now _ 2 (λ rest. omega (arith, depth_pos (rest (its_name (pattern_of c.args.pattern.now) ∷ None ∷ scope_in c.args.site.now)))) (omega arith)
