use Rattle.std.proofs.Common.{◌∙◌, refl, ap, arith}
use Rattle.cg_resolve_def.specs.Terms.{positions}
use Rattle.cg_resolve_sites.specs.declared.frames.Frame.TheVariants.{LetBang}
use Rattle.cg_resolve_sites.specs.Sites.{scope_of}
use Rattle.cg_resolve_sites.proofs.SiteLaws.{pushed_one}
use Rattle.cg_resolve_binders.proofs.BinderSteps.{seen_moved}
use Rattle.cg_resolve_binders.proofs.binders.push_seen.Goals as goal

pub returns : goal.returns
returns c =
    seen_moved c.args.site.now _ _ c.args.node c.args.seen.now c.in_ok-seen.seen c.args.place _ _
    (c.in_ok-seen.ensures ∙ ap (λ l. positions (scope_of l) c.args.seen.now) c.as_slice.ensures.value)
    (pushed_one c.args.site.now _ (LetBang c.args.node c.in_ok-seen.seen c.args.place c.args.value) c.args.entry c.requires.fits
    (omega (arith, c.requires.value)) refl c.in_ok-push.ensures.items c.in_ok-push-2.ensures.items)
