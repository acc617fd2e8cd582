use Rattle.std.proofs.Common.{None, refl, arith}
use Rattle.cg_core.specs.Kernels.{the_term}
use Rattle.cg_resolve_sites.specs.declared.frames.Frame.TheVariants.{Case}
use Rattle.cg_resolve_sites.proofs.SiteLaws.{pushed_one}
use Rattle.cg_resolve_binders.proofs.ChoiceSteps.{case_moved}
use Rattle.cg_resolve_binders.proofs.choices.push_case.Goals as goal

pub returns : goal.returns
returns c =
    case_moved c.args.site.now _ c.args.choice.now _ c.in_ok-name_or_empty.field-0 c.inner_place-payload.result (the_term c.args.subject) (the_term c.args.first)
    c.in_ok-name_or_empty.ensures c.inner_place-payload.ensures
    (pushed_one c.args.site.now _ (Case c.args.choice.now.place c.args.subject (record { place = c.args.choice.now.place; name = c.in_ok-name_or_empty.field-0 }) c.inner_place-payload.result c.args.first) None c.requires.fits
    (omega (arith, c.requires.subject, c.requires.first)) refl c.in_ok-push.ensures.items c.in_ok-push-2.ensures.items)
