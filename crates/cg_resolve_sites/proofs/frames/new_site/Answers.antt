use Rattle.std.proofs.Common.{◌++◌, ◌∙◌, ap, length, arith}
use Rattle.cg_resolve_sites.proofs.SiteLaws.{site_fits}
use Rattle.cg_resolve_sites.proofs.frames.new_site.Goals as goal

pub returns-clause-fits : goal.returns-clause-fits
returns-clause-fits c =
    site_fits _ c.new.ensures.items c.requires.above
    (omega (arith, c.requires.scope, ap (λ l. length l) (c.in_ok-extend_from_slice.ensures.items ∙ ap (λ l. l ++ c.args.scope.now) c.new-entries.ensures.items)))
