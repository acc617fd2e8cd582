use Rattle.std.proofs.Common.{◌≡◌, length, arith, rules}
use Rattle.cg_resolve_sites.proofs.ScopeSteps.{remainder_set}
use Rattle.cg_resolve_binders.proofs.binders.name_remainder.Goals as goal

pub returns-then-count-ge2-clause-entries : goal.returns-then-count-ge2-clause-entries
returns-then-count-ge2-clause-entries c =
    let count : c.len-count.result ≡ length c.args.scope.now.items = search rules in
    remainder_set c.args.scope.now.items _ c.args.name (omega arith)
