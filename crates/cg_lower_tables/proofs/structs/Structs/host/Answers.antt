use Rattle.std.proofs.Common.{[], ◌∙◌, ap, Some}
use Rattle.cg_kinds.specs.Kinds.{subst as subst_of}
use Rattle.cg_lower_tables.proofs.Visits.{closed_host, host_member}
use Rattle.cg_lower_tables.proofs.structs.Structs.host.Goals as goal

pub returns-clause-member : goal.returns-clause-member
returns-clause-member c t p =
    host_member c.enter-entered.new.self.types c.in_ok-at.at c.args.host
    (c.in_ok-at.ensures.place ∙ ap (λ u. Some (subst_of [] u)) c.in_ok-ty.ensures ∙ ap Some (closed_host c.args.host)) t p
