use Rattle.std.proofs.Common.{rules, of_calls, nat_lt}
use Rattle.std.proofs.lemmas.Fn.{always_returns_same}
use Rattle.cg_flat.proofs.hole.first_from.Goals as goal

pub returns-clause-parts : goal.returns-clause-parts
returns-clause-parts c = c.partition_point.ensures.partitioned (λ h. nat_lt h.start c.args.place) (always_returns_same _ _ _ (λ a r f k. search (rules, of_calls))) c.requires
