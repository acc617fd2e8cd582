use Rattle.std.proofs.Common.{[], ◌∙◌, ap, Some}
use Rattle.cg_kinds.specs.Kinds.{subst as subst_of}
use Rattle.cg_lower_tables.proofs.Visits.{word_is, word_member}
use Rattle.cg_lower_tables.proofs.structs.Structs.word.Goals as goal

pub returns-clause-member : goal.returns-clause-member
unfolding subst_of
returns-clause-member c t p = word_member c.enter.new.self.types c.in_ok-at.at c.args.word (c.in_ok-at.ensures.place ∙ ap (λ u. Some (subst_of [] u)) (word_is c.args.word)) t p
