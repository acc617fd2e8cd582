use Rattle.cg_cgen.proofs.iterators.body_by.Goals as goal

pub returns-in-Seq32Break : goal.returns-in-Seq32Break
returns-in-Seq32Break c = rw c.in-Seq32Break.is c.break_body.ensures
