-- Nodes and what they mention.
use Rattle.cg_core.specs.declared.term.Form.{the_lemmas}
use Rattle.cg_core.proofs.Operands.{core_is}

pub ruleset mention_steps = (the_lemmas, core_is)
