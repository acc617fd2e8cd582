-- Nodes, one layer at a time.
use Rattle.cg_core.specs.declared.term.Term.{the_lemmas}

pub ruleset node_steps = (the_lemmas)
