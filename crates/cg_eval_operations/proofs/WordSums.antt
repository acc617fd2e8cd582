-- Sums of words.
use Rattle.cg_value.specs.declared.value.Value.{the_lemmas}
use Rattle.cg_base.proofs.Counts.{narrowed}

pub ruleset word_steps = (narrowed, the_lemmas)
