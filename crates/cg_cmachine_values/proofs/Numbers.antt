-- Numbers of words.
use Rattle.cg_base.proofs.Counts.{narrowed}

pub ruleset number_steps = (narrowed)
