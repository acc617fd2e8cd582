-- The library's functions.
use Rattle.cg_value.specs.declared.value.Value.{the_lemmas}

pub ruleset library_steps = (the_lemmas)
