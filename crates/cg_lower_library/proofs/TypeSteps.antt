-- Types of the program, and as C has them.
use Rattle.cg_base.specs.declared.ty.Ty.{the_lemmas as type_lemmas}

pub ruleset type_steps = (type_lemmas)
