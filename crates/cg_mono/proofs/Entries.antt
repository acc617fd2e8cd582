-- Types and bodies of instances.
use Rattle.cg_typing.proofs.Lists.{types_back}

pub ruleset entry_steps = (types_back)
