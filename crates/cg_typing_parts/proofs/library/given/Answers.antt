use Rattle.std.proofs.Common.{arith}
use Rattle.cg_base.specs.declared.ty.Ty.{the_lemmas}
use Rattle.cg_typing_parts.proofs.LibrarySteps.{given_none}
use Rattle.cg_typing_parts.proofs.library.given.Goals as goal

pub returns-in-None : goal.returns-in-None
returns-in-None c =
    let none = given_none c.args.args.now c.args.at in
    grind (arith, the_lemmas, none)
