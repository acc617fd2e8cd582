use Rattle.std.proofs.Common.{sym, ap, arith}
use Rattle.cg_base.specs.declared.ty.Ty.{the_lemmas}
use Rattle.cg_typing.specs.Parts.{all_taken}
use Rattle.cg_typing_parts.proofs.LibrarySteps.{given_none}
use Rattle.cg_typing_parts.proofs.library.given_taken.Goals as goal

pub returns-in-None : goal.returns-in-None
returns-in-None c =
    let none = ap all_taken (given_none c.args.args.now 0 (sym c.in-None.ensures.value)) in
    grind (arith, the_lemmas, none)
