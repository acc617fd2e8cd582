use Rattle.std.proofs.Common.{arith, sym, ap, ◌∙◌}
use Rattle.std.proofs.lemmas.Option.{slice_get-map}
use Rattle.std.specs.Option.{option_map}
use Rattle.cg_base.specs.declared.ty.Ty.{the_lemmas}
use Rattle.cg_core.specs.Kernels.{function_of}
use Rattle.cg_typing_parts.proofs.function.user_type.Goals as goal

pub returns-in-None : goal.returns-in-None
returns-in-None c =
    let none = slice_get-map function_of c.args.functions.now c.args.at ∙ ap (option_map function_of) (sym c.in-None.ensures.value) in
    grind (arith, the_lemmas, none)
