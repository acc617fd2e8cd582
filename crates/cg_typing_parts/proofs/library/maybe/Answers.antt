use Rattle.cg_base.specs.declared.ty.Ty.{the_lemmas}
use Rattle.cg_base.specs.Types.{to_parts, unit}
use Rattle.cg_typing_parts.proofs.library.maybe.Goals as goal

pub returns : goal.returns
unfolding to_parts
returns c = λ t h. c.variant.ensures _ (c.add.ensures _ t (c.one.ensures unit (search the_lemmas)) h)
