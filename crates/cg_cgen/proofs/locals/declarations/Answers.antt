use Rattle.std.proofs.Common.{◌++◌, ◌∷◌, [], ap, ◌∙◌}
use Rattle.cg_base.specs.declared.kind.Word.TheVariants.{U8}
use Rattle.cg_cgen.specs.declared.locals.Kind.TheVariants.{Word}
use Rattle.cg_cgen.specs.Iterators.{kind_type, types_of}
use Rattle.cg_cgen.proofs.Declaring.{declared_more}
use Rattle.cg_cgen.proofs.locals.declarations.Goals as goal

pub loop-i-preserved : goal.loop-i-preserved
loop-i-preserved c =
    declared_more (kind_type (types_of c.args.types.now)) c.args.kinds.now c.loop-i.i (Word U8) c.in_ok-ty.ty c.loop-i.locals c.push.new.self c.loop-i-test.true c.in_ok-ty.ensures c.loop-i.invariant
    (c.in_ok-push.ensures.ok ∙ ap (λ d. c.loop-i.locals ++ d ∷ []) c.in_ok-declaration.ensures)
