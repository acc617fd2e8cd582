use Rattle.std.proofs.Common.{◌<◌, ◌≤◌, Some, arith, length, tests, ap, sym, ◌∙◌}
use Rattle.cg_base.specs.Types.{type_of}
use Rattle.cg_core.specs.declared.at.TyArg.{TyArg}
use Rattle.cg_kinds.specs.Kinds.{subst}
use Rattle.cg_inst_types.specs.Layers.{types_at}
use Rattle.cg_inst.proofs.Standing.{argument_more, keeps_through, listing_on, within}
use Rattle.cg_inst.proofs.arguments.enter_types.Goals as goal

pub enter_more-requires : goal.enter_more-requires
enter_more-requires c = record {
  list = listing_on c.loop-i.table c.enter.new.self c.in_ok-ty.ensures.kept c.loop-i.list _ c.loop-i.invariant.1;
  ty = within c.enter.new.self c.in_ok-ty.ty _ c.in_ok-ty.ensures.place;
}

pub loop-i-preserved : goal.loop-i-preserved
loop-i-preserved c =
    let some : 0 < c.loop-i.i = (let test = c.loop-i-test.true in grind (tests, arith)) in
    let bound : c.loop-i.i ≤ length c.as_slice-items.result.now = (let auto = c.loop-i.auto.i in omega arith) in (
      keeps_through c.args.table.now c.loop-i.table c.enter.new.self c.enter_more.new.self c.loop-i.invariant.0 c.in_ok-ty.ensures.kept c.in_ok-list-2.ensures.kept,
      argument_more c.args.table.now c.loop-i.table c.enter.new.self c.enter_more.new.self c.args.types.now c.as_slice-items.result.now c.loop-i.i c.loop-i.list c.in_ok-ty.ty c.in_ok-list-2.list
          c.index-items-i.result c.requires c.loop-i.invariant.0 c.in_ok-ty.ensures.kept some bound c.index-items-i.is c.loop-i.invariant.1
          (c.in_ok-ty.ensures.place ∙ ap (λ (y : TyArg). Some (subst (types_at c.loop-i.table c.args.types.now) (type_of y.ty))) (sym c.index-items-i.is)) c.in_ok-list-2.ensures.place,
    )
