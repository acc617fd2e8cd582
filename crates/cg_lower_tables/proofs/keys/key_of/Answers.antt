use Rattle.std.proofs.Common.{◌<◌, ◌≤◌, arith, length, tests}
use Rattle.cg_inst.proofs.Standing.{keeps_through, listing_on, within}
use Rattle.cg_lower_tables.proofs.KeySteps.{key_more}
use Rattle.cg_lower_tables.proofs.keys.key_of.Goals as goal

pub enter_more-requires : goal.enter_more-requires
enter_more-requires c = record {
  list = listing_on c.loop-i.table c.place_in.new.table c.in_ok-ty.ensures.kept c.loop-i.list _ c.loop-i.invariant.1;
  ty = within c.place_in.new.table c.in_ok-ty.ty _ c.in_ok-ty.ensures.place;
}

pub loop-i-preserved : goal.loop-i-preserved
loop-i-preserved c =
    let some : 0 < c.loop-i.i = (let test = c.loop-i-test.true in grind (tests, arith)) in
    let bound : c.loop-i.i ≤ length c.as_slice-items.result.now = (let auto = c.loop-i.auto.i in omega arith) in (
      keeps_through c.args.table.now c.loop-i.table c.place_in.new.table c.enter_more.new.self c.loop-i.invariant.0 c.in_ok-ty.ensures.kept c.in_ok-list-2.ensures.kept,
      key_more c.loop-i.table c.place_in.new.table c.enter_more.new.self c.as_slice-items.result.now c.loop-i.i c.loop-i.list c.in_ok-ty.ty c.in_ok-list-2.list
          c.index-items-i.result c.in_ok-ty.ensures.kept some bound c.index-items-i.is c.loop-i.invariant.1 c.in_ok-ty.ensures.place c.in_ok-list-2.ensures.place,
    )
