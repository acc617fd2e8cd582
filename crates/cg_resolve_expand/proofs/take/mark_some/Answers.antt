use Rattle.std.proofs.Common.{rules}
use Rattle.cg_base.proofs.Lists.{changed_more}
use Rattle.cg_base.specs.Types.{part_of}
use Rattle.cg_resolve_expand.specs.Taken.{names_in, taken_piece}
use Rattle.cg_resolve_expand.proofs.take.mark_some.Goals as goal

pub loop-i-preserved : goal.loop-i-preserved
loop-i-preserved c = changed_more part_of (taken_piece (names_in c.args.names.now)) _ _ _ _ _ c.loop-i-test.true c.loop-i.auto.items c.index-items-i.is (search rules) c.loop-i.invariant
