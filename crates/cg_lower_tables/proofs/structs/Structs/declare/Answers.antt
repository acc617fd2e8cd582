use Rattle.cg_lower_def.specs.Structs.{numbered_in}
use Rattle.cg_lower_tables.proofs.Declared.{declared_pushed, members_at}
use Rattle.cg_lower_tables.proofs.structs.Structs.declare.Goals as goal

pub shown-requires-clause-at : goal.shown-requires-clause-at
shown-requires-clause-at c = (members_at c.args.self.now.types c.args.members.now c.requires.0 c.requires.1 c.loop-i.i _ c.loop-i-test.true).0

pub shown-requires-clause-to : goal.shown-requires-clause-to
shown-requires-clause-to c = (members_at c.args.self.now.types c.args.members.now c.requires.0 c.requires.1 c.loop-i.i _ c.loop-i-test.true).1

pub loop-i-preserved : goal.loop-i-preserved
loop-i-preserved c =
    declared_pushed c.args.self.now.types (numbered_in c.args.self.now.table) c.args.letter c.args.members.now c.loop-i.i _ c.args.decls.now c.loop-i.decls c.push.new.self c.in_ok-ty.ty c.in_ok-name.name
    c.loop-i-test.true c.in_ok-push.ensures.ok c.loop-i.invariant c.in_ok-ty.ensures c.in_ok-name.ensures
