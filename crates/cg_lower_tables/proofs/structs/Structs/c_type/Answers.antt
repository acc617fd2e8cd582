use Rattle.cg_base.specs.Types.{type_of}
use Rattle.cg_lower_tables.proofs.Declared.{at_plain}
use Rattle.cg_lower_tables.proofs.structs.Structs.c_type.Goals as goal

pub shown-requires-clause-at : goal.shown-requires-clause-at
shown-requires-clause-at c = at_plain c.visit.new.self.types c.in_ok-member.member (type_of c.args.ty.now) c.in_ok-member.ensures.member
