use Rattle.std.proofs.Common.{ltb-true, arith, ◌<◌}
use Rattle.cg_lower_def.specs.CTypes.{form}
use Rattle.cg_inst_types.specs.Places.{type_at}
use Rattle.cg_lower_tables.proofs.Numbers.{in_below}
use Rattle.cg_lower_tables.proofs.structs.Structs.has.Goals as goal

pub returns-clause-yes : goal.returns-clause-yes
returns-clause-yes c e =
    in_below c.args.self.now.table (form (type_at c.args.self.now.types c.args.at))
    (let is = c.number.ensures in let len = c.len.ensures in let lt : c.number.result < c.len.result = ltb-true _ _ e in omega (arith, is, len, lt))
