use Rattle.std.proofs.Common.{◌≡◌, subst}
use Rattle.std.specs.Prelude.{OnOk}
use Rattle.cg_inst_types.specs.Places.{type_at}
use Rattle.cg_lower_tables.proofs.Numbers.{with_more, with_there}
use Rattle.cg_lower_tables.proofs.structs.Structs.keep.Goals as goal

pub returns-then-has-clause-grown : goal.returns-then-has-clause-grown
returns-then-has-clause-grown c = with_there c.args.self.now.table (type_at c.args.self.now.types c.args.at) (c.has.ensures.yes c.if-has.true)

pub returns-clause-grown : goal.returns-clause-grown
returns-clause-grown c =
    subst (λ ts. OnOk c.push.result (c.push.new.self.table ≡ ts)) (with_more c.args.self.now.table (type_at c.args.self.now.types c.args.at) (c.has.ensures.no c.if-has.false)) c.push.ensures.grown
