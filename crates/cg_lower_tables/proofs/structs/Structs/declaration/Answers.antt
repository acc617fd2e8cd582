use Rattle.std.proofs.Common.{sym}
use Rattle.cg_inst_types.specs.Places.{type_at}
use Rattle.cg_lower_tables.proofs.Declared.{struct_is}
use Rattle.cg_lower_tables.proofs.Rows.{row_for}
use Rattle.cg_lower_tables.proofs.structs.Structs.declaration.Goals as goal

pub members-requires : goal.members-requires
members-requires c = (
  type_at c.args.self.now.table c.args.number,
  row_for c.self.inside.types c.self.inside.rows.entries c.self.invariant c.args.self.now c.self.view_is c.args.number c.in-Some.field-0-0.now c.in-Some.row.now (sym c.in-Some.ensures.entry),
)

pub returns-in_ok-numbered-in-Some : goal.returns-in_ok-numbered-in-Some
returns-in_ok-numbered-in-Some c =
    struct_is c.args.self.now.table c.args.number c.in_ok-numbered-in-Some.field-0 c.in_ok-members-in-Some.field-0 c.in_ok-numbered-in-Some.ensures
    (c.in_ok-members-in-Some.ensures (type_at c.args.self.now.table c.args.number)
    (row_for c.self.inside.types c.self.inside.rows.entries c.self.invariant c.args.self.now c.self.view_is c.args.number c.in-Some.field-0-0.now c.in-Some.row.now (sym c.in-Some.ensures.entry)))
