use Rattle.std.proofs.Common.{◌∙◌, sym, arith, length, ◌<◌}
use Rattle.cg_cmachine_layout.proofs.Members.{is_member, no_member, no_struct, part_within, row_within}
use Rattle.cg_cmachine_layout.proofs.structs.Structs.member.Goals as goal

pub returns-in_default-find : goal.returns-in_default-find
returns-in_default-find c =
    rw (c.in-Struct.is, ← c.self.view_is)
    (no_struct c.self.inside.structs.now c.self.inside.names c.self.inside.sizes.items c.self.inside.rows.items c.self.invariant c.in-Struct.name_of_struct c.in-Struct.field-1 c.args.name.now
    (sym c.find.ensures ∙ c.in_default-find.is))

pub index-row-requires : goal.index-row-requires
index-row-requires c =
    let within : c.in-Some.at < length c.self.inside.rows.items =
    row_within c.self.inside.structs.now c.self.inside.names c.self.inside.sizes.items c.self.inside.rows.items c.self.invariant c.in-Struct.name_of_struct.now c.in-Some.at (sym c.find.ensures ∙ c.in-Some.is) in
    grind arith

pub returns-in_default-find-2 : goal.returns-in_default-find-2
returns-in_default-find-2 c =
    rw (c.in-Struct.is, ← c.self.view_is)
    (no_member c.self.inside.structs.now c.self.inside.names c.self.inside.sizes.items c.self.inside.rows.items c.self.invariant c.in-Struct.name_of_struct c.in-Struct.field-1 c.in-Some.at
    (sym c.find.ensures ∙ c.in-Some.is) c.index-row.result.now c.index-row.ensures c.args.name.now (sym c.find-2.ensures ∙ c.in_default-find-2.is))

pub index-requires : goal.index-requires
index-requires c =
    let within : c.in-Some-find.place < length c.index-row.result.now.parts.items =
    part_within c.self.inside.structs.now c.self.inside.names c.self.inside.sizes.items c.self.inside.rows.items c.self.invariant c.in-Struct.name_of_struct c.in-Struct.field-1 c.in-Some.at
    (sym c.find.ensures ∙ c.in-Some.is) c.index-row.result.now c.index-row.ensures c.args.name.now c.in-Some-find.place (sym c.find-2.ensures ∙ c.in-Some-find.is) in
    grind arith

pub returns : goal.returns
returns c =
    rw (c.in-Struct.is, ← c.self.view_is)
    (is_member c.self.inside.structs.now c.self.inside.names c.self.inside.sizes.items c.self.inside.rows.items c.self.invariant c.in-Struct.name_of_struct c.in-Struct.field-1 c.in-Some.at
    (sym c.find.ensures ∙ c.in-Some.is) c.index-row.result.now c.index-row.ensures c.args.name.now c.in-Some-find.place c.index.result.now (sym c.find-2.ensures ∙ c.in-Some-find.is) c.index.ensures)
