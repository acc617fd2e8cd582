use Rattle.std.proofs.Common.{◌≡◌, [], ◌∷◌, ◌++◌, length, subst, sym, true, arith}
use Rattle.cg_lower_def.specs.CTypes.{form}
use Rattle.cg_lower_def.specs.Structs.{HasBelow, is_in}
use Rattle.cg_inst_types.specs.Places.{Keeps, type_at}
use Rattle.cg_lower_tables.specs.Tables.{IsFor, IsPlainAt, table_of}
use Rattle.cg_lower_tables.proofs.Rows.{absent_where, grown_new, in_new, keeps_new, sound_new}
use Rattle.cg_lower_tables.proofs.structs.Structs.push.Goals as goal

pub invariant_of-self-2 : goal.invariant_of-self-2
invariant_of-self-2 c =
    sound_new c.self.inside.types c.self.inside.rows.entries c.self.invariant c.args.at c.args.row
    (subst (λ s. IsPlainAt s.types c.args.at) (sym c.self.view_is) c.requires.plain) c.stands_once.ensures
    (absent_where c.self.inside.types c.self.inside.rows.entries c.args.self.now c.self.view_is c.args.at c.requires.absent) c.insert.new.self.entries c.in_ok-insert.ensures.entries
    (subst (λ s. IsFor s.types c.args.row (type_at s.types c.args.at)) (sym c.self.view_is) c.requires.for_type)
    (subst (λ s. HasBelow s.table (length s.table) (type_at s.types c.args.at)) (sym c.self.view_is) c.requires.below)
    (let room = c.if-len-ge-MOST.false in let len = c.len.ensures.len in omega (arith, room, len))

pub returns-clause-held : goal.returns-clause-held
returns-clause-held c =
    subst (λ s. is_in (table_of c.self.inside.types c.insert.new.self.entries) (form (type_at s.types c.args.at)) ≡ true) c.self.view_is
    (in_new c.self.inside.types c.self.inside.rows.entries c.self.invariant c.args.at c.args.row
    (subst (λ s. IsPlainAt s.types c.args.at) (sym c.self.view_is) c.requires.plain) c.stands_once.ensures
    (absent_where c.self.inside.types c.self.inside.rows.entries c.args.self.now c.self.view_is c.args.at c.requires.absent) c.insert.new.self.entries c.in_ok-insert.ensures.entries)

pub returns-clause-kept : goal.returns-clause-kept
returns-clause-kept c =
    subst (λ s. Keeps s.table (table_of c.self.inside.types c.insert.new.self.entries)) c.self.view_is
    (keeps_new c.self.inside.types c.self.inside.rows.entries c.self.invariant c.args.at c.args.row
    (subst (λ s. IsPlainAt s.types c.args.at) (sym c.self.view_is) c.requires.plain) c.stands_once.ensures
    (absent_where c.self.inside.types c.self.inside.rows.entries c.args.self.now c.self.view_is c.args.at c.requires.absent) c.insert.new.self.entries c.in_ok-insert.ensures.entries)

pub returns-clause-grown : goal.returns-clause-grown
returns-clause-grown c =
    subst (λ s. table_of c.self.inside.types c.insert.new.self.entries ≡ s.table ++ type_at s.types c.args.at ∷ []) c.self.view_is
    (grown_new c.self.inside.types c.self.inside.rows.entries c.self.invariant c.args.at c.args.row
    (subst (λ s. IsPlainAt s.types c.args.at) (sym c.self.view_is) c.requires.plain) c.stands_once.ensures
    (absent_where c.self.inside.types c.self.inside.rows.entries c.args.self.now c.self.view_is c.args.at c.requires.absent) c.insert.new.self.entries c.in_ok-insert.ensures.entries)
