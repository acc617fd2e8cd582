use Rattle.std.proofs.Common.{◌≡◌, ◌∷◌, zero, ◌∙◌, ap}
use Rattle.cg_base.specs.declared.kind.Word.TheVariants.{U32}
use Rattle.cg_base.specs.Types.{Tau}
use Rattle.cg_ctree.specs.declared.tree.CTy.TheVariants as ty
use Rattle.cg_cgen_def.specs.Names.{declared, tag_name}
use Rattle.cg_lower_def.specs.Structs.{numbered_in, struct_members}
use Rattle.cg_lower_tables.specs.Tables.{declared_from, IsFor}
use Rattle.cg_lower_tables.proofs.Declared.{members_of, of_record, of_variant}
use Rattle.cg_lower_tables.proofs.structs.Structs.members.Goals as goal

pub returns-then-row : goal.returns-then-row
returns-then-row c =
    members_of c.variant_members.result _ (λ ds. (t : Tau) → IsFor c.args.self.now.types c.args.row.now t → ds ≡ struct_members c.args.self.now.table t)
    (λ ds e. of_variant c.args.self.now.types c.args.self.now.table c.args.row.now c.if-row.true ds
    (e ∙ ap (λ ms. declared (ty.Word U32) tag_name ∷ declared_from c.args.self.now.types (numbered_in c.args.self.now.table) 97 zero ms) c.as_slice-members.ensures)) c.variant_members.ensures

pub returns : goal.returns
returns c =
    members_of c.record_members.result _ (λ ds. (t : Tau) → IsFor c.args.self.now.types c.args.row.now t → ds ≡ struct_members c.args.self.now.table t)
    (λ ds e. of_record c.args.self.now.types c.args.self.now.table c.args.row.now c.if-row.false ds
    (e ∙ ap (declared_from c.args.self.now.types (numbered_in c.args.self.now.table) 109 zero) c.as_slice-members.ensures)) c.record_members.ensures
