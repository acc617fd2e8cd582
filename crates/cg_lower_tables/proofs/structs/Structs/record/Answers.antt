use Rattle.std.proofs.Common.{sym, subst}
use Rattle.cg_base.specs.Types.{fields}
use Rattle.cg_lower_tables.specs.declared.members.Shape.TheVariants.{Struct}
use Rattle.cg_lower_tables.specs.Tables.{IsMember}
use Rattle.cg_lower_tables.proofs.Visits.{boxed_at, boxed_member, place_stays, record_member}
use Rattle.cg_lower_tables.proofs.structs.Structs.record.Goals as goal

pub returns-in-U-clause-member : goal.returns-in-U-clause-member
returns-in-U-clause-member c ps are e =
    subst (λ s. IsMember c.args.self.now.types (record { at = c.args.at; shape = Struct }) (fields ps s)) (sym c.in-U.is) (record_member c.args.self.now.types c.args.at ps e)

pub returns-in_ok-layer-in_default-clause-member : goal.returns-in_ok-layer-in_default-clause-member
returns-in_ok-layer-in_default-clause-member c ps are e =
    let old = c.args.self.now.types in let new = c.layer.new.self.types in let kept = c.layer.ensures.kept in let boxed = c.in_ok-layer-in_default.field-0 in
    boxed_member new c.args.at boxed ps (place_stays old new kept c.args.at _ e) (boxed_at old new kept c.args.members.now ps are boxed c.in_ok-layer-in_default.ensures.place) c.args.sigil c.in_default.not-U
