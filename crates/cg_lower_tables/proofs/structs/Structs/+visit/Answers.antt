use Rattle.std.proofs.Common.{◌+◌, ◌<◌, map, length, take, refl, sym, subst, ap, ◌∙◌, Some, arith}
use Rattle.cg_base.specs.Types.{end, fields, part_of, to_parts, variant}
use Rattle.cg_base.specs.declared.kind.Sigil.TheVariants.{U}
use Rattle.cg_inst.proofs.Standing.{keeps_on}
use Rattle.cg_lower_def.specs.Structs.{AreCovered, IsCovered}
use Rattle.cg_lower_tables.specs.declared.members.Shape.TheVariants.{Struct}
use Rattle.cg_lower_tables.specs.Added.{added}
use Rattle.cg_lower_tables.specs.Tables.{AreMembers, IsMember, parts_at}
use Rattle.cg_lower_tables.proofs.Growth.{is_plain, members_stay}
use Rattle.cg_lower_tables.proofs.Numbers.{keeps_self}
use Rattle.cg_lower_tables.proofs.Visits.{covered_more, few_parts, few_visited, for_record, for_variant, grown_more, place_stays, record_at, record_below, record_covered, record_grown, variant_at, variant_below, variant_covered, variant_grown, variant_member, visited_more}
use Rattle.cg_lower_tables.proofs.structs.Structs.+visit.Goals as goal

pub visit_parts-loop-part-init : goal.visit_parts-loop-part-init
unfolding to_parts IsCovered added
visit_parts-loop-part-init t c =
    (subst (λ ms. AreMembers c.args.self.now.types ms end) (sym c.new-members.ensures) tt, λ adds. tt, keeps_self c.args.self.now.types, keeps_self c.args.self.now.table, λ e. refl, λ adds. refl)

pub visit_parts-loop-part-preserved : goal.visit_parts-loop-part-preserved
visit_parts-loop-part-preserved t c =
    let xs = c.as_slice-part-items.result.now in let i = c.loop-part.part-index in let x = c.part-item.result in
    let within : i < length xs = let test = c.loop-part-test.true in omega (arith, test) in
    let parts = to_parts (map part_of (take (i + 1) xs)) in (
      subst (λ ms. AreMembers c.visit.new.self.types ms parts) (sym c.in_ok-push.ensures.ok)
          (visited_more c.loop-part.self.types c.visit.new.self.types c.in_ok-visit.ensures.types xs i x within c.part-item.is c.loop-part.members c.in_ok-visit.field-0 c.loop-part.invariant.0 c.in_ok-visit.ensures.member),
      λ adds. covered_more c.loop-part.self.table c.visit.new.self.table c.in_ok-visit.ensures.kept xs i x within c.part-item.is (c.loop-part.invariant.1 adds) (c.in_ok-visit.ensures.covered adds),
      keeps_on c.args.self.now.types c.loop-part.self.types c.visit.new.self.types c.loop-part.invariant.2 c.in_ok-visit.ensures.types,
      keeps_on c.args.self.now.table c.loop-part.self.table c.visit.new.self.table c.loop-part.invariant.3 c.in_ok-visit.ensures.kept,
      λ e. c.in_ok-visit.ensures.unchanged e ∙ c.loop-part.invariant.4 e,
      λ adds. grown_more c.loop-part.self.table c.visit.new.self.table c.in_ok-visit.ensures.kept xs i x within c.part-item.is c.args.self.now.table (c.loop-part.invariant.5 adds) (c.in_ok-visit.ensures.grown adds),
    )

pub visit_parts-returns-clause-few : goal.visit_parts-returns-clause-few
visit_parts-returns-clause-few t c =
    few_visited c.loop-part.self.types c.loop-part.members c.as_slice-part-items.result.now c.loop-part.part-index c.loop-part.invariant.0
    (let few = c.if-len-gt-WIDEST.false in let len = c.len.ensures in let same = ap length c.as_slice-part-items.ensures in omega (arith, few, len, same))

pub visit_variant-keep_if-requires-clause-plain : goal.visit_variant-keep_if-requires-clause-plain
visit_variant-keep_if-requires-clause-plain t c =
    let ps = to_parts (map part_of c.args.parts.now) in
    let place = c.in_ok-at.ensures.place ∙ ap (λ ms. Some (variant (parts_at c.visit_parts.new.self.types ms))) c.as_slice.ensures in
    is_plain c.layer.new.self.types c.in_ok-at.at (variant ps)
    (variant_at c.visit_parts.new.self.types c.layer.new.self.types c.in_ok-at.ensures.kept c.in_ok-members.members ps c.in_ok-members.ensures.members c.in_ok-at.at place)

pub visit_variant-keep_if-requires-clause-for_type : goal.visit_variant-keep_if-requires-clause-for_type
visit_variant-keep_if-requires-clause-for_type t c =
    let ps = to_parts (map part_of c.args.parts.now) in
    let place = c.in_ok-at.ensures.place ∙ ap (λ ms. Some (variant (parts_at c.visit_parts.new.self.types ms))) c.as_slice.ensures in
    let at = variant_at c.visit_parts.new.self.types c.layer.new.self.types c.in_ok-at.ensures.kept c.in_ok-members.members ps c.in_ok-members.ensures.members c.in_ok-at.at place in
    for_variant c.visit_parts.new.self.types c.layer.new.self.types c.in_ok-at.ensures.kept c.in_ok-members.members ps c.in_ok-members.ensures.members c.in_ok-at.at at

pub visit_variant-keep_if-requires-clause-below : goal.visit_variant-keep_if-requires-clause-below
visit_variant-keep_if-requires-clause-below t c adds =
    let ps = to_parts (map part_of c.args.parts.now) in
    let place = c.in_ok-at.ensures.place ∙ ap (λ ms. Some (variant (parts_at c.visit_parts.new.self.types ms))) c.as_slice.ensures in
    let at = variant_at c.visit_parts.new.self.types c.layer.new.self.types c.in_ok-at.ensures.kept c.in_ok-members.members ps c.in_ok-members.ensures.members c.in_ok-at.at place in
    variant_below c.layer.new.self.types c.layer.new.self.table ps c.in_ok-at.at at (subst (λ b. AreCovered b ps) (sym c.in_ok-at.ensures.table) (c.in_ok-members.ensures.covered adds))

pub visit_variant-returns-clause-member : goal.visit_variant-returns-clause-member
visit_variant-returns-clause-member t c =
    let ps = to_parts (map part_of c.args.parts.now) in
    let place = c.in_ok-at.ensures.place ∙ ap (λ ms. Some (variant (parts_at c.visit_parts.new.self.types ms))) c.as_slice.ensures in
    let at = variant_at c.visit_parts.new.self.types c.layer.new.self.types c.in_ok-at.ensures.kept c.in_ok-members.members ps c.in_ok-members.ensures.members c.in_ok-at.at place in
    subst (λ ts. IsMember ts (record { at = c.in_ok-at.at; shape = Struct }) (variant ps)) (sym c.in_ok-keep_if.ensures.types) (variant_member c.layer.new.self.types c.in_ok-at.at ps at)

pub visit_variant-returns-clause-covered : goal.visit_variant-returns-clause-covered
visit_variant-returns-clause-covered t c adds =
    let ps = to_parts (map part_of c.args.parts.now) in
    let place = c.in_ok-at.ensures.place ∙ ap (λ ms. Some (variant (parts_at c.visit_parts.new.self.types ms))) c.as_slice.ensures in
    let at = variant_at c.visit_parts.new.self.types c.layer.new.self.types c.in_ok-at.ensures.kept c.in_ok-members.members ps c.in_ok-members.ensures.members c.in_ok-at.at place in
    variant_covered c.layer.new.self.types c.layer.new.self.table ps c.in_ok-at.at c.keep_if.new.self.table c.in_ok-keep_if.ensures.kept
    (subst (λ b. AreCovered b ps) (sym c.in_ok-at.ensures.table) (c.in_ok-members.ensures.covered adds))
    (few_parts c.visit_parts.new.self.types c.in_ok-members.members ps c.in_ok-members.ensures.members c.in_ok-members.ensures.few) at (c.in_ok-keep_if.ensures.held adds)

pub visit_record-keep_if-requires-clause-plain : goal.visit_record-keep_if-requires-clause-plain
visit_record-keep_if-requires-clause-plain t c =
    let ps = to_parts (map part_of c.args.parts.now) in
    let place = c.in_ok-at.ensures.place ∙ ap (λ ms. Some (fields (parts_at c.visit_parts.new.self.types ms) U)) c.as_slice.ensures in
    let at = record_at c.visit_parts.new.self.types c.layer.new.self.types c.in_ok-at.ensures.kept c.in_ok-members.members ps c.in_ok-members.ensures.members c.in_ok-at.at place in
    is_plain c.record.new.self.types c.in_ok-at.at (fields ps U) (place_stays c.layer.new.self.types c.record.new.self.types c.in_ok-member.ensures.types c.in_ok-at.at _ at)

pub visit_record-keep_if-requires-clause-for_type : goal.visit_record-keep_if-requires-clause-for_type
visit_record-keep_if-requires-clause-for_type t c =
    let ps = to_parts (map part_of c.args.parts.now) in
    let place = c.in_ok-at.ensures.place ∙ ap (λ ms. Some (fields (parts_at c.visit_parts.new.self.types ms) U)) c.as_slice.ensures in
    let at = record_at c.visit_parts.new.self.types c.layer.new.self.types c.in_ok-at.ensures.kept c.in_ok-members.members ps c.in_ok-members.ensures.members c.in_ok-at.at place in
    for_record c.visit_parts.new.self.types c.record.new.self.types (keeps_on c.visit_parts.new.self.types c.layer.new.self.types c.record.new.self.types c.in_ok-at.ensures.kept c.in_ok-member.ensures.types)
    c.in_ok-members.members ps c.in_ok-members.ensures.members c.in_ok-at.at (place_stays c.layer.new.self.types c.record.new.self.types c.in_ok-member.ensures.types c.in_ok-at.at _ at)

pub visit_record-keep_if-requires-clause-below : goal.visit_record-keep_if-requires-clause-below
visit_record-keep_if-requires-clause-below t c adds =
    let ps = to_parts (map part_of c.args.parts.now) in
    let place = c.in_ok-at.ensures.place ∙ ap (λ ms. Some (fields (parts_at c.visit_parts.new.self.types ms) U)) c.as_slice.ensures in
    let at = record_at c.visit_parts.new.self.types c.layer.new.self.types c.in_ok-at.ensures.kept c.in_ok-members.members ps c.in_ok-members.ensures.members c.in_ok-at.at place in
    record_below c.record.new.self.types c.record.new.self.table ps c.in_ok-at.at (place_stays c.layer.new.self.types c.record.new.self.types c.in_ok-member.ensures.types c.in_ok-at.at _ at)
    (subst (λ b. AreCovered b ps) (sym (c.in_ok-member.ensures.table ∙ c.in_ok-at.ensures.table)) (c.in_ok-members.ensures.covered adds))

pub visit_record-returns-clause-member : goal.visit_record-returns-clause-member
visit_record-returns-clause-member t c =
    let ps = to_parts (map part_of c.args.parts.now) in
    let place = c.in_ok-at.ensures.place ∙ ap (λ ms. Some (fields (parts_at c.visit_parts.new.self.types ms) U)) c.as_slice.ensures in
    let at = record_at c.visit_parts.new.self.types c.layer.new.self.types c.in_ok-at.ensures.kept c.in_ok-members.members ps c.in_ok-members.ensures.members c.in_ok-at.at place in
    let are = members_stay c.visit_parts.new.self.types c.layer.new.self.types c.in_ok-at.ensures.kept c.in_ok-members.members ps c.in_ok-members.ensures.members in
    subst (λ ts. IsMember ts c.in_ok-member.member (fields ps c.args.sigil)) (sym c.in_ok-keep_if.ensures.types)
    (c.in_ok-member.ensures.member ps (subst (λ ms. AreMembers c.layer.new.self.types ms ps) (sym c.as_slice-2.ensures) are) at)

pub visit_record-returns-clause-covered : goal.visit_record-returns-clause-covered
visit_record-returns-clause-covered t c adds =
    let ps = to_parts (map part_of c.args.parts.now) in
    let place = c.in_ok-at.ensures.place ∙ ap (λ ms. Some (fields (parts_at c.visit_parts.new.self.types ms) U)) c.as_slice.ensures in
    let at = record_at c.visit_parts.new.self.types c.layer.new.self.types c.in_ok-at.ensures.kept c.in_ok-members.members ps c.in_ok-members.ensures.members c.in_ok-at.at place in
    record_covered c.record.new.self.types c.record.new.self.table ps c.in_ok-at.at c.keep_if.new.self.table c.in_ok-keep_if.ensures.kept
    (subst (λ b. AreCovered b ps) (sym (c.in_ok-member.ensures.table ∙ c.in_ok-at.ensures.table)) (c.in_ok-members.ensures.covered adds))
    (few_parts c.visit_parts.new.self.types c.in_ok-members.members ps c.in_ok-members.ensures.members c.in_ok-members.ensures.few)
    c.args.sigil (place_stays c.layer.new.self.types c.record.new.self.types c.in_ok-member.ensures.types c.in_ok-at.at _ at) (c.in_ok-keep_if.ensures.held adds)

pub visit_variant-returns-clause-grown : goal.visit_variant-returns-clause-grown
visit_variant-returns-clause-grown t c adds =
    let ps = to_parts (map part_of c.args.parts.now) in
    let place = c.in_ok-at.ensures.place ∙ ap (λ ms. Some (variant (parts_at c.visit_parts.new.self.types ms))) c.as_slice.ensures in
    let at = variant_at c.visit_parts.new.self.types c.layer.new.self.types c.in_ok-at.ensures.kept c.in_ok-members.members ps c.in_ok-members.ensures.members c.in_ok-at.at place in
    variant_grown c.layer.new.self.types c.layer.new.self.table ps c.in_ok-at.at c.args.self.now.table c.keep_if.new.self.table
    (c.in_ok-at.ensures.table ∙ c.in_ok-members.ensures.grown adds) (c.in_ok-keep_if.ensures.grown adds) at

pub visit_record-returns-clause-grown : goal.visit_record-returns-clause-grown
visit_record-returns-clause-grown t c adds =
    let ps = to_parts (map part_of c.args.parts.now) in
    let place = c.in_ok-at.ensures.place ∙ ap (λ ms. Some (fields (parts_at c.visit_parts.new.self.types ms) U)) c.as_slice.ensures in
    let at = record_at c.visit_parts.new.self.types c.layer.new.self.types c.in_ok-at.ensures.kept c.in_ok-members.members ps c.in_ok-members.ensures.members c.in_ok-at.at place in
    record_grown c.record.new.self.types c.record.new.self.table ps c.in_ok-at.at c.args.self.now.table c.keep_if.new.self.table
    (c.in_ok-member.ensures.table ∙ c.in_ok-at.ensures.table ∙ c.in_ok-members.ensures.grown adds) (c.in_ok-keep_if.ensures.grown adds)
    c.args.sigil (place_stays c.layer.new.self.types c.record.new.self.types c.in_ok-member.ensures.types c.in_ok-at.at _ at)
