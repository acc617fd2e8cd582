use Rattle.std.proofs.Common.{◌<◌, length, arith}
use Rattle.std.proofs.lemmas.Grind.{common_steps}
use Rattle.std.specs.Prelude.{map}
use Rattle.cg_base.specs.Types.{type_of, part_of}
use Rattle.cg_base.specs.declared.ty.Ty.{the_lemmas}
use Rattle.cg_base.proofs.Views.{map_at, taus_same, parts_same}
use Rattle.cg_kinds.proofs.equality.+same.Goals as goal

pub same_parts-returns-then-not-same_part : goal.same_parts-returns-then-not-same_part
same_parts-returns-then-not-same_part t c =
    let in_range : c.loop-i.i < length c.as_slice-xs.result.now = c.loop-i-test.true in
    let at = map_at part_of c.args.a.now c.args.b.now c.loop-i.i c.index-xs-i.result c.index-ys-i.result in
    grind (arith, common_steps, at)

pub same_types-returns-then-not-same : goal.same_types-returns-then-not-same
same_types-returns-then-not-same t c =
    let at = map_at type_of c.args.a.now c.args.b.now c.loop-i.i c.index-xs-i.result c.index-ys-i.result in
    grind (arith, common_steps, at)

pub same-returns-then-same-2 : goal.same-returns-then-same-2
same-returns-then-same-2 t c = grind (arith, the_lemmas, taus_same (map type_of c.in-Abs.args) (map type_of c.in-Abs-b.other_args))

pub same-returns-in-Variant-b : goal.same-returns-in-Variant-b
same-returns-in-Variant-b t c =
    grind (arith, the_lemmas, parts_same (map part_of c.in-Variant.parts) (map part_of c.in-Variant-b.other_parts))

pub same-returns-then-eq-2 : goal.same-returns-then-eq-2
same-returns-then-eq-2 t c =
    grind (arith, the_lemmas, parts_same (map part_of c.in-Fields.parts) (map part_of c.in-Fields-b.other_parts))
