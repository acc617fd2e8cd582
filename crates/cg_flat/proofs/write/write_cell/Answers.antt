use Rattle.std.proofs.Common.{◌≡◌, length, refl, ap, arith}
use Rattle.cg_flat.proofs.Cells.{shape_slots}
use Rattle.cg_flat.proofs.write.write_cell.Goals as goal

pub write_slots-requires : goal.write_slots-requires
write_slots-requires c =
    let long = shape_slots c.args.cell.now c.in-Slots.slots (length c.in-Slots.slots) c.in-Slots.is refl in
    let same : length c.as_slice.result.now ≡ length c.in-Slots.slots = ap length c.as_slice.ensures in
    let fits = c.requires in
    omega arith
