use Rattle.std.proofs.Common.{nat_le, position, sym, ap, ◌∙◌}
use Rattle.cg_flat.specs.declared.span.Hole.{Hole}
use Rattle.cg_flat.proofs.Rooms.{left_none}
use Rattle.cg_flat.proofs.room.fill_first.Goals as goal

pub returns-in-None-clause-holes : goal.returns-in-None-clause-holes
returns-in-None-clause-holes c =
    left_none c.args.count c.args.holes.now.items (ap (position (λ (h : Hole). nat_le c.args.count h.count)) (sym c.as_slice.ensures.value) ∙ sym c.first_with_room.ensures ∙ c.in-None.is)
