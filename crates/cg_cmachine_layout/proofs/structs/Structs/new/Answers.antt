use Rattle.std.proofs.Common.{◌∙◌, sym, ap, replicate}
use Rattle.std.proofs.lemmas.List.{length-map}
use Rattle.cg_cmachine_layout.specs.Tables.{sized, slices}
use Rattle.cg_cmachine_layout.proofs.Members.{is_table}
use Rattle.cg_cmachine_layout.proofs.structs.Structs.new.Goals as goal

pub invariant_of-result : goal.invariant_of-result
invariant_of-result c =
    is_table c.args.structs.now c.in_ok-names.names (slices c.in_ok-settled.settled.members.items) c.in_ok-settled.settled.order.items c.in_ok-sizes.sizes.items c.in_ok-rows.rows.items
    c.in_ok-names.ensures c.in_ok-settled.ensures
    (c.in_ok-sizes.ensures
    ∙ ap (λ n. sized c.in_ok-names.names (slices c.in_ok-settled.settled.members.items) (replicate n 0) c.in_ok-settled.settled.order.items)
    (sym (length-map c.in_ok-settled.settled.members.items (λ m. m.now))))
    (rw (c.as_slice.ensures.value, c.as_slice-2.ensures.value) at c.in_ok-rows.ensures)
