use Rattle.std.proofs.Common.{ap, subst, sym, ◌∙◌}
use Rattle.cg_graphs.specs.Orders.{lists}
use Rattle.cg_lower_nodes.specs.Kept.{Kept, kept_of}
use Rattle.cg_lower.specs.Calls.{AreApart}
use Rattle.cg_lower_tables.specs.Found.{Known}
use Rattle.cg_graphs.specs.Ranks.{in_order}
use Rattle.cg_lower.proofs.ProgramSteps.{program_is, program_prints, program_simulates}
use Rattle.cg_lower.proofs.program.lower.Goals as goal

pub tags-requires : goal.tags-requires
tags-requires c =
    record {
      apart = subst AreApart
          (sym (ap (λ (p : Known). p.arrows) c.calls.ensures.kept ∙ ap (λ (k : Kept). k.arrows) c.start-state.ensures))
          c.in_ok-collected.ensures.apart;
    }

pub returns-clause-made : goal.returns-clause-made
returns-clause-made c =
    let collected = c.in_ok-collected.collected in
    let table = c.start-state.result.structs.table in
    let kept = ap (λ (p : Known). record { table = table; list = p.list; arrows = p.arrows }) (c.tags.ensures.kept ∙ c.calls.ensures.kept) ∙ c.start-state.ensures in
    let places = ap (λ (k : Kept). record { list = k.list; arrows = k.arrows }) c.start-state.ensures in
    program_is c.args.mono.now collected c.in_ok-collected.ensures (record { table = table; list = c.tags.new.places.list; arrows = c.tags.new.places.arrows }) kept
    (kept_of c.functions.new.state) c.in_ok-funs.ensures.kept c.start-state.result.places places (lists c.in_ok-edges.edges.items) c.as_slice-3.result.now _ _ c.in_ok-edges.ensures.edges
    (c.as_slice-3.ensures.value ∙ c.in_ok-order.ensures ∙ ap (λ es. in_order (lists es)) c.as_slice.ensures.value) c.in_ok-funs.ensures.functions c.in_ok-declarations.ensures

pub returns-clause-simulates : goal.returns-clause-simulates
returns-clause-simulates c =
    let collected = c.in_ok-collected.collected in
    let table = c.start-state.result.structs.table in
    let kept = ap (λ (p : Known). record { table = table; list = p.list; arrows = p.arrows }) (c.tags.ensures.kept ∙ c.calls.ensures.kept) ∙ c.start-state.ensures in
    let places = ap (λ (k : Kept). record { list = k.list; arrows = k.arrows }) c.start-state.ensures in
    program_simulates c.args.mono.now collected c.in_ok-collected.ensures (record { table = table; list = c.tags.new.places.list; arrows = c.tags.new.places.arrows }) kept
    (kept_of c.functions.new.state) c.in_ok-funs.ensures.kept c.start-state.result.places places (lists c.in_ok-edges.edges.items) c.as_slice-3.result.now _ _ c.in_ok-edges.ensures.edges
    (c.as_slice-3.ensures.value ∙ c.in_ok-order.ensures ∙ ap (λ es. in_order (lists es)) c.as_slice.ensures.value) c.in_ok-funs.ensures.functions c.in_ok-declarations.ensures
    c.in_ok-funs.ensures.few c.is_table.ensures c.len-few.ensures.few

pub returns-clause-printable : goal.returns-clause-printable
returns-clause-printable c =
    let collected = c.in_ok-collected.collected in
    let table = c.start-state.result.structs.table in
    let kept = ap (λ (p : Known). record { table = table; list = p.list; arrows = p.arrows }) (c.tags.ensures.kept ∙ c.calls.ensures.kept) ∙ c.start-state.ensures in
    let places = ap (λ (k : Kept). record { list = k.list; arrows = k.arrows }) c.start-state.ensures in
    program_prints c.args.mono.now collected c.in_ok-collected.ensures (record { table = table; list = c.tags.new.places.list; arrows = c.tags.new.places.arrows }) kept
    (kept_of c.functions.new.state) c.in_ok-funs.ensures.kept c.start-state.result.places places (lists c.in_ok-edges.edges.items) c.as_slice-3.result.now _ _ c.in_ok-edges.ensures.edges
    (c.as_slice-3.ensures.value ∙ c.in_ok-order.ensures ∙ ap (λ es. in_order (lists es)) c.as_slice.ensures.value) c.in_ok-funs.ensures.functions c.in_ok-declarations.ensures
    c.in_ok-funs.ensures.few c.is_table.ensures c.len-few.ensures.few
