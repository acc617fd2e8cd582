use Rattle.std.proofs.Common.{rules, arith, ◌≡◌, ◌≤◌, map, Bor, IfOk, sym, subst}
use Rattle.cg_base.specs.Types.{type_of}
use Rattle.cg_surface.specs.declared.written.SAlt.{SAlt, size-SAlt, size_is-SAlt}
use Rattle.cg_resolve_declared.specs.Tables.{texts}
use Rattle.cg_resolve_expand.specs.Alternatives.{alts_in_order}
use Rattle.cg_resolve_expand.specs.Known.{known_of}
use Rattle.cg_resolve_expand.proofs.ExpandSteps.{expanded_name}
use Rattle.cg_resolve_expand.proofs.OrderSteps.{size_in_order}
use denote.Param.Weighed.{most}
use Rattle.cg_resolve_expand.proofs.expand.+expand.Goals as goal

pub expand_choices-expand_payload-requires : goal.expand_choices-expand_payload-requires
expand_choices-expand_payload-requires t c =
    let same : map (λ (choice : Bor SAlt). choice.now) c.deref-choice-items.result.now ≡ alts_in_order c.args.choices.now = search rules in
    let no_larger : size-SAlt c.choice-item.result.now ≤ most size-SAlt c.args.choices.now =
    size_in_order c.args.choices.now c.deref-choice-items.result.now c.loop-choice.choice-index c.choice-item.result same c.loop-choice-test.true c.choice-item.is in
    (omega (arith, no_larger, size_is-SAlt c.choice-item.result.now, c.decreases), tt)

pub written_type-returns-in-Name : goal.written_type-returns-in-Name
written_type-returns-in-Name t c =
    subst (λ w. IfOk c.expand_name.result (λ u. type_of u ≡ w)) (sym (expanded_name (known_of c.args.synonyms.now) (texts c.args.vars.now) c.args.ty.now c.in-Name.name c.in-Name.args c.in-Name.is)) c.expand_name.ensures
