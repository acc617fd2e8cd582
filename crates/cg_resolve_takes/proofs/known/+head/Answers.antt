use Rattle.std.proofs.Common.{◌≡◌, Bor, Some, map, sym, ap, ◌∙◌}
use Rattle.std.proofs.lemmas.Result.{IfOk-weaker}
use Rattle.std.specs.Option.{option_map, option_copied}
use Rattle.cg_resolve_def.specs.Declared.{is_among}
use Rattle.cg_resolve_def.proofs.TypesCounted.{types_counted}
use Rattle.cg_surface.specs.Written.{to_types, written_of}
use Rattle.cg_resolve_takes.specs.Heads.{record_of, component_names, head_of, heads_of, head_by_name}
use Rattle.cg_resolve_takes.specs.declared.head.TypeHead.{TypeHead}
use Rattle.cg_resolve_takes.specs.Views.{head_view, heads_in}
use Rattle.cg_resolve_takes.proofs.HeadSteps.{tuple_is, by_argument}
use Rattle.cg_resolve_takes.proofs.known.+head.Goals as goal

pub head-returns-in-Tuple : goal.head-returns-in-Tuple
head-returns-in-Tuple t c =
    ap (λ n. record_of (is_among (component_names n))) (c.len.ensures ∙ sym (types_counted c.in-Tuple.types))
    ∙ ap (head_of (heads_in c.args.table.now) (map (λ at. at.name) c.args.params.now)) (sym (tuple_is c.args.ty.now c.in-Tuple.types c.in-Tuple.is))

pub named-returns-in-Some : goal.named-returns-in-Some
named-returns-in-Some t c =
    let heads = heads_in c.args.table.now in
    let params = map (λ at. at.name) c.args.params.now in
    IfOk-weaker c.head.result (λ h. head_view h ≡ head_of heads params (written_of c.in-Some.argument.now))
    (λ h. head_view h ≡ head_by_name heads params c.args.name.now (heads_of heads params (to_types (map written_of c.args.args.now))))
    (λ h e. e ∙ sym (by_argument heads params c.args.name.now c.args.args.now c.in-Some-Parameter.at (Some c.in-Some.argument.now)
    (sym c.is_variable.ensures ∙ c.if-is_variable.false)
    (sym c.head_by_name.ensures ∙ ap (option_map (λ (h : Bor TypeHead). head_view h.now)) c.in-Some-Parameter.is ∙ ap (λ h. Some (head_view h)) c.in-Some-Parameter.field-0-is)
    (sym c.get.ensures.value ∙ ap option_copied c.in-Some.is))) c.head.ensures
