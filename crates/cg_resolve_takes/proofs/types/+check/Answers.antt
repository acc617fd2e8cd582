use Rattle.std.proofs.Common.{◌≡◌, ◌+◌, None, Some, [], map, take, sym, ap, ◌∙◌, subst}
use Rattle.std.proofs.lemmas.Result.{IfOk-weaker}
use Rattle.std.specs.List.{flat_map}
use Rattle.std.specs.Option.{option_map}
use Rattle.cg_resolve_def.specs.Declared.{is_among}
use Rattle.cg_resolve_def.proofs.TypesCounted.{types_counted}
use Rattle.cg_surface.specs.Written.{to_types, written_of}
use Rattle.cg_resolve_takes.proofs.GoesOn.{goes_more, goes_told}
use Rattle.cg_resolve_takes.proofs.HeadSteps.{tuple_is}
use Rattle.cg_resolve_takes.proofs.SaySteps.{shape_start, shape_turn}
use Rattle.cg_resolve_takes.proofs.TypeSteps.{chosen_goes, chosen_fields}
use Rattle.cg_resolve_takes.specs.Heads.{component_names, heads_of, shape_at, shape_of, chosen}
use Rattle.cg_resolve_takes.specs.Missing.{absent}
use Rattle.cg_resolve_takes.specs.Says.{GoesOn}
use Rattle.cg_resolve_takes.specs.Views.{heads_in, test_of}
use Rattle.cg_resolve_takes.proofs.types.+check.Goals as goal

pub in_type-returns-in-Tuple-clause-fields : goal.in_type-returns-in-Tuple-clause-fields
in_type-returns-in-Tuple-clause-fields t c =
    IfOk-weaker c.components.result (λ fields. option_map test_of fields ≡ Some (is_among (component_names c.len.result))) (λ fields. option_map test_of fields ≡ shape_of (heads_in c.args.table.now) (written_of c.args.ty.now))
    (λ fields is. is
    ∙ ap (λ n. Some (is_among (component_names n))) (c.len.ensures ∙ sym (types_counted c.in-Tuple.types))
    ∙ ap (shape_of (heads_in c.args.table.now)) (sym (tuple_is c.args.ty.now c.in-Tuple.types c.in-Tuple.is)))
    c.components.ensures.fields

pub in_types-loop-position-init : goal.in_types-loop-position-init
in_types-loop-position-init t c = (
  c.none-found.ensures.says,
  IfOk-weaker c.none-found.result (λ fields. fields ≡ None) (λ fields. option_map test_of fields ≡ shape_at (heads_of (heads_in c.args.table.now) [] (to_types (map written_of []))) c.args.wanted)
      (λ fields is. ap (option_map test_of) is ∙ sym (shape_start (heads_in c.args.table.now) c.args.wanted)) c.none-found.ensures.fields,
)

pub in_types-loop-position-preserved : goal.in_types-loop-position-preserved
in_types-loop-position-preserved t c =
    let heads = heads_in c.args.table.now in
    let types = c.as_slice-ty-items.result.now in
    let at = c.loop-position.position in
    let x = c.ty-item.result in
    let before = c.loop-position.found in
    let here = c.in_type-here.result in
    let goes = subst (λ r. GoesOn r (absent heads (written_of x)) here) c.so_told.ensures c.in_type-here.ensures.says in
    let all =
    goes_more (λ t. absent heads (written_of t)) types at x c.loop-position-test.true c.ty-item.is c.args.so_far _ here
    (goes_told (flat_map (λ t. absent heads (written_of t)) (take at types)) c.args.so_far before c.loop-position.invariant.0) goes in (
      chosen_goes c.args.wanted at before here c.chosen-found.result c.chosen-found.ensures (absent heads (written_of x)) goes c.args.so_far (flat_map (λ t. absent heads (written_of t)) (take (at + 1) types)) all,
      IfOk-weaker c.chosen-found.result
          (λ fields. option_map test_of fields ≡ chosen c.args.wanted at (shape_at (heads_of heads [] (to_types (map written_of (take at types)))) c.args.wanted) (shape_of heads (written_of x)))
          (λ fields. option_map test_of fields ≡ shape_at (heads_of heads [] (to_types (map written_of (take (at + 1) types)))) c.args.wanted)
          (λ fields is. is ∙ sym (shape_turn heads types at x c.args.wanted c.loop-position-test.true c.ty-item.is))
          (chosen_fields c.args.wanted at before here c.chosen-found.result c.chosen-found.ensures (absent heads (written_of x)) goes (shape_at (heads_of heads [] (to_types (map written_of (take at types)))) c.args.wanted) (shape_of heads (written_of x)) c.loop-position.invariant.1
          c.in_type-here.ensures.fields),
    )
