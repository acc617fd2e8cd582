use Rattle.std.proofs.Common.{◌≡◌, map, drop, take, Some, sym, ap, ◌∙◌, rules, arith, tests}
use Rattle.std.proofs.lemmas.Option.{slice_get_within}
use Rattle.cg_base.specs.declared.ty.Part.{the_lemmas}
use Rattle.cg_base.specs.Types.{abs, arrow, variant, fields, to_taus, to_parts, type_of, part_of}
use Rattle.cg_kinds.specs.Kinds.{subst as subst_of, subst_piece}
use Rattle.cg_inst_types.specs.Places.{type_at}
use Rattle.cg_inst_types.specs.Layers.{types_at, is_abs, has_parts}
use Rattle.cg_inst_types.proofs.Growth.{keeps_more, at_type}
use Rattle.cg_inst_types.proofs.Fronts.{is_abs_all, has_parts_all}
use Rattle.cg_inst_types.proofs.Entered.{entered_as, args_kept, held_kept, arguments_entered, alternatives_entered, fields_entered, drop_before, argument_more, part_more, arrow_entered}
use Rattle.cg_inst_types.proofs.layers.Layers.+enter.Goals as goal

pub enter-returns-in_ok-rest-in-Abs-clause-place : goal.enter-returns-in_ok-rest-in-Abs-clause-place
enter-returns-in_ok-rest-in-Abs-clause-place t c =
    let known = args_kept c.args.self.now.types c.place_abstract.new.self.types c.in_ok-rest-in-Abs.ensures.kept c.args.held c.requires c.args.args.now in
    let seen : type_of c.args.ty.now ≡ abs c.in-Abs.name (to_taus (map type_of c.in-Abs.types)) c.in-Abs.sigil = ap type_of c.in-Abs.is ∙ search the_lemmas in
    entered_as c.enter_arguments.result c.enter_arguments.new.self.types _ _ c.enter_arguments.ensures.place
    (arguments_entered _ _ known _ c.in-Abs.name c.in-Abs.sigil (at_type c.place_abstract.new.self.types c.in_ok-rest-in-Abs.rest _ c.in_ok-rest-in-Abs.ensures.place) _
    ∙ ap (subst_of (types_at (take c.args.held c.args.self.now.types) c.args.args.now)) (sym seen))

pub enter-returns-in_ok-rest-in-Variant-clause-place : goal.enter-returns-in_ok-rest-in-Variant-clause-place
enter-returns-in_ok-rest-in-Variant-clause-place t c =
    let known = args_kept c.args.self.now.types c.place-in-Variant.new.self.types c.in_ok-rest-in-Variant.ensures.kept c.args.held c.requires c.args.args.now in
    let seen : type_of c.args.ty.now ≡ variant (to_parts (map part_of c.in-Variant.parts)) = ap type_of c.in-Variant.is ∙ search the_lemmas in
    entered_as c.enter_parts.result c.enter_parts.new.self.types _ _ c.enter_parts.ensures.place
    (alternatives_entered _ _ known _ (at_type c.place-in-Variant.new.self.types c.in_ok-rest-in-Variant.rest _ c.in_ok-rest-in-Variant.ensures.place) _
    ∙ ap (subst_of (types_at (take c.args.held c.args.self.now.types) c.args.args.now)) (sym seen))

pub enter-returns-in_ok-rest-in-Fields-clause-place : goal.enter-returns-in_ok-rest-in-Fields-clause-place
enter-returns-in_ok-rest-in-Fields-clause-place t c =
    let known = args_kept c.args.self.now.types c.place-in-Fields.new.self.types c.in_ok-rest-in-Fields.ensures.kept c.args.held c.requires c.args.args.now in
    let seen : type_of c.args.ty.now ≡ fields (to_parts (map part_of c.in-Fields.parts)) c.in-Fields.sigil = ap type_of c.in-Fields.is ∙ search the_lemmas in
    entered_as c.enter_parts-in-Fields.result c.enter_parts-in-Fields.new.self.types _ _ c.enter_parts-in-Fields.ensures.place
    (fields_entered _ _ known _ c.in-Fields.sigil (at_type c.place-in-Fields.new.self.types c.in_ok-rest-in-Fields.rest _ c.in_ok-rest-in-Fields.ensures.place) _
    ∙ ap (subst_of (types_at (take c.args.held c.args.self.now.types) c.args.args.now)) (sym seen))

pub enter_arguments-enter_argument-requires : goal.enter_arguments-enter_argument-requires
enter_arguments-enter_argument-requires t c = (
  search (rules, the_lemmas),
  (
    held_kept c.args.self.now.types c.loop-i.self.types c.loop-i.invariant.0 c.args.held c.requires.held,
    (
      slice_get_within c.loop-i.self.types c.loop-i.at _ c.loop-i.invariant.1,
      ap is_abs (at_type c.loop-i.self.types c.loop-i.at _ c.loop-i.invariant.1) ∙ is_abs_all (map (subst_of (types_at (take c.args.held c.args.self.now.types) c.args.args.now)) (map type_of (drop c.loop-i.i c.as_slice-items.result.now))) (type_at c.args.self.now.types c.args.rest) ∙ c.requires.form,
    ),
  ),
)

pub enter_arguments-loop-i-preserved : goal.enter_arguments-loop-i-preserved
enter_arguments-loop-i-preserved t c =
    let known = args_kept c.args.self.now.types c.loop-i.self.types c.loop-i.invariant.0 c.args.held c.requires.held c.args.args.now in
    let next = drop_before c.as_slice-items.result.now c.loop-i.i c.index-items-i.result (let some = c.loop-i-test.true in grind (tests, arith)) (let within = c.loop-i.auto.i in omega arith) c.index-items-i.is in (
      keeps_more c.args.self.now.types c.loop-i.self.types c.enter_argument.new.self.types c.loop-i.invariant.0 c.in_ok-at.ensures.kept,
      c.in_ok-at.ensures.place
          ∙ ap Some (argument_more _ _ known c.as_slice-items.result.now c.loop-i.i c.index-items-i.result next (type_at c.args.self.now.types c.args.rest) _ (at_type c.loop-i.self.types c.loop-i.at _ c.loop-i.invariant.1)),
    )

pub enter_parts-enter_part-requires : goal.enter_parts-enter_part-requires
enter_parts-enter_part-requires t c = (
  search (rules, the_lemmas),
  (
    held_kept c.args.self.now.types c.loop-i.self.types c.loop-i.invariant.0 c.args.held c.requires.held,
    (
      slice_get_within c.loop-i.self.types c.loop-i.at _ c.loop-i.invariant.1,
      ap has_parts (at_type c.loop-i.self.types c.loop-i.at _ c.loop-i.invariant.1) ∙ has_parts_all (map (subst_piece (types_at (take c.args.held c.args.self.now.types) c.args.args.now)) (map part_of (drop c.loop-i.i c.as_slice-items.result.now))) (type_at c.args.self.now.types c.args.rest) ∙ c.requires.form,
    ),
  ),
)

pub enter_parts-loop-i-preserved : goal.enter_parts-loop-i-preserved
enter_parts-loop-i-preserved t c =
    let known = args_kept c.args.self.now.types c.loop-i.self.types c.loop-i.invariant.0 c.args.held c.requires.held c.args.args.now in
    let next = drop_before c.as_slice-items.result.now c.loop-i.i c.index-items-i.result (let some = c.loop-i-test.true in grind (tests, arith)) (let within = c.loop-i.auto.i in omega arith) c.index-items-i.is in (
      keeps_more c.args.self.now.types c.loop-i.self.types c.enter_part.new.self.types c.loop-i.invariant.0 c.in_ok-at.ensures.kept,
      c.in_ok-at.ensures.place
          ∙ ap Some (part_more _ _ known c.as_slice-items.result.now c.loop-i.i c.index-items-i.result next (type_at c.args.self.now.types c.args.rest) _ (at_type c.loop-i.self.types c.loop-i.at _ c.loop-i.invariant.1)),
    )

pub enter-returns-in_ok-to-in-Arrow-clause-place : goal.enter-returns-in_ok-to-in-Arrow-clause-place
enter-returns-in_ok-to-in-Arrow-clause-place t c =
    let seen : type_of c.args.ty.now ≡ arrow (type_of c.in-Arrow.from.value) (type_of c.in-Arrow.to.value) = ap type_of c.in-Arrow.is ∙ search the_lemmas in
    let parts : arrow (type_of c.deref.result.now) (type_of c.deref-in-Arrow.result.now) ≡ arrow (type_of c.in-Arrow.from.value) (type_of c.in-Arrow.to.value) = (λ k. arrow (type_of (c.deref.ensures k)) (type_of (c.deref-in-Arrow.ensures k))) in
    entered_as c.place-in-Arrow.result c.place-in-Arrow.new.self.types _ _ c.place-in-Arrow.ensures.place
    (arrow_entered c.args.self.now.types c.enter.new.self.types c.enter-in-Arrow.new.self.types c.in_ok-from-in-Arrow.ensures.kept c.in_ok-to-in-Arrow.ensures.kept c.args.held c.requires c.args.args.now
    c.in_ok-from-in-Arrow.from c.in_ok-to-in-Arrow.to (type_of c.deref.result.now) (type_of c.deref-in-Arrow.result.now) c.in_ok-from-in-Arrow.ensures.place c.in_ok-to-in-Arrow.ensures.place
    ∙ ap (subst_of (types_at (take c.args.held c.args.self.now.types) c.args.args.now)) (parts ∙ sym seen))
