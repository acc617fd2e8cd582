use Rattle.std.proofs.Common.{rules, arith, ◌≡◌, ◌<◌, map, refl, add-one}
use Rattle.std.proofs.lemmas.List.{get_or_default}
use Rattle.cg_resolve_def.specs.Desugar.{type_limit}
use Rattle.cg_resolve_def.specs.Expand.{bodies}
use Rattle.cg_resolve_def.specs.Takes.{largest_type}
use Rattle.cg_surface.specs.Programs.{entry_of}
use Rattle.cg_resolve_expand.specs.Known.{known_of}
use Rattle.cg_resolve_written.specs.declared.oversize.Oversize.TheVariants.{TooLarge}
use Rattle.cg_resolve_written.proofs.Builds.{built_all, built_more, built_none, built_over, measured}
use Rattle.cg_resolve_written.proofs.SynonymSteps.{known_none, says_error}
use Rattle.cg_resolve_written.proofs.build.synonyms.Goals as goal

pub loop-position-init : goal.loop-position-init
loop-position-init c =
    built_none (map entry_of c.args.items.now) c.args.order.now c.requires.order (known_of (record { bodies = c.new.result })) (known_none (record { bodies = c.new.result }) c.new.ensures.empty)

pub returns-in_err-keep_at : goal.returns-in_err-keep_at
returns-in_err-keep_at c =
    let more : c.in_err-keep_at.field-0.0 ≡ TooLarge → type_limit < largest_type (map entry_of c.args.items.now) =
    λ same. built_over (map entry_of c.args.items.now) c.args.order.now c.requires.order c.requires.names c.loop-position.position-index _ c.loop-position-test.true
    (get_or_default c.args.order.now c.loop-position.position-index _ 0 c.loop-position-test.true) (known_of c.loop-position.synonyms) c.loop-position.invariant _ refl (c.in_err-keep_at.ensures.over same) in
    says_error (map entry_of c.args.items.now) c.from_residual.result c.from_residual.ensures.0 (search (rules, more))

pub loop-position-preserved : goal.loop-position-preserved
loop-position-preserved c =
    rw add-one
    (built_more (map entry_of c.args.items.now) c.args.order.now c.requires.order c.requires.names c.loop-position.position-index _ c.loop-position-test.true
    (get_or_default c.args.order.now c.loop-position.position-index _ 0 c.loop-position-test.true) (known_of c.loop-position.synonyms) c.loop-position.invariant (known_of c.keep_at.new.synonyms) _ refl c.in_ok-keep_at.ensures.ok)

pub returns-in_err-measure : goal.returns-in_err-measure
returns-in_err-measure c =
    let built : known_of c.loop-position.synonyms ≡ bodies (map entry_of c.args.items.now) =
    built_all (map entry_of c.args.items.now) c.args.order.now c.requires.order c.loop-position.position-index (known_of c.loop-position.synonyms) (omega arith) c.loop-position.invariant in
    let more : c.in_err-measure.field-0.0 ≡ TooLarge → type_limit < largest_type (map entry_of c.args.items.now) =
    λ same. omega (arith, measured (map entry_of c.args.items.now) (known_of c.loop-position.synonyms) built, c.in_err-measure.ensures.over same) in
    says_error (map entry_of c.args.items.now) c.from_residual-in_err-measure.result c.from_residual-in_err-measure.ensures.0 (search (rules, more))

pub returns : goal.returns
returns c =
    let built : known_of c.loop-position.synonyms ≡ bodies (map entry_of c.args.items.now) =
    built_all (map entry_of c.args.items.now) c.args.order.now c.requires.order c.loop-position.position-index (known_of c.loop-position.synonyms) (omega arith) c.loop-position.invariant in
    (omega (arith, measured (map entry_of c.args.items.now) (known_of c.loop-position.synonyms) built, c.in_ok-measure.ensures.ok), built)
