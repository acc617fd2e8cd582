use Rattle.std.proofs.Common.{◌∙◌, ap, sym}
use Rattle.cg_resolve_def.specs.Declared.{is_among}
use Rattle.cg_resolve_names.proofs.PartSteps.{seen_turn, seen_fault}
use Rattle.cg_resolve_names.proofs.parts.check_seen.Goals as goal

pub loop-at-preserved : goal.loop-at-preserved
loop-at-preserved c = seen_turn c.args.scope.now c.args.seen.now c.loop-at.at-index c.at-item.result c.loop-at-test.true c.at-item.is c.loop-at.invariant (sym (c.holds.ensures ∙ ap (is_among c.args.scope.now) c.bytes.ensures) ∙ c.if-not-holds.false)

pub returns-then-not-holds : goal.returns-then-not-holds
returns-then-not-holds c = seen_fault c.args.scope.now c.args.seen.now c.loop-at.at-index c.at-item.result c.loop-at-test.true c.at-item.is c.loop-at.invariant (sym (c.holds.ensures ∙ ap (is_among c.args.scope.now) c.bytes.ensures) ∙ c.if-not-holds.true)
