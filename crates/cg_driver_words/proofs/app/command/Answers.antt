use Rattle.std.proofs.Common.{◌≡◌, ◌∙◌, ap₂, rules}
use Rattle.clap.specs.Words.{app_of, rule_of, with_rule}
use Rattle.cg_driver_words.proofs.Named.{next_name}
use Rattle.cg_driver_words.proofs.app.command.Goals as goal

pub loop-id-preserved : goal.loop-id-preserved
loop-id-preserved c =
    let step : app_of c.in_ok-command.command ≡ with_rule (app_of c.loop-id.command) (rule_of c.name.result) = c.in_ok-command.ensures.shape c.name.ensures.global in
    record {
      app = step ∙ ap₂ with_rule c.loop-id.invariant.app c.name.ensures.rule ∙ next_name c.args.word.now c.args.names.now c.loop-id.id-index _ c.loop-id-test.true;
      globals = search rules;
    }
