use Rattle.std.proofs.Common.{◌∙◌}
use Rattle.std.specs.Option.{option_map}
use Rattle.std.proofs.lemmas.Result.{IfOk-weaker}
use Rattle.cg_driver_words.specs.Views.{command_view}
use Rattle.cg_driver_words.specs.Words.{texts}
use Rattle.cg_driver_words.proofs.Few.{few_as}
use Rattle.cg_driver_words.proofs.Sorts.{utf8_words}
use Rattle.cg_driver_words.proofs.Top.{exact}
use Rattle.cg_driver_words.proofs.command.read_words.Goals as goal

pub returns-clause-asks : goal.returns-clause-asks
returns-clause-asks c = IfOk-weaker c.answer.result _ _ (λ r e. e ∙ exact (texts c.args.words.now) (utf8_words c.args.words.now)) c.answer.ensures

pub returns-clause-range : goal.returns-clause-range
returns-clause-range c = IfOk-weaker c.answer.result _ _
    (λ r e. few_as (texts c.args.words.now) (option_map command_view r) (e ∙ exact (texts c.args.words.now) (utf8_words c.args.words.now))) c.answer.ensures
