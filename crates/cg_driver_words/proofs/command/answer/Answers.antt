use Rattle.std.proofs.Common.{◌∙◌, rules, ap, subst}
use Rattle.clap.specs.Words.{HasKind, App, fault_of, is_simple_and_free, subcommand_of}
use Rattle.cg_driver_words.specs.Apps.{cogent_app}
use Rattle.cg_driver_words.specs.Words.{texts}
use Rattle.cg_driver_words.proofs.Refused.{refused, simple}
use Rattle.cg_driver_words.proofs.command.answer.Goals as goal

pub returns : goal.returns
returns c =
    let same = c.in_ok-command.ensures in
    let has = c.in-Err.ensures.kinds (ap is_simple_and_free same ∙ simple) in
    refused (fault_of cogent_app (texts c.args.words.now)) (subcommand_of cogent_app (texts c.args.words.now)) c.in-Err.error
    (subst (λ (a : App). HasKind (fault_of a (texts c.args.words.now)) c.in-Err.error) same has) (search rules)
