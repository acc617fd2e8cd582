use Rattle.std.proofs.lemmas.Option.{same_Some}
use Rattle.cg_driver.specs.Externs.{no_extern}
use Rattle.cg_driver_words.specs.Words.{texts, command_of}
use Rattle.cg_driver_order_laws.proofs.Building.{asked_in_order}
use Rattle.cg_driver_order_laws.proofs.law.torn_cogent.Goals as goal

pub returns-clause-kept : goal.returns-clause-kept
returns-clause-kept c none = same_Some _ _ (c.cogent.ensures.unwritten none).held

pub returns-clause-build : goal.returns-clause-build
returns-clause-build c file text certificate is =
    asked_in_order no_extern (command_of (texts c.args.words.now)) file text certificate is _ _ _ _ _ _ _ c.cogent.ensures.answer
