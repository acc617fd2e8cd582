use Rattle.cg_driver_steps.proofs.Topping.{answers_just, decided, leaves, leaves_unwritten, unread, unwrote, silent, finished, completes}
use Rattle.cg_driver_steps.proofs.Untouched.{untouched}
use Rattle.cg_driver_words.specs.Words.{texts, command_of}
use Rattle.cg_driver.specs.Commands.{Judges, asked}
use Rattle.cg_driver.specs.Externs.{no_extern}
use Rattle.cg_driver.proofs.Judging.{single, ruling, once}
use Rattle.cg_driver.proofs.Wording.{compiled, reads_first, usage_only, usage_for}
use Rattle.cg_driver.proofs.call.cogent.Goals as goal

pub returns-clause-decides : goal.returns-clause-decides
returns-clause-decides g c held told v = decided Judges single (asked no_extern c.args.words.now) _ _ _ _ _ _ _ c.answer.ensures held told v

pub returns-clause-refuses : goal.returns-clause-refuses
returns-clause-refuses g c held status text told v k =
    answers_just Judges single (asked no_extern c.args.words.now) _ _ _ _ _ _ _ c.answer.ensures held told (once no_extern (command_of (texts c.args.words.now))) v status text k

pub returns-clause-stands : goal.returns-clause-stands
returns-clause-stands g c = leaves Judges (asked no_extern c.args.words.now) _ _ _ _ _ _ _ c.answer.ensures

pub returns-clause-unwritten : goal.returns-clause-unwritten
returns-clause-unwritten g c none = leaves_unwritten Judges (asked no_extern c.args.words.now) _ _ _ _ _ _ _ c.answer.ensures none

pub returns-clause-read_fault : goal.returns-clause-read_fault
returns-clause-read_fault g c e = unread Judges ruling (asked no_extern c.args.words.now) _ _ _ _ _ _ _ c.answer.ensures e

pub returns-clause-untouched : goal.returns-clause-untouched
returns-clause-untouched g c e = untouched Judges ruling (asked no_extern c.args.words.now) (reads_first no_extern (command_of (texts c.args.words.now))) _ _ _ _ _ _ _ c.answer.ensures e

pub returns-clause-write_fault : goal.returns-clause-write_fault
returns-clause-write_fault g c e = unwrote Judges ruling (asked no_extern c.args.words.now) _ _ _ _ _ _ _ c.answer.ensures e

pub returns-clause-memory : goal.returns-clause-memory
returns-clause-memory g c e = silent Judges ruling (asked no_extern c.args.words.now) _ _ _ _ _ _ _ c.answer.ensures e

pub returns-clause-finished : goal.returns-clause-finished
returns-clause-finished g c e = finished Judges ruling (asked no_extern c.args.words.now) _ _ _ _ _ _ _ c.answer.ensures e

pub returns-clause-compiles : goal.returns-clause-compiles
returns-clause-compiles g c e file text certificate is =
    compiled no_extern (command_of (texts c.args.words.now)) file text certificate is _ _ _ _
    (finished Judges ruling (asked no_extern c.args.words.now) _ _ _ _ _ _ _ c.answer.ensures e)

pub returns-clause-done : goal.returns-clause-done
returns-clause-done g c held status told calm quiet k = completes Judges ruling (asked no_extern c.args.words.now) _ _ _ _ _ _ _ c.answer.ensures single held told calm quiet status k

pub returns-clause-usage : goal.returns-clause-usage
returns-clause-usage g c e = usage_only no_extern (command_of (texts c.args.words.now)) _ _ _ _ _ _ _ c.answer.ensures e

pub returns-clause-other_words : goal.returns-clause-other_words
returns-clause-other_words g c none v = usage_for no_extern (command_of (texts c.args.words.now)) _ _ _ _ _ _ _ c.answer.ensures none v
