-- What the values of the code stand for.
use Rattle.cg_driver_words.specs.declared.command.Command.{Command as Read}
use Rattle.cg_driver_words.specs.declared.command.Command.TheVariants as read
use Rattle.cg_driver_words.specs.Words.{Command, check, build, gen, recheck, run}

-- a command
abbrev pub command_view : Read → Command
command_view (read.Check file) = check file.now
command_view (read.Build file text certificate) = build file.now text.now certificate.now
command_view (read.Recheck file certificate) = recheck file.now certificate.now
command_view (read.Run file entry heap steps) = run file.now entry.now heap.now steps
command_view (read.Gen number) = gen number
