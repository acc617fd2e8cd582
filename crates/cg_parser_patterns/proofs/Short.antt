-- The machine over whole trees, in short names.
use Rattle.std.proofs.Common.{List, Option}
use Rattle.cg_base.specs.declared.place.Place.{Place}
use Rattle.cg_base.specs.Reader.{run as reader_run}
use Rattle.cg_surface.specs.Patterns.{Pattern, Patterns, FieldPatterns}
use Rattle.cg_parser_symbols.specs.Symbols.{Symbol, Seen}
use Rattle.cg_parser_patterns.specs.Machine as machine
use Rattle.cg_parser_patterns.specs.Machine.{Opener}
use Rattle.cg_parser_patterns.specs.Plain as plain
use Rattle.cg_parser_patterns.specs.Plain.{trees, plain_reader}

abbrev pub Frame : Type 0
Frame = machine.Frame Patterns FieldPatterns

abbrev pub Stage : Type 0
Stage = plain.Stage

abbrev pub opened : Opener → FieldPatterns → Pattern
opened = machine.opened trees

abbrev pub on_close : Pattern → List Frame → Stage
on_close = machine.on_close trees

abbrev pub on_comma : Pattern → List Frame → Stage
on_comma = machine.on_comma trees

abbrev pub on_brace : Pattern → List Frame → Stage
on_brace = machine.on_brace trees

abbrev pub go_on : Symbol → Pattern → List Frame → Stage
go_on = machine.go_on trees

abbrev pub mode_step : Stage → Symbol → Place → Stage
mode_step = machine.mode_step trees

abbrev pub whole : Pattern → List Frame → Option Pattern
whole = machine.whole trees

abbrev pub finish : Stage → Option Pattern
finish = machine.finish trees

abbrev pub step : Stage → Seen → Stage
step = machine.step trees

abbrev pub run : Stage → List Seen → Stage
run = reader_run plain_reader
