-- The machine over whole trees, in short names.
use Rattle.std.proofs.Common.{ℕ, List, Option}
use Rattle.cg_base.specs.declared.place.Place.{Place}
use Rattle.cg_base.specs.Reader.{run as reader_run}
use Rattle.cg_surface.specs.Written.{Written, Writtens, WrittenFields, WrittenAlts}
use Rattle.cg_parser_symbols.specs.Symbols.{Symbol, Seen}
use Rattle.cg_parser_types.specs.Machine as machine
use Rattle.cg_parser_types.specs.Plain as plain
use Rattle.cg_parser_types.specs.Plain.{trees, plain_reader}

abbrev pub Frame : Type 0
Frame = machine.Frame Written Writtens WrittenFields WrittenAlts

abbrev pub Mode : Type 0
Mode = plain.Stage

abbrev pub closed : ℕ → Written → List Frame → Written × List Frame
closed = machine.closed trees

abbrev pub hole : Frame → ℕ
hole = machine.hole trees

abbrev pub room : List Frame → ℕ
room = machine.room trees

abbrev pub closes : Frame → ℕ
closes = machine.closes trees

abbrev pub fill : Frame → Written → Written
fill = machine.fill trees

abbrev pub bare : Place → List ℕ → Written
bare = machine.bare trees

abbrev pub on_end : Symbol → Place → Written → List Frame → Mode
on_end = machine.on_end trees

abbrev pub go_past : Symbol → Place → Written → List Frame → Mode
go_past = machine.go_past trees

abbrev pub start : Symbol → Place → List Frame → Mode
start = machine.start trees

abbrev pub mode_step : Mode → Symbol → Place → Mode
mode_step = machine.mode_step trees

abbrev pub whole : Written → List Frame → Option Written
whole = machine.whole trees

abbrev pub end_whole : Written → List Frame → Option Written
end_whole = machine.end_whole trees

abbrev pub mode_end : Mode → Option Written
mode_end = machine.mode_end trees

abbrev pub step : Mode → Seen → Mode
step = machine.step trees

abbrev pub run : Mode → List Seen → Mode
run = reader_run plain_reader
