-- The stack of the code as the machine's.
use Rattle.std.specs.Prelude.{List, map, Option}
use Rattle.cg_surface.specs.Patterns.{Patterns, FieldPatterns}
use Rattle.cg_parser_patterns.specs.Machine as machine
use Rattle.cg_parser_patterns.specs.Bounded.{Held}
use Rattle.cg_parser_patterns.specs.Views.{view_of, patterns_of, fields_of}
use Rattle.cg_parser_patterns.specs.declared.opener.Opener.{Opener}
use Rattle.cg_parser_patterns.specs.declared.opener.Opener.TheVariants.{Unboxed, Taken}
use Rattle.cg_parser_patterns.specs.declared.frame.Frame.{Frame}
use Rattle.cg_parser_patterns.specs.declared.frame.Frame.TheVariants.{InParen, InTuple, InField}
use Rattle.cg_parser_patterns.specs.declared.mode.Mode.{Mode}
use Rattle.cg_parser_patterns.specs.declared.mode.Mode.TheVariants.{Want, Have, Head, WantField, AfterField, Stuck}

-- a frame of the machine over bounded trees
abbrev pub Open : Type 0
Open = machine.Frame (Option Patterns) (Option FieldPatterns)

-- what opened fields
abbrev pub opener_of : Opener → machine.Opener
opener_of (Unboxed p) = machine.Unboxed p
opener_of (Taken p n) = machine.Taken p n

-- a frame
abbrev pub frame_of : Frame → Open
frame_of (InParen p) = machine.InParen p
frame_of (InTuple p xs) = machine.InTuple p (patterns_of xs)
frame_of (InField o done at) = machine.InField (opener_of o) (fields_of done) at

-- the frames of a stack, the innermost first
abbrev pub stack_of : List Frame → List Open
stack_of fs = map frame_of fs

-- a mode, over a stack
abbrev pub mode_of : Mode → List Open → Held
mode_of Want fs = machine.Want fs
mode_of (Have x) fs = machine.Have (view_of x) fs
mode_of (Head p n) fs = machine.Head p n fs
mode_of (WantField o done) fs = machine.WantField (opener_of o) (fields_of done) fs
mode_of (AfterField o done at) fs = machine.AfterField (opener_of o) (fields_of done) at fs
mode_of Stuck fs = machine.Stuck
