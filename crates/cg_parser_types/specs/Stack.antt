-- The stack of the code as the machine's.
use Rattle.std.specs.Prelude.{List, map, Option}
use Rattle.cg_surface.specs.Written.{Written, Writtens, WrittenFields, WrittenAlts}
use Rattle.cg_parser_types.specs.Bounded.{Held}
use Rattle.cg_parser_types.specs.Machine as machine
use Rattle.cg_parser_types.specs.Views.{view_of, types_view, fields_view, alts_view}
use Rattle.cg_parser_types.specs.declared.frame.Frame.{Frame}
use Rattle.cg_parser_types.specs.declared.frame.Frame.TheVariants.{InParen, InTuple, InField, InAlt, InArgs, InArrow}
use Rattle.cg_parser_types.specs.declared.mode.Mode.{Mode}
use Rattle.cg_parser_types.specs.declared.mode.Mode.TheVariants.{Want, Alone, Head, Taken, WantField, AfterField, WantAlt, AfterAlt, AfterTake, TakeOpen, TakeDots, TakeName, TakeMore, Stuck}

-- a frame of the machine over bounded trees
abbrev pub Open : Type 0
Open = machine.Frame (Option Written) (Option Writtens) (Option WrittenFields) (Option WrittenAlts)

-- a frame
abbrev pub frame_of : Frame → Open
frame_of (InParen p) = machine.InParen p
frame_of (InTuple p ts) = machine.InTuple p (types_view ts)
frame_of (InField p boxed gs at) = machine.InField p boxed (fields_view gs) at
frame_of (InAlt p choices at) = machine.InAlt p (alts_view choices) at
frame_of (InArgs p n args) = machine.InArgs p n (types_view args)
frame_of (InArrow a) = machine.InArrow (view_of a)

-- the frames of a stack, the innermost first
abbrev pub stack_of : List Frame → List Open
stack_of fs = map frame_of fs

-- a mode, over a stack
abbrev pub mode_of : Mode → List Open → Held
mode_of Want fs = machine.Want fs
mode_of (Alone t) fs = machine.Alone (view_of t) fs
mode_of (Head p n) fs = machine.Head p n fs
mode_of (Taken t) fs = machine.Taken (view_of t) fs
mode_of (WantField p boxed gs) fs = machine.WantField p boxed (fields_view gs) fs
mode_of (AfterField p boxed gs at) fs = machine.AfterField p boxed (fields_view gs) at fs
mode_of (WantAlt p choices) fs = machine.WantAlt p (alts_view choices) fs
mode_of (AfterAlt p choices at) fs = machine.AfterAlt p (alts_view choices) at fs
mode_of (AfterTake q t) fs = machine.AfterTake q (view_of t) fs
mode_of (TakeOpen q t) fs = machine.TakeOpen q (view_of t) fs
mode_of (TakeDots q t) fs = machine.TakeDots q (view_of t) fs
mode_of (TakeName t ns) fs = machine.TakeName (view_of t) ns fs
mode_of (TakeMore t ns) fs = machine.TakeMore (view_of t) ns fs
mode_of Stuck fs = machine.Stuck
