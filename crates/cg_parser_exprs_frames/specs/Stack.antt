-- The stack of the code as the machine's.
use Rattle.std.specs.Prelude.{List, map, Option}
use Rattle.cg_surface.specs.Exprs.{Expr, Alts}
use Rattle.cg_parser_types.specs.States as type_state
use Rattle.cg_parser_patterns.specs.State as pattern_state
use Rattle.cg_parser_exprs_def.specs.Machine as machine
use Rattle.cg_parser_exprs_def.specs.Held.{Held, Within, Types, Patterns}
use Rattle.cg_parser_build.specs.Views.{view_of, args_view, exprs_view, fields_view, binds_view, alts_view, pattern_view}
use Rattle.cg_parser_exprs_frames.specs.declared.frame.Owner.{Owner}
use Rattle.cg_parser_exprs_frames.specs.declared.frame.Owner.TheVariants.{Record, Put}
use Rattle.cg_parser_exprs_frames.specs.declared.frame.Prefix.{Prefix}
use Rattle.cg_parser_exprs_frames.specs.declared.frame.Prefix.TheVariants.{Operation, Upcast}
use Rattle.cg_parser_exprs_frames.specs.declared.frame.Angle.{Angle}
use Rattle.cg_parser_exprs_frames.specs.declared.frame.Angle.TheVariants.{ToLeft, ToRight}
use Rattle.cg_parser_exprs_frames.specs.declared.frame.Open.{Open}
use Rattle.cg_parser_exprs_frames.specs.declared.frame.Frame.{Frame}
use Rattle.cg_parser_exprs_frames.specs.declared.frame.Frame.TheVariants.{InParen, InTuple, InField, Argument, Payload, Operand, RightOf, Bound, Body, Condition, Then, Else, Branch}
use Rattle.cg_parser_exprs_frames.specs.declared.frame.Mode.{Mode}
use Rattle.cg_parser_exprs_frames.specs.declared.frame.Mode.TheVariants.{Want, Have, AfterLower, AfterUpper, InArgs, InSig, AfterDot, WantField, AfterField, InPattern, AfterAngle, AfterBang, Observed, WantAlt, AfterCon, InAltPattern, WantArrow, Stuck, WrongBar}
use Rattle.cg_parser_exprs_frames.specs.declared.readers.Parts.{Parts}

-- where the readers of the code stand
abbrev pub types_at : Parts → Types
types_at parts = type_state.reader_state parts.types

abbrev pub patterns_at : Parts → Patterns
patterns_at parts = pattern_state.reader_state parts.patterns

-- what fields belong to, an operator with one operand, a sign, and an open match
abbrev pub owner_of : Owner → machine.Owner (Option Expr)
owner_of (Record p) = machine.Record p
owner_of (Put e) = machine.Put (view_of e)

abbrev pub prefix_of : Prefix → machine.Prefix
prefix_of (Operation o) = machine.Operation o
prefix_of Upcast = machine.Upcast

abbrev pub angle_of : Angle → machine.Angle
angle_of ToLeft = machine.ToLeft
angle_of ToRight = machine.ToRight

abbrev pub open_of : Open → machine.Open (Option Expr) (Option Alts)
open_of o = record { subject = view_of o.subject; seen = o.seen; before = alts_view o.before; column = o.column }

-- a frame
abbrev pub frame_of : Frame → Within
frame_of (InParen p) = machine.InParen p
frame_of (InTuple p es) = machine.InTuple p (exprs_view es)
frame_of (InField o gs at) = machine.InField (owner_of o) (fields_view gs) at
frame_of (Argument f) = machine.Argument (view_of f)
frame_of (Payload p n) = machine.Payload p n
frame_of (Operand p o) = machine.Operand p (prefix_of o)
frame_of (RightOf p o a) = machine.RightOf p o (view_of a)
frame_of (Bound p bs x) = machine.Bound p (binds_view bs) (pattern_view x)
frame_of (Body p bs) = machine.Body p (binds_view bs)
frame_of (Condition p) = machine.Condition p
frame_of (Then p c seen) = machine.Then p (view_of c) seen
frame_of (Else p c seen a) = machine.Else p (view_of c) seen (view_of a)
frame_of (Branch o p con x) = machine.Branch (open_of o) p con (pattern_view x)

-- the frames of a stack, the innermost first
abbrev pub stack_of : List Frame → List Within
stack_of fs = map frame_of fs

-- a mode, over the states of the readers of types and patterns and a stack
abbrev pub mode_of : Mode → Types → Patterns → List Within → Held
mode_of Want ts ps fs = machine.Want fs
mode_of (Have e) ts ps fs = machine.Have (view_of e) fs
mode_of (AfterLower p n) ts ps fs = machine.AfterLower p n fs
mode_of (AfterUpper p n) ts ps fs = machine.AfterUpper p n fs
mode_of (InArgs p n args) ts ps fs = machine.InArgs p n (args_view args) ts fs
mode_of (InSig p e) ts ps fs = machine.InSig p (view_of e) ts fs
mode_of (AfterDot e) ts ps fs = machine.AfterDot (view_of e) fs
mode_of (WantField o gs) ts ps fs = machine.WantField (owner_of o) (fields_view gs) fs
mode_of (AfterField o gs at) ts ps fs = machine.AfterField (owner_of o) (fields_view gs) at fs
mode_of (InPattern p bs) ts ps fs = machine.InPattern p (binds_view bs) ps fs
mode_of (AfterAngle a p e) ts ps fs = machine.AfterAngle (angle_of a) p (view_of e) fs
mode_of (AfterBang e seen) ts ps fs = machine.AfterBang (view_of e) seen fs
mode_of (Observed e seen) ts ps fs = machine.Observed (view_of e) seen fs
mode_of (WantAlt o) ts ps fs = machine.WantAlt (open_of o) fs
mode_of (AfterCon o p n) ts ps fs = machine.AfterCon (open_of o) p n fs
mode_of (InAltPattern o p n) ts ps fs = machine.InAltPattern (open_of o) p n ps fs
mode_of (WantArrow o p x) ts ps fs = machine.WantArrow (open_of o) p (pattern_view x) fs
mode_of Stuck ts ps fs = machine.Stuck
mode_of WrongBar ts ps fs = machine.WrongBar

-- a mode, over the readers of the code
abbrev pub stage_of : Mode → Parts → List Within → Held
stage_of m parts fs = mode_of m (types_at parts) (patterns_at parts) fs
