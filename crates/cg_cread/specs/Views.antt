-- What the reader's own values stand for.
use Rattle.std.specs.Prelude.{◌≡◌, map, Option, Some, None, Result, Ok, Err, ⊤}
use Rattle.cg_base.specs.declared.place.Place.{Place}
use Rattle.cg_ctree.specs.declared.tree.CProgram.{CProgram}
use Rattle.cg_ctree.specs.Trees.{Program, stmt_of, case_of, function_of, program_of}
use Rattle.cg_cread.specs.Blocks as blocks
use Rattle.cg_cread.specs.Bodies as bodies
use Rattle.cg_cread.specs.Machine as machine
use Rattle.cg_cread.specs.declared.block.Level.{Level}
use Rattle.cg_cread.specs.declared.block.Arms.{Arms}
use Rattle.cg_cread.specs.declared.block.Opened.{Opened}
use Rattle.cg_cread.specs.declared.block.Opened.TheVariants as opened
use Rattle.cg_cread.specs.declared.block.Frame.{Frame}
use Rattle.cg_cread.specs.declared.gap.Gap.{Gap}
use Rattle.cg_cread.specs.declared.gap.Gap.TheVariants as gap
use Rattle.cg_cread.specs.declared.body.Nest.{Nest}
use Rattle.cg_cread.specs.declared.body.Body.{Body}
use Rattle.cg_cread.specs.declared.body.Body.TheVariants.{Locals, Statements, InLine, InGap, Closed, Stuck}
use Rattle.cg_cread.specs.declared.fault.CFault.{CFault}
use Rattle.cg_cread.specs.declared.fault.CFault.TheVariants.{Text, Memory}
use Rattle.cg_cread.specs.declared.file.Done.{Done}
use Rattle.cg_cread.specs.declared.file.Phase.{Phase}
use Rattle.cg_cread.specs.declared.file.Phase.TheVariants.{Start, First, Second, Between, InHead, InMembers, MembersClosed, InBody, Failed}

-- a block as it is read
abbrev pub level_of : Level → blocks.Level
level_of l = record { room = l.room; stmts = map stmt_of l.stmts }

-- a `switch` as it is read
abbrev pub arms_of : Arms → blocks.Arms
arms_of a = record { operand = a.operand; cases = map case_of a.cases }

-- what a block belongs to
abbrev pub opened_of : Opened → blocks.Opened
opened_of (opened.Yes o) = blocks.Yes o
opened_of (opened.No o xs) = blocks.No o (map stmt_of xs)
opened_of (opened.Loop o) = blocks.Loop o
opened_of (opened.Case a k) = blocks.InCase (arms_of a) k

-- an open statement
abbrev pub frame_of : Frame → blocks.Frame
frame_of f = blocks.frame (opened_of f.opened) (level_of f.around)

-- where between blocks the reader stands
abbrev pub gap_of : Gap → blocks.Gap
gap_of (gap.BehindYes o xs) = blocks.BehindYes o (map stmt_of xs)
gap_of (gap.BehindElse o xs) = blocks.BehindElse o (map stmt_of xs)
gap_of (gap.CaseWanted a) = blocks.CaseWanted (arms_of a)
gap_of (gap.CaseRead a) = blocks.CaseRead (arms_of a)
gap_of (gap.Tagged a n) = blocks.Tagged (arms_of a) n
gap_of (gap.ColonRead a n) = blocks.ColonRead (arms_of a) n
gap_of (gap.CaseClosed a c) = blocks.CaseClosed (arms_of a) (case_of c)
gap_of (gap.BreakRead a c) = blocks.BreakRead (arms_of a) (case_of c)
gap_of gap.Stuck = blocks.Stuck

-- a function as it is read
abbrev pub nest_of : Nest → bodies.Nest
nest_of n = record { head = n.head; locals = n.locals; frames = map frame_of n.frames; level = level_of n.level }

-- where in a function's body the reader stands
abbrev pub body_of : Body → bodies.Body
body_of (Locals s r) = bodies.Locals s r
body_of (Statements n) = bodies.Statements (nest_of n)
body_of (InLine r n m) = bodies.InLine r (nest_of n) m
body_of (InGap r n g) = bodies.InGap r (nest_of n) (gap_of g)
body_of (Closed f) = bodies.Closed (function_of f)
body_of Stuck = bodies.Stuck

-- the structs and functions that are read
abbrev pub done_of : Done → Program
done_of d = record { structs = d.structs; functions = map function_of d.funs }

-- where in a file it stands
abbrev pub state_of : Phase → machine.State
state_of Start = machine.Start
state_of First = machine.First
state_of Second = machine.Second
state_of (Between p) = machine.Between (done_of p)
state_of (InHead p m) = machine.InHead (done_of p) m
state_of (InMembers p x r) = machine.InMembers (done_of p) x r
state_of (MembersClosed p x ds) = machine.MembersClosed (done_of p) (record { name = x; members = ds })
state_of (InBody p m) = machine.InBody (done_of p) (body_of m)
state_of Failed = machine.Failed

-- what is answered at the end of the tokens, which is at this place, where the machine finishes with this
abbrev pub Concludes : Option Program → Place → Result CProgram CFault → Type 0
Concludes o place (Ok p) = o ≡ Some (program_of p)
Concludes o place (Err (Text q)) = (o ≡ None) × (q ≡ place)
Concludes o place (Err Memory) = ⊤
