-- The machine that reads the bodies of functions, one symbol at a time, with what is open in a stack (docs/LANGUAGE.md,
-- "The C text", `decl` and `stmt`).
use Rattle.std.specs.Prelude.{ℕ, Bool, true, false, ◌&&◌, ◌==◌, ◌-◌, not, List, [], ◌∷◌, ◌++◌, Option, Some, None, if◌then◌else◌}
use Rattle.cg_ctree.specs.declared.tree.CDecl.{CDecl}
use Rattle.cg_ctree.specs.declared.tree.COpnd.{COpnd}
use Rattle.cg_ctree.specs.Spells.{most_open}
use Rattle.cg_ctree.specs.Trees.{Stmt, branch, while, Case, to_block, Function}
use Rattle.cg_ctree.specs.Trees as trees
use Rattle.cg_cread_parts.specs.Declarations.{row_step, row_is_whole, row_is_open}
use Rattle.cg_cread_pieces.specs.Lines.{line_begin, line_step, line_end, line_test, line_is_open}
use Rattle.cg_cread_parts.specs.Symbols.{Symbol, begin, end, semicolon, is_type}
use Rattle.cg_cread_parts.specs.declared.declaration.Row.{Row}
use Rattle.cg_cread_parts.specs.declared.head.Signature.{Signature}
use Rattle.cg_cread_pieces.specs.declared.line.Test.{Test}
use Rattle.cg_cread_pieces.specs.declared.line.Test.TheVariants as test
use Rattle.cg_cread_pieces.specs.declared.line.Line.{Line}
use Rattle.cg_cread.specs.Blocks.{Level, Opened, Yes, No, Loop, InCase, Frame, frame, Gap, BehindYes, CaseWanted, CaseClosed, no_case, gap_step, gap_opens, gap_end, gap_is_open}

-- a function as it is read: its head, its locals, what is open, the innermost first, and the block that is read ("The C text", `decl`)
pub record Nest : Type 0 where
  pub head : Signature
  pub locals : List CDecl
  pub frames : List Frame
  pub level : Level

-- where in a function's body the machine stands: in the locals or before the first statement; before a further statement or the end
-- of a block; in a statement up to its `;` or `{`; between the blocks of one; behind the body; or where nothing goes on. In a
-- statement it is said how many may be open in its blocks ("The C text", `decl`)
pub data Body : Type 0 where
  Locals : Signature → Row → Body
  Statements : Nest → Body
  InLine : ℕ → Nest → Line → Body
  InGap : ℕ → Nest → Gap → Body
  Closed : Function → Body
  Stuck : Body

-- a function of which the head and the locals are read ("The C text", `decl`)
abbrev pub nest : Signature → List CDecl → Nest
nest s ds = record { head = s; locals = ds; frames = []; level = record { room = most_open; stmts = [] } }

-- the function of a head, with this body or with none ("The C text", `decl`)
abbrev pub with_body : Signature → Option trees.Body → Function
with_body s b = record { ty = s.ty; name = s.name; params = s.params; body = b }

-- the function that is read ("The C text", `decl`)
abbrev pub function_at : Nest → Function
function_at n = with_body n.head (Some (record { locals = n.locals; block = to_block n.level.stmts }))

-- a statement more in a block ("The C text", `stmt`)
abbrev pub with_statement : Nest → Stmt → Nest
with_statement n s = record n { level = record { room = n.level.room; stmts = n.level.stmts ++ s ∷ [] } }

-- a block more, in which so many statements may be open ("The C text", `stmt`)
abbrev pub opening : ℕ → Nest → Opened → Nest
opening r n o = record n { frames = frame o n.level ∷ n.frames; level = record { room = r; stmts = [] } }

-- behind a statement, where there is one ("The C text", `stmt`)
abbrev pub ended : Nest → Option Stmt → Body
ended n None = Stuck
ended n (Some s) = Statements (with_statement n s)

-- behind the `{` of a block, where there is one ("The C text", `stmt`)
abbrev pub opened : ℕ → Nest → Option Opened → Body
opened r n None = Stuck
opened r n (Some o) = Statements (opening r n o)

-- behind a test and its `{` ("The C text", `stmt`)
abbrev pub on_test : ℕ → Nest → Test → COpnd → Body
on_test r n test.If o = Statements (opening r n (Yes o))
on_test r n test.While o = Statements (opening r n (Loop o))
on_test r n test.Switch o = InGap r n (CaseWanted (no_case o))

abbrev pub tested : ℕ → Nest → Option (Test × COpnd) → Body
tested r n None = Stuck
tested r n (Some p) = on_test r n p.0 p.1

-- in a statement, up to its `;` or `{` ("The C text", `stmt`)
abbrev pub on_line : ℕ → Nest → Line → Symbol → Body
on_line r n m semicolon = ended n (line_end m)
on_line r n m begin = tested r n (line_test m)
on_line r n m y = InLine r n (line_step m y)

-- between the blocks of a statement ("The C text", `stmt`)
abbrev pub on_gap : ℕ → Nest → Gap → Symbol → Body
on_gap r n g begin = opened r n (gap_opens g)
on_gap r n g end = ended n (gap_end g)
on_gap r n g y = InGap r n (gap_step g y)

-- a case of a number and these statements ("The C text", `stmt`)
abbrev pub case_at : ℕ → List Stmt → Case
case_at k xs = record { tag = k; body = to_block xs }

-- behind a block, with the one round it ("The C text", `stmt`)
abbrev pub closes : Level → Nest → Opened → Body
closes l n (Yes o) = InGap l.room n (BehindYes o l.stmts)
closes l n (No o xs) = Statements (with_statement n (branch o (to_block xs) (to_block l.stmts)))
closes l n (Loop o) = Statements (with_statement n (while o (to_block l.stmts)))
closes l n (InCase a k) = InGap l.room n (CaseClosed a (case_at k l.stmts))

-- the end of a block, or of the body where none is open ("The C text", `stmt`)
abbrev pub on_end : Nest → List Frame → Body
on_end n [] = Closed (function_at n)
on_end n (frame o l ∷ fs) = closes n.level (record n { frames = fs; level = l }) o

-- a statement begins, where one more may be open ("The C text", depth)
abbrev pub on_statement : Nest → Symbol → Body
on_statement n y = if n.level.room == 0 then Stuck else InLine (n.level.room - 1) n (line_begin y)

-- before a statement or the end of a block ("The C text", `stmt`)
abbrev pub on_statements : Nest → Symbol → Body
on_statements n end = on_end n n.frames
on_statements n y = on_statement n y

-- in the locals, or before the first statement ("The C text", `decl`)
abbrev pub on_locals : Signature → Row → Symbol → Body
on_locals s r y = if row_is_whole r && not (is_type y) then on_statements (nest s r.before) y else Locals s (row_step r y)

-- one symbol more of a body ("The C text", `decl`)
abbrev pub body_step : Body → Symbol → Body
body_step (Locals s r) y = on_locals s r y
body_step (Statements n) y = on_statements n y
body_step (InLine r n m) y = on_line r n m y
body_step (InGap r n g) y = on_gap r n g y
body_step (Closed f) y = Stuck
body_step Stuck y = Stuck

-- the function whose body ends there, where one does ("The C text", `decl`)
abbrev pub body_end : Body → Option Function
body_end (Closed f) = Some f
body_end m = None

-- whether a body has its end there ("The C text", `decl`)
abbrev pub body_is_closed : Body → Bool
body_is_closed (Closed f) = true
body_is_closed m = false

-- whether a body may still come of it ("The C text", `decl`)
abbrev pub body_is_open : Body → Bool
body_is_open (Locals s r) = row_is_open r
body_is_open (Statements n) = true
body_is_open (InLine r n m) = line_is_open m
body_is_open (InGap r n g) = gap_is_open g
body_is_open (Closed f) = false
body_is_open Stuck = false
