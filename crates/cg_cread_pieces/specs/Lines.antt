-- The machine that reads statements up to their `;`, or up to the `{` behind a test, one symbol at a time
-- (docs/LANGUAGE.md, "The C text", `stmt`).
use Rattle.std.specs.Prelude.{ℕ, Bool, true, false, List, [], ◌∷◌, ◌++◌, Option, Some, None, if◌then◌else◌}
use Rattle.cg_ctree.specs.declared.tree.COpnd.{COpnd}
use Rattle.cg_ctree.specs.declared.tree.CPath.{CPath}
use Rattle.cg_ctree.specs.declared.tree.CRhs.{CRhs}
use Rattle.cg_ctree.specs.Trees.{Stmt, assign, call, return'}
use Rattle.cg_cread_parts.specs.Operands.{operand_step, operand_end, operand_is_open, path_name, path_end}
use Rattle.cg_cread_pieces.specs.Rights.{right_step, right_end, right_is_open}
use Rattle.cg_cread_parts.specs.Symbols.{Symbol, named, keyed, opening, closing, comma, equals, is_part}
use Rattle.cg_cread_parts.specs.declared.operand.Operand.{Operand}
use Rattle.cg_cread_parts.specs.declared.operand.Operand.TheVariants as operand
use Rattle.cg_cread_pieces.specs.declared.line.Test.{Test}
use Rattle.cg_cread_pieces.specs.declared.line.Test.TheVariants as test
use Rattle.cg_cread_pieces.specs.declared.line.Role.{Role}
use Rattle.cg_cread_pieces.specs.declared.line.Role.TheVariants as role
use Rattle.cg_cread_pieces.specs.declared.line.Line.{Line}
use Rattle.cg_cread_pieces.specs.declared.line.Line.TheVariants.{InOperand, Assigned, CallOpened, CallClosed, TestRead, TestClosed, Stuck}
use Rattle.cg_cread_pieces.specs.declared.right.Right.TheVariants.{Wanted}
use Rattle.cg_cread_parts.specs.declared.symbol.Keyword.TheVariants as key

-- before a statement ("The C text", `stmt`)
abbrev pub line_begin : Symbol → Line
line_begin (named x) = InOperand role.Target (operand_step operand.Wanted (named x))
line_begin (keyed key.Return) = InOperand role.Returned operand.Wanted
line_begin (keyed key.If) = TestRead test.If
line_begin (keyed key.While) = TestRead test.While
line_begin (keyed key.Switch) = TestRead test.Switch
line_begin y = Stuck

-- behind the name that is called ("The C text", `stmt`)
abbrev pub called : Option (List ℕ) → Line
called None = Stuck
called (Some f) = CallOpened f

-- behind a path at the beginning ("The C text", `stmt`)
abbrev pub on_target : CPath → Symbol → Line
on_target p equals = Assigned p Wanted
on_target p opening = called (path_name p)
on_target p y = Stuck

-- behind a path at the beginning, where there is one ("The C text", `stmt`)
abbrev pub targeted : Option CPath → Symbol → Line
targeted None y = Stuck
targeted (Some p) y = on_target p y

-- behind an argument ("The C text", `stmt`)
abbrev pub on_argument : List ℕ → List COpnd → Symbol → Line
on_argument f os comma = InOperand (role.Argument f os) operand.Wanted
on_argument f os closing = CallClosed f os
on_argument f os y = Stuck

-- behind an argument, where there is one ("The C text", `stmt`)
abbrev pub argued : List ℕ → List COpnd → Option COpnd → Symbol → Line
argued f os None y = Stuck
argued f os (Some o) y = on_argument f (os ++ o ∷ []) y

-- behind what is tested ("The C text", `stmt`)
abbrev pub on_tested : Test → COpnd → Symbol → Line
on_tested k o closing = TestClosed k o
on_tested k o y = Stuck

-- behind what is tested, where there is such an operand ("The C text", `stmt`)
abbrev pub tested : Test → Option COpnd → Symbol → Line
tested k None y = Stuck
tested k (Some o) y = on_tested k o y

-- behind an operand ("The C text", `stmt`)
abbrev pub filled : Role → Operand → Symbol → Line
filled role.Target m y = targeted (path_end m) y
filled role.Returned m y = Stuck
filled (role.Argument f os) m y = argued f os (operand_end m) y
filled (role.Tested k) m y = tested k (operand_end m) y

-- in an operand ("The C text", `stmt`)
abbrev pub on_operand : Role → Operand → Symbol → Line
on_operand s m y = if is_part y then InOperand s (operand_step m y) else filled s m y

-- behind the `(` of a call ("The C text", `stmt`)
abbrev pub on_call : List ℕ → Symbol → Line
on_call f closing = CallClosed f []
on_call f y = InOperand (role.Argument f []) (operand_step operand.Wanted y)

-- behind the word of a test ("The C text", `stmt`)
abbrev pub on_test : Test → Symbol → Line
on_test k opening = InOperand (role.Tested k) operand.Wanted
on_test k y = Stuck

-- one symbol more of a statement, without the `;` or `{` that ends it ("The C text", `stmt`)
abbrev pub line_step : Line → Symbol → Line
line_step (InOperand s m) y = on_operand s m y
line_step (Assigned p m) y = Assigned p (right_step m y)
line_step (CallOpened f) y = on_call f y
line_step (CallClosed f os) y = Stuck
line_step (TestRead k) y = on_test k y
line_step (TestClosed k o) y = Stuck
line_step Stuck y = Stuck

-- the assignment of a right side, where there is one ("The C text", `stmt`)
abbrev pub assignment : CPath → Option CRhs → Option Stmt
assignment p None = None
assignment p (Some r) = Some (assign p r)

-- the return of an operand, where there is one ("The C text", `stmt`)
abbrev pub operand_line : Role → Option COpnd → Option Stmt
operand_line role.Returned (Some o) = Some (return' o)
operand_line s o = None

-- the statement that a `;` ends there, where it ends one ("The C text", `stmt`)
abbrev pub line_end : Line → Option Stmt
line_end (InOperand s m) = operand_line s (operand_end m)
line_end (Assigned p m) = assignment p (right_end m)
line_end (CallClosed f os) = Some (call f os)
line_end m = None

-- the test behind which a `{` stands, where one may ("The C text", `stmt`)
abbrev pub line_test : Line → Option (Test × COpnd)
line_test (TestClosed k o) = Some (k, o)
line_test m = None

-- whether an operand of this role may still come of it: at the beginning stands a path ("The C text", `stmt`)
abbrev pub fits : Role → Operand → Bool
fits role.Target (operand.Number n) = false
fits s m = operand_is_open m

-- whether a statement may still come of it ("The C text", `stmt`)
abbrev pub line_is_open : Line → Bool
line_is_open (InOperand s m) = fits s m
line_is_open (Assigned p m) = right_is_open m
line_is_open Stuck = false
line_is_open m = true
