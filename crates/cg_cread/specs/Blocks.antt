-- What is open where statements are read, and the machine between the blocks of a statement (docs/LANGUAGE.md, "The C text",
-- `stmt`).
use Rattle.std.specs.Prelude.{ℕ, Bool, true, false, List, [], ◌∷◌, ◌++◌, Option, Some, None}
use Rattle.cg_ctree.specs.declared.tree.COpnd.{COpnd}
use Rattle.cg_ctree.specs.Trees.{Stmt, switch, Case, to_cases}
use Rattle.cg_cread_parts.specs.Symbols.{Symbol, keyed, count, colon, semicolon}
use Rattle.cg_cread_parts.specs.declared.symbol.Keyword.TheVariants as key

-- a block as it is read: how many statements may be open inside each other in it, and its statements ("The C text", depth)
pub record Level : Type 0 where
  pub room : ℕ
  pub stmts : List Stmt

-- a `switch` as it is read: its operand and its cases ("The C text", `stmt`)
pub record Arms : Type 0 where
  pub operand : COpnd
  pub cases : List Case

-- what a block belongs to: the first part of an `if`; the second one, behind the statements of the first; a `while`; or a case of a
-- `switch`, with its number ("The C text", `stmt`)
pub data Opened : Type 0 where
  Yes : COpnd → Opened
  No : COpnd → List Stmt → Opened
  Loop : COpnd → Opened
  InCase : Arms → ℕ → Opened

-- an open statement, with the block that it stands in ("The C text", `stmt`)
pub data Frame : Type 0 where
  frame : Opened → Level → Frame

-- where between blocks the machine stands: behind the first part of an `if` or behind `else`; in a `switch` before a case, behind
-- `case`, its number or the `:`; behind a case's block, or behind its `break`; or where nothing goes on ("The C text", `stmt`)
pub data Gap : Type 0 where
  BehindYes : COpnd → List Stmt → Gap
  BehindElse : COpnd → List Stmt → Gap
  CaseWanted : Arms → Gap
  CaseRead : Arms → Gap
  Tagged : Arms → ℕ → Gap
  ColonRead : Arms → ℕ → Gap
  CaseClosed : Arms → Case → Gap
  BreakRead : Arms → Case → Gap
  Stuck : Gap

-- a `switch` without a case, and with one more ("The C text", `stmt`)
abbrev pub no_case : COpnd → Arms
no_case o = record { operand = o; cases = [] }

abbrev pub with_case : Arms → Case → Arms
with_case a c = record a { cases = a.cases ++ c ∷ [] }

-- behind the first part of an `if` ("The C text", `stmt`)
abbrev pub on_yes : COpnd → List Stmt → Symbol → Gap
on_yes o xs (keyed key.Else) = BehindElse o xs
on_yes o xs y = Stuck

-- before a case ("The C text", `stmt`)
abbrev pub on_wanted : Arms → Symbol → Gap
on_wanted a (keyed key.Case) = CaseRead a
on_wanted a y = Stuck

-- behind `case` ("The C text", `stmt`)
abbrev pub on_case : Arms → Symbol → Gap
on_case a (count n) = Tagged a n
on_case a y = Stuck

-- behind the number of a case ("The C text", `stmt`)
abbrev pub on_tag : Arms → ℕ → Symbol → Gap
on_tag a n colon = ColonRead a n
on_tag a n y = Stuck

-- behind the block of a case ("The C text", `stmt`)
abbrev pub on_closed : Arms → Case → Symbol → Gap
on_closed a c (keyed key.Break) = BreakRead a c
on_closed a c y = Stuck

-- behind `break` ("The C text", `stmt`)
abbrev pub on_break : Arms → Case → Symbol → Gap
on_break a c semicolon = CaseWanted (with_case a c)
on_break a c y = Stuck

-- one symbol more between blocks, without a `{` that opens one or the `}` behind the last ("The C text", `stmt`)
abbrev pub gap_step : Gap → Symbol → Gap
gap_step (BehindYes o xs) y = on_yes o xs y
gap_step (BehindElse o xs) y = Stuck
gap_step (CaseWanted a) y = on_wanted a y
gap_step (CaseRead a) y = on_case a y
gap_step (Tagged a n) y = on_tag a n y
gap_step (ColonRead a n) y = Stuck
gap_step (CaseClosed a c) y = on_closed a c y
gap_step (BreakRead a c) y = on_break a c y
gap_step Stuck y = Stuck

-- what a `{` opens there, where it opens something ("The C text", `stmt`)
abbrev pub gap_opens : Gap → Option Opened
gap_opens (BehindElse o xs) = Some (No o xs)
gap_opens (ColonRead a n) = Some (InCase a n)
gap_opens g = None

-- a `switch` of these cases, where there is one ("The C text", `stmt`)
abbrev pub switched : COpnd → List Case → Option Stmt
switched o [] = None
switched o (c ∷ cs) = Some (switch o (to_cases (c ∷ cs)))

-- the statement that a `}` ends there, where it ends one ("The C text", `stmt`)
abbrev pub gap_end : Gap → Option Stmt
gap_end (CaseWanted a) = switched a.operand a.cases
gap_end g = None

-- whether a statement may still come of it ("The C text", `stmt`)
abbrev pub gap_is_open : Gap → Bool
gap_is_open Stuck = false
gap_is_open g = true
