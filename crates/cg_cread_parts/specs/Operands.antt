-- The machine that reads operands and paths, one symbol at a time (docs/LANGUAGE.md, "The C text", `opnd`).
use Rattle.std.specs.Prelude.{ℕ, Bool, true, false, List, [], ◌∷◌, ◌++◌, Option, Some, None}
use Rattle.cg_ctree.specs.declared.tree.COpnd.{COpnd}
use Rattle.cg_ctree.specs.declared.tree.COpnd.TheVariants as opnd
use Rattle.cg_ctree.specs.declared.tree.CPath.{CPath}
use Rattle.cg_cread_parts.specs.Symbols.{Symbol, named, number, dot, arrow}
use Rattle.cg_cread_parts.specs.declared.operand.Operand.{Operand}
use Rattle.cg_cread_parts.specs.declared.operand.Operand.TheVariants.{Wanted, Number, Path, Dot, Arrow, Stuck}

-- the path that is a name alone ("The C text", `path`)
abbrev pub path_of : List ℕ → CPath
path_of x = record { base = x; arrow = false; members = [] }

-- the path of a name, an arrow and a member ("The C text", `path`)
abbrev pub arrow_path : List ℕ → List ℕ → CPath
arrow_path x y = record { base = x; arrow = true; members = y ∷ [] }

-- a path with a member more ("The C text", `path`)
abbrev pub with_member : CPath → List ℕ → CPath
with_member p x = record p { members = p.members ++ x ∷ [] }

-- the name that a path is alone, where it is ("The C text", `path`)
abbrev pub name_alone : Bool → List (List ℕ) → List ℕ → Option (List ℕ)
name_alone false [] x = Some x
name_alone a ms x = None

abbrev pub path_name : CPath → Option (List ℕ)
path_name p = name_alone p.arrow p.members p.base

-- before an operand ("The C text", `opnd`)
abbrev pub on_wanted : Symbol → Operand
on_wanted (named x) = Path (path_of x)
on_wanted (number n) = Number n
on_wanted y = Stuck

-- an arrow behind a name alone ("The C text", `path`)
abbrev pub arrowed : Option (List ℕ) → Operand
arrowed None = Stuck
arrowed (Some x) = Arrow x

-- behind a path ("The C text", `path`)
abbrev pub on_path : CPath → Symbol → Operand
on_path p dot = Dot p
on_path p arrow = arrowed (path_name p)
on_path p y = Stuck

-- behind the dot of a member ("The C text", `path`)
abbrev pub on_dot : CPath → Symbol → Operand
on_dot p (named x) = Path (with_member p x)
on_dot p y = Stuck

-- behind an arrow ("The C text", `path`)
abbrev pub on_arrow : List ℕ → Symbol → Operand
on_arrow x (named y) = Path (arrow_path x y)
on_arrow x y = Stuck

-- one symbol more of an operand ("The C text", `opnd`)
abbrev pub operand_step : Operand → Symbol → Operand
operand_step Wanted y = on_wanted y
operand_step (Path p) y = on_path p y
operand_step (Dot p) y = on_dot p y
operand_step (Arrow x) y = on_arrow x y
operand_step (Number n) y = Stuck
operand_step Stuck y = Stuck

-- the operand that ends there, where one does ("The C text", `opnd`)
abbrev pub operand_end : Operand → Option COpnd
operand_end (Number n) = Some (opnd.Number n)
operand_end (Path p) = Some (opnd.Path p)
operand_end m = None

-- the path that ends there, where one does ("The C text", `path`)
abbrev pub path_end : Operand → Option CPath
path_end (Path p) = Some p
path_end m = None

-- whether an operand may still come of it ("The C text", `opnd`)
abbrev pub operand_is_open : Operand → Bool
operand_is_open Stuck = false
operand_is_open m = true

-- the function that an operand names, where it is a name alone ("The C text", `rhs`)
abbrev pub function_name : COpnd → Option (List ℕ)
function_name (opnd.Path p) = path_name p
function_name o = None
