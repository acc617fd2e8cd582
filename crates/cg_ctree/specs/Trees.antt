-- Programs of the C subset as plain trees, and what a program of the compiler stands for.
use Rattle.std.specs.Prelude.{ℕ, List, [], ◌∷◌, Option, map}
use Rattle.std.specs.Option.{option_map}
use Rattle.cg_ctree.specs.declared.tree.CBody.{CBody}
use Rattle.cg_ctree.specs.declared.tree.CCase.{CCase, fold-CCase}
use Rattle.cg_ctree.specs.declared.tree.CDecl.{CDecl}
use Rattle.cg_ctree.specs.declared.tree.CFun.{CFun}
use Rattle.cg_ctree.specs.declared.tree.COpnd.{COpnd}
use Rattle.cg_ctree.specs.declared.tree.CPath.{CPath}
use Rattle.cg_ctree.specs.declared.tree.CProgram.{CProgram}
use Rattle.cg_ctree.specs.declared.tree.CRhs.{CRhs}
use Rattle.cg_ctree.specs.declared.tree.CStmt.{CStmt, fold-CStmt}
use Rattle.cg_ctree.specs.declared.tree.CStmt.TheOpen as open'
use Rattle.cg_ctree.specs.declared.tree.CStmt.TheOpen.{CStmt-F, CCase-F}
use Rattle.cg_ctree.specs.declared.tree.CStruct.{CStruct}
use Rattle.cg_ctree.specs.declared.tree.CTy.{CTy}

mutual
  -- a statement (docs/LANGUAGE.md, "The C subset")
  pub data Stmt : Type 0 where
    assign : CPath → CRhs → Stmt
    branch : COpnd → Block → Block → Stmt
    while : COpnd → Block → Stmt
    switch : COpnd → Cases → Stmt
    call : List ℕ → List COpnd → Stmt
    return' : COpnd → Stmt

  -- statements in a row
  pub data Block : Type 0 where
    stop : Block
    also : Stmt → Block → Block

  -- the cases of a switch, each with its number
  pub data Cases : Type 0 where
    end : Cases
    case : ℕ → Block → Cases → Cases

-- a case as a value
pub record Case : Type 0 where
  pub tag : ℕ
  pub body : Block

-- a body, a function and a program
pub record Body : Type 0 where
  pub locals : List CDecl
  pub block : Block

pub record Function : Type 0 where
  pub ty : CTy
  pub name : List ℕ
  pub params : List CDecl
  pub body : Option Body

pub record Program : Type 0 where
  pub structs : List CStruct
  pub functions : List Function

-- the tree's own lists, made of lists
unfoldable pub to_block : List Stmt → Block
to_block [] = stop
to_block (s ∷ ss) = also s (to_block ss)

unfoldable pub to_cases : List Case → Cases
to_cases [] = end
to_cases (c ∷ cs) = case c.tag c.body (to_cases cs)

-- one layer, with what its children stand for
abbrev pub layer : CStmt-F Stmt Case → Stmt
layer (open'.Assign p r) = assign p r
layer (open'.If o x y) = branch o (to_block x) (to_block y)
layer (open'.While o x) = while o (to_block x)
layer (open'.Switch o cs) = switch o (to_cases cs)
layer (open'.Call f os) = call f os
layer (open'.Return o) = return' o

abbrev pub case_layer : CCase-F Stmt Case → Case
case_layer c = record { tag = c.tag; body = to_block c.body }

-- the statement, and the case, that one of the compiler stands for
abbrev pub stmt_of : CStmt → Stmt
stmt_of = fold-CStmt Stmt Case layer case_layer

abbrev pub case_of : CCase → Case
case_of = fold-CCase Stmt Case layer case_layer

abbrev pub block_of : List CStmt → Block
block_of ss = to_block (map stmt_of ss)

abbrev pub body_of : CBody → Body
body_of b = record { locals = b.locals; block = block_of b.stmts }

abbrev pub function_of : CFun → Function
function_of f = record { ty = f.ty; name = f.name; params = f.params; body = option_map body_of f.body }

abbrev pub program_of : CProgram → Program
program_of p = record { structs = p.structs; functions = map function_of p.funs }
