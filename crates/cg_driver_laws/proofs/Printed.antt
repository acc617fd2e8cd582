-- That a C program can be printed has one proof at most, so it follows from what is merely known.
use Rattle.std.proofs.Common.{ℕ, zero, suc, Bool, true, false, Option, Some, None, List, [], ◌∷◌}
use Rattle.std.proofs.Props.{props}
use Rattle.cg_base.specs.Bytes.{Starts}
use Rattle.cg_base.specs.declared.kind.Word.{Word}
use Rattle.cg_base.specs.declared.kind.Word.TheVariants.{U8, U16, U32, U64}
use Rattle.cg_ctree.specs.declared.tree.CDecl.{CDecl}
use Rattle.cg_ctree.specs.declared.tree.COpnd.{COpnd}
use Rattle.cg_ctree.specs.declared.tree.COpnd.TheVariants.{Number, Path}
use Rattle.cg_ctree.specs.declared.tree.CPath.{CPath}
use Rattle.cg_ctree.specs.declared.tree.CRhs.{CRhs}
use Rattle.cg_ctree.specs.declared.tree.CRhs.TheVariants.{Opnd, Conv, Binary, Flip, IsNull, Call, New}
use Rattle.cg_ctree.specs.declared.tree.CStruct.{CStruct}
use Rattle.cg_ctree.specs.declared.tree.CTy.{CTy}
use Rattle.cg_ctree.specs.declared.tree.CTy.TheVariants as ty
use Rattle.cg_ctree.specs.Spells.{ArePrintableCases, HasMembers, IsCName, IsInner, IsPrintable, IsPrintableBlock, IsPrintableBody, IsPrintableDecl, IsPrintableFunction, IsPrintableOpnd, IsPrintablePath, IsPrintableRight, IsPrintableStmt, IsPrintableStruct, IsPrintableType, SomeAll, most_open}
use Rattle.cg_ctree.specs.Trees.{Stmt, assign, branch, while, switch, call, return', Block, stop, also, Cases, end, case, Body, Function, Program}

starts_once : (p : ℕ → Bool) (xs : List ℕ) → IsProp (Starts p xs)
starts_once p [] = hlevel props
starts_once p (x ∷ xs) = hlevel props

name_once : (x : List ℕ) → IsProp (IsCName x)
name_once x = hlevel (props, starts_once)

type_once : (t : CTy) → IsProp (IsPrintableType t)
type_once (ty.Word w) = hlevel props
type_once (ty.Struct x) = name_once x
type_once (ty.Pointer x) = name_once x

decl_once : (d : CDecl) → IsProp (IsPrintableDecl d)
decl_once d = hlevel (props, type_once d.ty, name_once d.name)

some_once : {A : Type 0} (P : A → Type 0) → ((x : A) → IsProp (P x)) → (xs : List A) → IsProp (SomeAll P xs)
some_once P once [] = hlevel props
some_once P once (x ∷ xs) = hlevel (props, once)

members_once : (arrow : Bool) (xs : List (List ℕ)) → IsProp (HasMembers arrow xs)
members_once true xs = some_once IsCName name_once xs
members_once false xs = hlevel (props, name_once)

path_once : (p : CPath) → IsProp (IsPrintablePath p)
path_once p = hlevel (props, name_once p.base, members_once p.arrow p.members)

operand_once : (o : COpnd) → IsProp (IsPrintableOpnd o)
operand_once (Number n) = hlevel props
operand_once (Path p) = path_once p

inner_once : (w : Word) → IsProp (IsInner w)
inner_once U8 = hlevel props
inner_once U16 = hlevel props
inner_once U32 = hlevel props
inner_once U64 = hlevel props

right_once : (r : CRhs) → IsProp (IsPrintableRight r)
right_once (Opnd o) = operand_once o
right_once (Conv w o) = operand_once o
right_once (Binary w v o l r) = hlevel (props, inner_once v, operand_once l, operand_once r)
right_once (Flip w v o) = hlevel (props, inner_once v, operand_once o)
right_once (IsNull o) = operand_once o
right_once (Call f os) = hlevel (props, name_once f, some_once IsPrintableOpnd operand_once os)
right_once (New o s) = hlevel (props, operand_once o, name_once s)

mutual
  unfolding IsPrintableStmt

  statement_once : (room : ℕ) (s : Stmt) → IsProp (IsPrintableStmt room s)
  statement_once room (assign p r) = hlevel (props, path_once p, right_once r)
  statement_once room (branch o x y) = hlevel (props, operand_once o, block_once room x, block_once room y)
  statement_once room (while o x) = hlevel (props, operand_once o, block_once room x)
  statement_once room (switch o end) = hlevel props
  statement_once room (switch o (case n x cs)) = hlevel (props, operand_once o, block_once room x, cases_once room cs)
  statement_once room (call f os) = hlevel (props, name_once f, operand_once)
  statement_once room (return' o) = operand_once o

  block_once : (room : ℕ) (b : Block) → IsProp (IsPrintableBlock room b)
  block_once zero stop = hlevel props
  block_once (suc room) stop = hlevel props
  block_once zero (also s b) = hlevel props
  block_once (suc room) (also s b) = hlevel (props, statement_once room s, block_once (suc room) b)

  cases_once : (room : ℕ) (cs : Cases) → IsProp (ArePrintableCases room cs)
  cases_once room end = hlevel props
  cases_once room (case n x cs) = hlevel (props, block_once room x, cases_once room cs)

body_once : (b : Option Body) → IsProp (IsPrintableBody b)
body_once None = hlevel props
body_once (Some b) = hlevel (props, decl_once, block_once most_open b.block)

function_once : (f : Function) → IsProp (IsPrintableFunction f)
function_once f = hlevel (props, type_once f.ty, name_once f.name, some_once IsPrintableDecl decl_once f.params, body_once f.body)

struct_once : (s : CStruct) → IsProp (IsPrintableStruct s)
struct_once s = hlevel (props, name_once s.name, some_once IsPrintableDecl decl_once s.members)

pub printable_once : (p : Program) → IsProp (IsPrintable p)
printable_once p = hlevel (props, struct_once, function_once)
