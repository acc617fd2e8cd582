-- Programs with other names for parameters and locals.
use Rattle.std.specs.Prelude.{ℕ, List, map}
use Rattle.std.specs.Option.{option_map}
use Rattle.cg_cmachine_def.specs.Runs.{Linked}
use Rattle.cg_ctree.specs.declared.tree.CDecl.{CDecl}
use Rattle.cg_ctree.specs.declared.tree.COpnd.{COpnd}
use Rattle.cg_ctree.specs.declared.tree.COpnd.TheVariants.{Number, Path}
use Rattle.cg_ctree.specs.declared.tree.CPath.{CPath}
use Rattle.cg_ctree.specs.declared.tree.CRhs.{CRhs}
use Rattle.cg_ctree.specs.declared.tree.CRhs.TheVariants.{Opnd, Conv, Binary, Flip, IsNull, Call, New}
use Rattle.cg_ctree.specs.Trees.{Stmt, assign, branch, while, switch, call, return', Block, stop, also, Cases, end, case, Body, Function, Program}

-- ---- in a function, where a variable x is named r x instead

module _ (r : List ℕ → List ℕ) where
  -- the base alone: the names of members stay
  abbrev pub renamed_path : CPath → CPath
  renamed_path p = record { base = r p.base; arrow = p.arrow; members = p.members }

  abbrev pub renamed_operand : COpnd → COpnd
  renamed_operand (Number n) = Number n
  renamed_operand (Path p) = Path (renamed_path p)

  abbrev pub renamed_right : CRhs → CRhs
  renamed_right (Opnd o) = Opnd (renamed_operand o)
  renamed_right (Conv w o) = Conv w (renamed_operand o)
  renamed_right (Binary outer inner op x y) = Binary outer inner op (renamed_operand x) (renamed_operand y)
  renamed_right (Flip outer inner o) = Flip outer inner (renamed_operand o)
  renamed_right (IsNull o) = IsNull (renamed_operand o)
  renamed_right (Call f os) = Call f (map renamed_operand os)
  renamed_right (New o x) = New (renamed_operand o) x

  unfoldable mutual
    pub renamed_stmt : Stmt → Stmt
    renamed_stmt (assign t e) = assign (renamed_path t) (renamed_right e)
    renamed_stmt (branch o x y) = branch (renamed_operand o) (renamed_block x) (renamed_block y)
    renamed_stmt (while o x) = while (renamed_operand o) (renamed_block x)
    renamed_stmt (switch o cs) = switch (renamed_operand o) (renamed_cases cs)
    renamed_stmt (call f os) = call f (map renamed_operand os)
    renamed_stmt (return' o) = return' (renamed_operand o)

    pub renamed_block : Block → Block
    renamed_block stop = stop
    renamed_block (also x b) = also (renamed_stmt x) (renamed_block b)

    pub renamed_cases : Cases → Cases
    renamed_cases end = end
    renamed_cases (case tag b cs) = case tag (renamed_block b) (renamed_cases cs)

  abbrev pub renamed_decl : CDecl → CDecl
  renamed_decl d = record { ty = d.ty; name = r d.name }

  abbrev pub renamed_body : Body → Body
  renamed_body b = record { locals = map renamed_decl b.locals; block = renamed_block b.block }

-- ---- in a program, where a variable x of a function f is named r f x instead

module _ (r : List ℕ → List ℕ → List ℕ) where
  abbrev pub renamed_function : Function → Function
  renamed_function f = record { ty = f.ty; name = f.name; params = map (renamed_decl (r f.name)) f.params; body = option_map (renamed_body (r f.name)) f.body }

  -- the names of members, structs and functions stay
  abbrev pub renamed : Program → Program
  renamed p = record { structs = p.structs; functions = map renamed_function p.functions }

  -- with the same links
  abbrev pub renamed_linked : Linked → Linked
  renamed_linked p = record { program = renamed p.program; links = p.links; asked = p.asked }
