-- The text that is printed of a C program: the structs and then the functions, an empty line before each, and each declaration
-- and each statement on a line of its own (docs/LANGUAGE.md, "The C text"). A line's end stands before the line that follows it.
use Rattle.std.specs.Prelude.{◌≡◌, ℕ, zero, suc, min, Bool, true, false, List, [], ◌∷◌, ◌++◌, Option, Some, None, codes, decimal}
use Rattle.std.specs.List.{flat_map}
use Rattle.cg_base.specs.declared.kind.Word.{Word}
use Rattle.cg_base.specs.declared.kind.Word.TheVariants.{U8}
use Rattle.cg_ctree.specs.declared.tree.CDecl.{CDecl}
use Rattle.cg_ctree.specs.declared.tree.COpnd.{COpnd}
use Rattle.cg_ctree.specs.declared.tree.COpnd.TheVariants.{Number, Path}
use Rattle.cg_ctree.specs.declared.tree.CPath.{CPath}
use Rattle.cg_ctree.specs.declared.tree.CRhs.{CRhs}
use Rattle.cg_ctree.specs.declared.tree.CRhs.TheVariants.{Opnd, Conv, Binary, Flip, IsNull, Call, New}
use Rattle.cg_ctree.specs.declared.tree.CStruct.{CStruct}
use Rattle.cg_ctree.specs.declared.tree.CTy.{CTy}
use Rattle.cg_ctree.specs.declared.tree.CTy.TheVariants as ty
use Rattle.cg_ctree.specs.Tokens.{first_line, second_line}
use Rattle.cg_ctree.specs.Spells.{spelled, op_sign}
use Rattle.cg_ctree.specs.Trees.{Stmt, assign, branch, while, switch, call, return', Block, stop, also, Cases, end, case, Body, Function, Program}

-- ---- lines

-- the level of what stands in braces: one more, up to the sixteenth and no further, so that a text's length is linear in its
-- program's
unfoldable pub deeper : ℕ → ℕ
deeper level = min (suc level) 16

-- four spaces a level
abbrev pub spaces : ℕ → List ℕ
spaces zero = []
spaces (suc level) = codes "    " ++ spaces level

-- a new line, with the spaces of its level
unfoldable pub line_at : ℕ → List ℕ
line_at level = codes "\n" ++ spaces level

-- ---- declarations

-- a type, and what stands between it and the name that it is the type of ("The C text", `ty`)
abbrev pub type_text : CTy → List ℕ
type_text (ty.Word w) = spelled w ++ codes " "
type_text (ty.Struct x) = codes "struct " ++ x ++ codes " "
type_text (ty.Pointer x) = codes "struct " ++ x ++ codes " *"

-- a type and a name ("The C text", `decl`)
abbrev pub declared_text : CTy → List ℕ → List ℕ
declared_text t x = type_text t ++ x

-- a declaration, without what follows it ("The C text", `decl`)
abbrev pub decl_text : CDecl → List ℕ
decl_text d = declared_text d.ty d.name

-- further things, with a comma and a space before each ("The C text", `decl` and `rhs`)
abbrev pub more_text : {A : Type 0} → (A → List ℕ) → List A → List ℕ
more_text text xs = flat_map (λ x. codes ", " ++ text x) xs

-- things with a comma and a space between ("The C text", `decl` and `rhs`)
abbrev pub some_text : {A : Type 0} → (A → List ℕ) → List A → List ℕ
some_text text [] = []
some_text text (x ∷ xs) = text x ++ more_text text xs

-- ---- operands and right sides

-- members, with a dot before each ("The C text", `path`)
abbrev pub dots_text : List (List ℕ) → List ℕ
dots_text xs = flat_map (λ x. codes "." ++ x) xs

-- the members of a path, with whether an arrow stands before the first ("The C text", `path`)
abbrev pub members_text : Bool → List (List ℕ) → List ℕ
members_text false xs = dots_text xs
members_text true [] = []
members_text true (x ∷ xs) = codes "->" ++ x ++ dots_text xs

-- a path ("The C text", `path`)
abbrev pub path_text : CPath → List ℕ
path_text p = p.base ++ members_text p.arrow p.members

-- an operand ("The C text", `opnd`)
abbrev pub opnd_text : COpnd → List ℕ
opnd_text (Number n) = decimal n ++ codes "ull"
opnd_text (Path p) = path_text p

-- a word in parentheses ("The C text", `cast` and `rhs`)
abbrev pub to_text : Word → List ℕ
to_text w = codes "(" ++ spelled w ++ codes ")"

-- an operand with a word in parentheses before it ("The C text", `cast`)
abbrev pub cast_text : Word → COpnd → List ℕ
cast_text w o = to_text w ++ opnd_text o

-- a call ("The C text", `rhs` and `stmt`)
abbrev pub call_text : List ℕ → List COpnd → List ℕ
call_text f os = f ++ codes "(" ++ some_text opnd_text os ++ codes ")"

-- a right side ("The C text", `rhs`)
abbrev pub right_text : CRhs → List ℕ
right_text (Opnd o) = opnd_text o
right_text (Conv w o) = cast_text w o
right_text (Binary w v o l r) = to_text w ++ codes "(" ++ cast_text v l ++ codes " " ++ op_sign o ++ codes " " ++ cast_text v r ++ codes ")"
right_text (Flip w v o) = to_text w ++ codes "(~" ++ cast_text v o ++ codes ")"
right_text (IsNull o) = to_text U8 ++ codes "(" ++ opnd_text o ++ codes " == 0)"
right_text (Call f os) = call_text f os
right_text (New o x) = codes "cg_new(" ++ opnd_text o ++ (codes ", sizeof(struct " ++ x ++ codes "))")

-- ---- statements

-- an operand in parentheses, from what begins its line up to the brace that follows ("The C text", `stmt`)
abbrev pub test_text : List ℕ → COpnd → List ℕ
test_text x o = x ++ opnd_text o ++ codes ") {"

-- Statements, with the level of their first lines ("The C text", `stmt`).
unfoldable mutual
  pub stmt_text : ℕ → Stmt → List ℕ
  stmt_text level (assign p r) = line_at level ++ path_text p ++ codes " = " ++ right_text r ++ codes ";"
  stmt_text level (branch o x y) = line_at level ++ test_text (codes "if (") o ++ block_text (deeper level) x ++ line_at level ++ codes "} else {" ++ block_text (deeper level) y ++ line_at level ++ codes "}"
  stmt_text level (while o x) = line_at level ++ test_text (codes "while (") o ++ block_text (deeper level) x ++ line_at level ++ codes "}"
  stmt_text level (switch o cs) = line_at level ++ test_text (codes "switch (") o ++ cases_text (deeper level) cs ++ line_at level ++ codes "}"
  stmt_text level (call f os) = line_at level ++ call_text f os ++ codes ";"
  stmt_text level (return' o) = line_at level ++ codes "return " ++ opnd_text o ++ codes ";"

  -- statements in a row
  pub block_text : ℕ → Block → List ℕ
  block_text level stop = []
  block_text level (also s b) = stmt_text level s ++ block_text level b

  -- cases in a row
  pub cases_text : ℕ → Cases → List ℕ
  cases_text level end = []
  cases_text level (case n x cs) = line_at level ++ codes "case " ++ decimal n ++ codes ": {" ++ block_text (deeper level) x ++ line_at level ++ codes "} break;" ++ cases_text level cs

-- ---- structs, functions and programs

-- a member or a local, on a line of its own ("The C text", `decl`)
abbrev pub local_text : CDecl → List ℕ
local_text d = codes "\n    " ++ decl_text d ++ codes ";"

-- a struct, behind an empty line ("The C text", `decl`)
abbrev pub struct_text : CStruct → List ℕ
struct_text s = codes "\n\nstruct " ++ s.name ++ codes " {" ++ flat_map local_text s.members ++ codes "\n};"

-- a body, or that there is none ("The C text", `decl`)
abbrev pub body_text : Option Body → List ℕ
body_text None = codes ";"
body_text (Some b) = codes " {" ++ flat_map local_text b.locals ++ block_text 1 b.block ++ codes "\n}"

-- a function, behind an empty line ("The C text", `decl`)
abbrev pub function_text : Function → List ℕ
function_text f = codes "\n\n" ++ declared_text f.ty f.name ++ codes "(" ++ some_text decl_text f.params ++ codes ")" ++ body_text f.body

-- a program ("The C text", `file`)
abbrev pub printed : Program → List ℕ
printed p = first_line ++ codes "\n" ++ second_line ++ flat_map struct_text p.structs ++ flat_map function_text p.functions ++ codes "\n"

-- a text begins with these bytes ("The C text", what is printed)
abbrev pub BeginsWith : List ℕ → List ℕ → Type 0
BeginsWith front bytes = (rest : List ℕ) × (bytes ≡ front ++ rest)
