-- The tokens that are printed of a program, each with the white space before it.
use Rattle.std.proofs.Common.{ℕ, Bool, true, false, List, [], ◌∷◌, Option, Some, None, codes, decimal}
use Rattle.cg_base.specs.declared.kind.Word.{Word}
use Rattle.cg_base.specs.declared.kind.Word.TheVariants.{U8}
use Rattle.cg_ctree.specs.declared.tree.CDecl.{CDecl}
use Rattle.cg_ctree.specs.declared.tree.COpnd.{COpnd}
use Rattle.cg_ctree.specs.declared.tree.COpnd.TheVariants.{Number, Path}
use Rattle.cg_ctree.specs.declared.tree.CPath.{CPath}
use Rattle.cg_ctree.specs.declared.tree.CRhs.{CRhs}
use Rattle.cg_ctree.specs.declared.tree.CRhs.TheVariants.{Opnd, Conv, Binary, Flip, IsNull, Call, New}
use Rattle.cg_ctree.specs.declared.tree.CStruct.{CStruct}
use Rattle.cg_ctree.specs.declared.tree.CTy.{CTy}
use Rattle.cg_ctree.specs.declared.tree.CTy.TheVariants as ty
use Rattle.cg_ctree.specs.Tokens.{Token, name, word, plain, literal, sign, line, first_line, second_line}
use Rattle.cg_ctree.specs.Spells.{spelled, op_sign}
use Rattle.cg_ctree.specs.Trees.{Stmt, assign, branch, while, switch, call, return', Block, stop, also, Cases, end, case, Body, Function, Program}
use Rattle.cg_ctext.specs.Printed.{deeper, line_at}
use Rattle.cg_ctext.proofs.Spaced.{Spaced}

-- a token behind some white space, and before others
abbrev pub put : List ℕ → Token → List Spaced → List Spaced
put gap t ss = record { gap = gap; token = t } ∷ ss

-- a token directly behind another
abbrev pub tight : Token → List Spaced → List Spaced
tight t ss = put [] t ss

-- a token behind a space
abbrev pub apart : Token → List Spaced → List Spaced
apart t ss = put (codes " ") t ss

-- the white space before what stands on a line of its own within a function or a struct
abbrev pub indent : List ℕ
indent = codes "\n    "

abbrev pub mark : List ℕ → List Spaced → List Spaced
mark x ss = tight (sign x) ss

-- a word of C behind some white space
abbrev pub keyword : List ℕ → List ℕ → List Spaced → List Spaced
keyword gap x ss = put gap (word x) ss

-- ---- declarations

abbrev pub show_struct_name : List ℕ → List ℕ → List Spaced → List Spaced
show_struct_name gap x ss = keyword gap (codes "struct") (apart (name x) ss)

abbrev pub show_declared : List ℕ → CTy → List ℕ → List Spaced → List Spaced
show_declared gap (ty.Word w) x ss = keyword gap (spelled w) (apart (name x) ss)
show_declared gap (ty.Struct s) x ss = show_struct_name gap s (apart (name x) ss)
show_declared gap (ty.Pointer s) x ss = show_struct_name gap s (apart (sign (codes "*")) (tight (name x) ss))

abbrev pub show_decl : List ℕ → CDecl → List Spaced → List Spaced
show_decl gap d ss = show_declared gap d.ty d.name ss

-- things with commas between
abbrev pub show_more : {A : Type 0} → (List ℕ → A → List Spaced → List Spaced) → List A → List Spaced → List Spaced
show_more show [] ss = ss
show_more show (x ∷ xs) ss = mark (codes ",") (show (codes " ") x (show_more show xs ss))

abbrev pub show_some : {A : Type 0} → (List ℕ → A → List Spaced → List Spaced) → List A → List Spaced → List Spaced
show_some show [] ss = ss
show_some show (x ∷ xs) ss = show [] x (show_more show xs ss)

-- ---- operands and right sides

abbrev pub show_dots : List (List ℕ) → List Spaced → List Spaced
show_dots [] ss = ss
show_dots (x ∷ xs) ss = mark (codes ".") (tight (name x) (show_dots xs ss))

abbrev pub show_members : Bool → List (List ℕ) → List Spaced → List Spaced
show_members false xs ss = show_dots xs ss
show_members true [] ss = ss
show_members true (x ∷ xs) ss = mark (codes "->") (tight (name x) (show_dots xs ss))

abbrev pub show_path : List ℕ → CPath → List Spaced → List Spaced
show_path gap p ss = put gap (name p.base) (show_members p.arrow p.members ss)

abbrev pub show_opnd : List ℕ → COpnd → List Spaced → List Spaced
show_opnd gap (Number n) ss = put gap (literal (decimal n)) ss
show_opnd gap (Path p) ss = show_path gap p ss

abbrev pub show_to : List ℕ → Word → List Spaced → List Spaced
show_to gap w ss = put gap (sign (codes "(")) (tight (word (spelled w)) (mark (codes ")") ss))

abbrev pub show_cast : List ℕ → Word → COpnd → List Spaced → List Spaced
show_cast gap w o ss = show_to gap w (show_opnd [] o ss)

abbrev pub show_call : List ℕ → List ℕ → List COpnd → List Spaced → List Spaced
show_call gap f os ss = put gap (name f) (mark (codes "(") (show_some show_opnd os (mark (codes ")") ss)))

abbrev pub show_size : List ℕ → List Spaced → List Spaced
show_size x ss = apart (word (codes "sizeof")) (mark (codes "(") (show_struct_name [] x (mark (codes ")") ss)))

abbrev pub show_right : CRhs → List Spaced → List Spaced
show_right (Opnd o) ss = show_opnd (codes " ") o ss
show_right (Conv w o) ss = show_cast (codes " ") w o ss
show_right (Binary w v o l r) ss = show_to (codes " ") w (mark (codes "(") (show_cast [] v l (apart (sign (op_sign o)) (show_cast (codes " ") v r (mark (codes ")") ss)))))
show_right (Flip w v o) ss = show_to (codes " ") w (mark (codes "(") (mark (codes "~") (show_cast [] v o (mark (codes ")") ss))))
show_right (IsNull o) ss = show_to (codes " ") U8 (mark (codes "(") (show_opnd [] o (apart (sign (codes "==")) (apart (plain (codes "0")) (mark (codes ")") ss)))))
show_right (Call f os) ss = show_call (codes " ") f os ss
show_right (New o x) ss = apart (name (codes "cg_new")) (mark (codes "(") (show_opnd [] o (mark (codes ",") (show_size x (mark (codes ")") ss)))))

-- ---- statements

abbrev pub show_test : List ℕ → List ℕ → COpnd → List Spaced → List Spaced
show_test gap x o ss = keyword gap x (apart (sign (codes "(")) (show_opnd [] o (mark (codes ")") ss)))

-- braces, the second of them behind some white space
abbrev pub show_braced : List ℕ → (List Spaced → List Spaced) → List Spaced → List Spaced
show_braced gap show ss = apart (sign (codes "{")) (show (put gap (sign (codes "}")) ss))

unfoldable mutual
  pub show_stmt : ℕ → Stmt → List Spaced → List Spaced
  show_stmt level (assign p r) ss = show_path (line_at level) p (apart (sign (codes "=")) (show_right r (mark (codes ";") ss)))
  show_stmt level (branch o x y) ss =
      show_test (line_at level) (codes "if") o
      (show_braced (line_at level) (show_block (deeper level) x) (keyword (codes " ") (codes "else") (show_braced (line_at level) (show_block (deeper level) y) ss)))
  show_stmt level (while o x) ss = show_test (line_at level) (codes "while") o (show_braced (line_at level) (show_block (deeper level) x) ss)
  show_stmt level (switch o cs) ss = show_test (line_at level) (codes "switch") o (show_braced (line_at level) (show_cases (deeper level) cs) ss)
  show_stmt level (call f os) ss = show_call (line_at level) f os (mark (codes ";") ss)
  show_stmt level (return' o) ss = keyword (line_at level) (codes "return") (show_opnd (codes " ") o (mark (codes ";") ss))

  pub show_block : ℕ → Block → List Spaced → List Spaced
  show_block level stop ss = ss
  show_block level (also s b) ss = show_stmt level s (show_block level b ss)

  pub show_cases : ℕ → Cases → List Spaced → List Spaced
  show_cases level end ss = ss
  show_cases level (case n x cs) ss =
      keyword (line_at level) (codes "case")
      (apart (plain (decimal n)) (mark (codes ":") (show_braced (line_at level) (show_block (deeper level) x) (keyword (codes " ") (codes "break") (mark (codes ";") (show_cases level cs ss))))))

-- ---- structs, functions and programs

abbrev pub show_locals : List CDecl → List Spaced → List Spaced
show_locals [] ss = ss
show_locals (d ∷ ds) ss = show_decl indent d (mark (codes ";") (show_locals ds ss))

abbrev pub show_struct : CStruct → List Spaced → List Spaced
show_struct s ss = show_struct_name (codes "\n\n") s.name (show_braced (codes "\n") (show_locals s.members) (mark (codes ";") ss))

abbrev pub show_structs : List CStruct → List Spaced → List Spaced
show_structs [] ss = ss
show_structs (s ∷ structs) ss = show_struct s (show_structs structs ss)

abbrev pub show_body : Option Body → List Spaced → List Spaced
show_body None ss = mark (codes ";") ss
show_body (Some b) ss = show_braced (codes "\n") (λ inner. show_locals b.locals (show_block 1 b.block inner)) ss

abbrev pub show_function : Function → List Spaced → List Spaced
show_function f ss = show_declared (codes "\n\n") f.ty f.name (mark (codes "(") (show_some show_decl f.params (mark (codes ")") (show_body f.body ss))))

abbrev pub show_functions : List Function → List Spaced → List Spaced
show_functions [] ss = ss
show_functions (f ∷ fs) ss = show_function f (show_functions fs ss)

abbrev pub shown : Program → List Spaced
shown p = tight (line first_line) (put (codes "\n") (line second_line) (show_structs p.structs (show_functions p.functions [])))
