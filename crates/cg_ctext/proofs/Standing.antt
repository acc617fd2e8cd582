-- In what is printed of a program, no token runs into the next one.
use Rattle.std.proofs.Common.{◌≡◌, ℕ, zero, suc, Bool, true, false, List, [], ◌∷◌, ◌++◌, Option, Some, None, codes, refl, ap}
use Rattle.std.specs.List.{AllByRecursion}
use Rattle.cg_base.specs.declared.kind.Word.{Word}
use Rattle.cg_base.specs.declared.kind.Word.TheVariants.{U8, U16, U32, U64}
use Rattle.cg_ctree.specs.declared.tree.CDecl.{CDecl}
use Rattle.cg_ctree.specs.declared.tree.COp.{COp}
use Rattle.cg_ctree.specs.declared.tree.COp.TheVariants as op
use Rattle.cg_ctree.specs.declared.tree.COpnd.{COpnd}
use Rattle.cg_ctree.specs.declared.tree.COpnd.TheVariants.{Number, Path}
use Rattle.cg_ctree.specs.declared.tree.CPath.{CPath}
use Rattle.cg_ctree.specs.declared.tree.CRhs.{CRhs}
use Rattle.cg_ctree.specs.declared.tree.CRhs.TheVariants.{Opnd, Conv, Binary, Flip, IsNull, Call, New}
use Rattle.cg_ctree.specs.declared.tree.CStruct.{CStruct}
use Rattle.cg_ctree.specs.declared.tree.CTy.{CTy}
use Rattle.cg_ctree.specs.declared.tree.CTy.TheVariants as ty
use Rattle.cg_base.specs.Bytes.{white, Each, Stops}
use Rattle.cg_ctree.specs.Tokens.{part_of_name, name, word, plain, sign, IsToken, Ends, is_sign, goes_on}
use Rattle.cg_ctree.specs.Spells.{spelled, op_sign, IsCName, SomeAll, HasMembers, IsPrintableType, IsPrintableDecl, IsPrintablePath, IsPrintableOpnd, IsPrintableRight, most_open, IsPrintableStmt, IsPrintableBlock, ArePrintableCases, IsPrintableBody, IsPrintableFunction, IsPrintableStruct, IsPrintable}
use Rattle.cg_ctree.specs.Trees.{Stmt, assign, branch, while, switch, call, return', Block, stop, also, Cases, end, case, Body, Function, Program}
use Rattle.cg_ctext.specs.Printed.{deeper, line_at}
use Rattle.cg_ctext.proofs.Spaced.{Spaced, text, Stands, Closed, decimal_is_number, opening_ends, closing_ends, comma_ends, semicolon_ends, begin_ends, end_ends, flip_ends, dot_ends, arrow_ends, star_ends, colon_ends, white_line}
use Rattle.cg_ctext.proofs.Shown.{put, apart, tight, mark, keyword, show_struct_name, show_declared, show_decl, show_more, show_some, show_dots, show_members, show_path, show_opnd, show_to, show_cast, show_call, show_size, show_right, show_test, show_stmt, show_block, show_cases, show_locals, show_struct, show_structs, show_body, show_function, show_functions, shown}
use Rattle.cg_ctext.proofs.Texts.{text_right}

-- ---- tokens

word_is_token : (w : Word) → IsToken (word (spelled w))
word_is_token U8 = refl
word_is_token U16 = refl
word_is_token U32 = refl
word_is_token U64 = refl

-- a space stands behind a word type
word_ends : (w : Word) (rest : List ℕ) → Ends (word (spelled w)) (32 ∷ rest)
word_ends w rest = refl

-- the sign of an operation is one, and a space doesn't go on with it
op_is : (o : COp) (rest : List ℕ) → (is_sign (op_sign o) ≡ true) × (goes_on (op_sign o) (32 ∷ rest) ≡ false)
op_is op.Add rest = (refl, refl)
op_is op.Sub rest = (refl, refl)
op_is op.Mul rest = (refl, refl)
op_is op.Div rest = (refl, refl)
op_is op.Rem rest = (refl, refl)
op_is op.And rest = (refl, refl)
op_is op.Or rest = (refl, refl)
op_is op.Xor rest = (refl, refl)
op_is op.Shl rest = (refl, refl)
op_is op.Shr rest = (refl, refl)
op_is op.Eq rest = (refl, refl)
op_is op.Ne rest = (refl, refl)
op_is op.Lt rest = (refl, refl)
op_is op.Gt rest = (refl, refl)
op_is op.Le rest = (refl, refl)
op_is op.Ge rest = (refl, refl)

a_space : Each white (codes " ")
a_space = (refl, tt)

an_indent : Each white (codes "\n    ")
an_indent = (refl, (refl, (refl, (refl, (refl, tt)))))

closing : (ss : List Spaced) → Stands ss → Closed (mark (codes ")") ss)
closing ss h = (refl, (tt, refl, closing_ends (text ss), h))

semicolon : (ss : List Spaced) → Stands ss → Closed (mark (codes ";") ss)
semicolon ss h = (refl, (tt, refl, semicolon_ends (text ss), h))

opening : (ss : List Spaced) → Stands ss → Closed (mark (codes "(") ss)
opening ss h = (refl, (tt, refl, opening_ends (text ss), h))

-- ---- parts

stand_struct_name : (gap : List ℕ) (x : List ℕ) (ss : List Spaced) → Each white gap → IsCName x → Closed ss → Stands (show_struct_name gap x ss)
stand_struct_name gap x ss space is c = (space, refl, refl, (a_space, is, c.0, c.1))

stand_declared : (gap : List ℕ) (t : CTy) (x : List ℕ) (ss : List Spaced) → Each white gap → IsPrintableType t → IsCName x → Closed ss → Stands (show_declared gap t x ss)
stand_declared gap (ty.Word w) x ss space h is c = (space, word_is_token w, word_ends w (x ++ text ss), (a_space, is, c.0, c.1))
stand_declared gap (ty.Struct s) x ss space h is c = stand_struct_name gap s (apart (name x) ss) space h (refl, (a_space, is, c.0, c.1))
stand_declared gap (ty.Pointer s) x ss space h is c =
    stand_struct_name gap s (apart (sign (codes "*")) (tight (name x) ss)) space h (refl, (a_space, refl, star_ends (x ++ text ss), (tt, is, c.0, c.1)))

stand_decl : (gap : List ℕ) (d : CDecl) (ss : List Spaced) → Each white gap → IsPrintableDecl d → Closed ss → Stands (show_decl gap d ss)
stand_decl gap d ss space h c = stand_declared gap d.ty d.name ss space h.0 h.1 c

closed_dots : (xs : List (List ℕ)) (ss : List Spaced) → AllByRecursion IsCName xs → Closed ss → Closed (show_dots xs ss)
closed_dots [] ss h c = c
closed_dots (x ∷ xs) ss h c =
    let rest : Closed (show_dots xs ss) = closed_dots xs ss h.1 c in (refl, (tt, refl, dot_ends (x ++ text (show_dots xs ss)), (tt, h.0, rest.0, rest.1)))

closed_members : (arrow : Bool) (xs : List (List ℕ)) (ss : List Spaced) → HasMembers arrow xs → Closed ss → Closed (show_members arrow xs ss)
closed_members false xs ss h c = closed_dots xs ss h c
closed_members true [] ss h c = absurd h
closed_members true (x ∷ xs) ss h c =
    let rest : Closed (show_dots xs ss) = closed_dots xs ss h.1 c in (refl, (tt, refl, arrow_ends (x ++ text (show_dots xs ss)), (tt, h.0, rest.0, rest.1)))

stand_path : (gap : List ℕ) (p : CPath) (ss : List Spaced) → Each white gap → IsPrintablePath p → Closed ss → Stands (show_path gap p ss)
stand_path gap p ss space h c = let m : Closed (show_members p.arrow p.members ss) = closed_members p.arrow p.members ss h.1 c in (space, h.0, m.0, m.1)

stand_opnd : (gap : List ℕ) (o : COpnd) (ss : List Spaced) → Each white gap → IsPrintableOpnd o → Closed ss → Stands (show_opnd gap o ss)
stand_opnd gap (Number n) ss space h c = (space, decimal_is_number n h, tt, c.1)
stand_opnd gap (Path p) ss space h c = stand_path gap p ss space h c

-- a space before an operand ends a word
space_before : (o : COpnd) (ss : List Spaced) → Stops part_of_name (text (show_opnd (codes " ") o ss))
space_before (Number n) ss = refl
space_before (Path p) ss = refl

-- what is said of a way to show things
abbrev IsStanding : {A : Type 0} → (List ℕ → A → List Spaced → List Spaced) → (A → Type 0) → Type 0
IsStanding {A} show P = (gap : List ℕ) (x : A) (ss : List Spaced) → Each white gap → P x → Closed ss → Stands (show gap x ss)

closed_more : {A : Type 0} (show : List ℕ → A → List Spaced → List Spaced) (P : A → Type 0) → IsStanding show P → (xs : List A) (ss : List Spaced) → AllByRecursion P xs → Closed ss → Closed (show_more show xs ss)
closed_more show P stand [] ss h c = c
closed_more show P stand (x ∷ xs) ss h c =
    (refl, (tt, refl, comma_ends (text (show (codes " ") x (show_more show xs ss))), stand (codes " ") x (show_more show xs ss) a_space h.0 (closed_more show P stand xs ss h.1 c)))

stand_some : {A : Type 0} (show : List ℕ → A → List Spaced → List Spaced) (P : A → Type 0) → IsStanding show P → (xs : List A) (ss : List Spaced) → SomeAll P xs → Closed ss → Stands (show_some show xs ss)
stand_some show P stand [] ss h c = absurd h
stand_some show P stand (x ∷ xs) ss h c = stand [] x (show_more show xs ss) tt h.0 (closed_more show P stand xs ss h.1 c)

stand_to : (gap : List ℕ) (w : Word) (ss : List Spaced) → Each white gap → Stands ss → Stands (show_to gap w ss)
stand_to gap w ss space h = (space, refl, opening_ends (spelled w ++ 41 ∷ text ss), (tt, word_is_token w, refl, (closing ss h).1))

stand_cast : (gap : List ℕ) (w : Word) (o : COpnd) (ss : List Spaced) → Each white gap → IsPrintableOpnd o → Closed ss → Stands (show_cast gap w o ss)
stand_cast gap w o ss space h c = stand_to gap w (show_opnd [] o ss) space (stand_opnd [] o ss tt h c)

stand_call : (gap f : List ℕ) (os : List COpnd) (ss : List Spaced) → Each white gap → IsCName f → Stands (show_some show_opnd os (mark (codes ")") ss)) → Stands (show_call gap f os ss)
stand_call gap f os ss space is h =
    let operands : List Spaced = show_some show_opnd os (mark (codes ")") ss) in let c : Closed (mark (codes "(") operands) = opening operands h in (space, is, c.0, c.1)

stand_size : (x : List ℕ) (ss : List Spaced) → IsCName x → Stands ss → Stands (show_size x ss)
stand_size x ss is st =
    let inner : List Spaced = show_struct_name [] x (mark (codes ")") ss) in
    let c : Closed (mark (codes "(") inner) = opening inner (stand_struct_name [] x (mark (codes ")") ss) tt is (closing ss st)) in
    (a_space, refl, c.0, c.1)

stand_right : (r : CRhs) (ss : List Spaced) → IsPrintableRight r → Closed ss → Stands (show_right r ss)
stand_right (Opnd o) ss h c = stand_opnd (codes " ") o ss a_space h c
stand_right (Conv w o) ss h c = stand_cast (codes " ") w o ss a_space h c
stand_right (Binary w v o l r) ss h c =
    let last : List Spaced = mark (codes ")") ss in
    let right : List Spaced = show_cast (codes " ") v r last in
    let behind : List Spaced = apart (sign (op_sign o)) right in
    let closed : Closed behind = (refl, (a_space, (op_is o []).0, (op_is o (40 ∷ (spelled v ++ 41 ∷ text (show_opnd [] r last)))).1, stand_cast (codes " ") v r last a_space h.2 (closing ss c.1))) in
    stand_to (codes " ") w (mark (codes "(") (show_cast [] v l behind)) a_space (opening (show_cast [] v l behind) (stand_cast [] v l behind tt h.1 closed)).1
stand_right (Flip w v o) ss h c =
    let inner : List Spaced = show_cast [] v o (mark (codes ")") ss) in
    let stands : Stands (mark (codes "~") inner) = (tt, refl, flip_ends (text inner), stand_cast [] v o (mark (codes ")") ss) tt h.1 (closing ss c.1)) in
    stand_to (codes " ") w (mark (codes "(") (mark (codes "~") inner)) a_space (opening (mark (codes "~") inner) stands).1
stand_right (IsNull o) ss h c =
    let last : List Spaced = mark (codes ")") ss in
    let behind : List Spaced = apart (sign (codes "==")) (apart (plain (codes "0")) last) in
    let closed : Closed behind = (refl, (a_space, refl, refl, (a_space, (refl, (refl, tt)), (refl, refl), (closing ss c.1).1))) in
    stand_to (codes " ") U8 (mark (codes "(") (show_opnd [] o behind)) a_space (opening (show_opnd [] o behind) (stand_opnd [] o behind tt h closed)).1
stand_right (Call f os) ss h c = stand_call (codes " ") f os ss a_space h.0 (stand_some show_opnd IsPrintableOpnd stand_opnd os (mark (codes ")") ss) h.1 (closing ss c.1))
stand_right (New o x) ss h c =
    let size : List Spaced = show_size x (mark (codes ")") ss) in
    let closed : Closed (mark (codes ",") size) = (refl, (tt, refl, comma_ends (text size), stand_size x (mark (codes ")") ss) h.1 (closing ss c.1).1)) in
    let inner : List Spaced = show_opnd [] o (mark (codes ",") size) in
    let begin : Closed (mark (codes "(") inner) = opening inner (stand_opnd [] o (mark (codes ",") size) tt h.0 closed) in
    (a_space, (refl, (refl, (refl, (refl, (refl, (refl, (refl, tt)))))), refl), begin.0, begin.1)

-- ---- statements

stand_any : (os : List COpnd) (ss : List Spaced) → AllByRecursion IsPrintableOpnd os → Closed ss → Stands (show_some show_opnd os ss)
stand_any [] ss h c = c.1
stand_any (o ∷ os) ss h c = stand_some show_opnd IsPrintableOpnd stand_opnd (o ∷ os) ss h c

-- a word of C before an operand in parentheses
stand_test : (gap x : List ℕ) (o : COpnd) (ss : List Spaced) → Each white gap → IsToken (word x) → IsPrintableOpnd o → Stands ss → Stands (show_test gap x o ss)
stand_test gap x o ss space is h st =
    let inner : List Spaced = show_opnd [] o (mark (codes ")") ss) in
    let c : Stands (mark (codes "(") inner) = (opening inner (stand_opnd [] o (mark (codes ")") ss) tt h (closing ss st))).1 in
    (space, is, refl, (a_space, refl, opening_ends (text inner), c.3))

-- the last brace
stand_last : (gap : List ℕ) (ss : List Spaced) → Each white gap → Stands ss → Stands (put gap (sign (codes "}")) ss)
stand_last gap ss space st = (space, refl, end_ends (text ss), st)

-- the first brace
stand_first : (ss : List Spaced) → Stands ss → Stands (apart (sign (codes "{")) ss)
stand_first ss st = (a_space, refl, begin_ends (text ss), st)

mutual
  unfolding show_stmt show_block show_cases IsPrintableStmt IsPrintableBlock ArePrintableCases

  stand_stmt : (room level : ℕ) (s : Stmt) (ss : List Spaced) → IsPrintableStmt room s → Stands ss → Stands (show_stmt level s ss)
  stand_stmt room level (assign p r) ss h st =
      let rest : List Spaced = mark (codes ";") ss in
      let right : List Spaced = show_right r rest in
      stand_path (line_at level) p (apart (sign (codes "=")) right) (white_line level) h.0
      (refl, (a_space, refl, ap (goes_on (codes "=")) (text_right r rest), stand_right r rest h.1 (semicolon ss st)))
  stand_stmt room level (branch o x y) ss h st =
      let last : List Spaced = put (line_at level) (sign (codes "}")) ss in
      let no : List Spaced = show_block (deeper level) y last in
      let behind : List Spaced = keyword (codes " ") (codes "else") (apart (sign (codes "{")) no) in
      let between : List Spaced = put (line_at level) (sign (codes "}")) behind in
      let stands_no : Stands no = stand_block room (deeper level) y last h.2 (stand_last (line_at level) ss (white_line level) st) in
      let stands_between : Stands between = stand_last (line_at level) behind (white_line level) (a_space, refl, refl, stand_first no stands_no) in
      let yes : List Spaced = show_block (deeper level) x between in
      stand_test (line_at level) (codes "if") o (apart (sign (codes "{")) yes) (white_line level) refl h.0
      (stand_first yes (stand_block room (deeper level) x between h.1 stands_between))
  stand_stmt room level (while o x) ss h st =
      let last : List Spaced = put (line_at level) (sign (codes "}")) ss in
      let inner : List Spaced = show_block (deeper level) x last in
      stand_test (line_at level) (codes "while") o (apart (sign (codes "{")) inner) (white_line level) refl h.0
      (stand_first inner (stand_block room (deeper level) x last h.1 (stand_last (line_at level) ss (white_line level) st)))
  stand_stmt room level (switch o end) ss h st = absurd h
  stand_stmt room level (switch o (case n x cs)) ss h st =
      let last : List Spaced = put (line_at level) (sign (codes "}")) ss in
      let inner : List Spaced = show_cases (deeper level) (case n x cs) last in
      stand_test (line_at level) (codes "switch") o (apart (sign (codes "{")) inner) (white_line level) refl h.0
      (stand_first inner (stand_cases room (deeper level) (case n x cs) last h.1 (stand_last (line_at level) ss (white_line level) st)))
  stand_stmt room level (call f os) ss h st =
      stand_call (line_at level) f os (mark (codes ";") ss) (white_line level) h.0 (stand_any os (mark (codes ")") (mark (codes ";") ss)) h.1 (closing (mark (codes ";") ss) (semicolon ss st).1))
  stand_stmt room level (return' o) ss h st = (white_line level, refl, space_before o (mark (codes ";") ss), stand_opnd (codes " ") o (mark (codes ";") ss) a_space h (semicolon ss st))

  stand_block : (room level : ℕ) (b : Block) (ss : List Spaced) → IsPrintableBlock room b → Stands ss → Stands (show_block level b ss)
  stand_block room level stop ss h st = st
  stand_block zero level (also s b) ss h st = absurd h
  stand_block (suc room) level (also s b) ss h st = stand_stmt room level s (show_block level b ss) h.0 (stand_block (suc room) level b ss h.1 st)

  stand_cases : (room level : ℕ) (cs : Cases) (ss : List Spaced) → ArePrintableCases room cs → Stands ss → Stands (show_cases level cs ss)
  stand_cases room level end ss h st = st
  stand_cases room level (case n x cs) ss h st =
      let rest : List Spaced = show_cases level cs ss in
      let behind : List Spaced = keyword (codes " ") (codes "break") (mark (codes ";") rest) in
      let last : List Spaced = put (line_at level) (sign (codes "}")) behind in
      let inner : List Spaced = show_block (deeper level) x last in
      let stands_rest : Stands rest = stand_cases room level cs ss h.2 st in
      let stands_last : Stands last = stand_last (line_at level) behind (white_line level) (a_space, refl, refl, (semicolon rest stands_rest).1) in
      let stands_inner : Stands (apart (sign (codes "{")) inner) = stand_first inner (stand_block room (deeper level) x last h.1 stands_last) in
      (white_line level, refl, refl, (a_space, decimal_is_number n h.0, (refl, refl), (tt, refl, colon_ends (text (apart (sign (codes "{")) inner)), stands_inner)))

-- ---- structs, functions and programs

stand_locals : (ds : List CDecl) (ss : List Spaced) → AllByRecursion IsPrintableDecl ds → Stands ss → Stands (show_locals ds ss)
stand_locals [] ss h st = st
stand_locals (d ∷ ds) ss h st = stand_decl (codes "\n    ") d (mark (codes ";") (show_locals ds ss)) an_indent h.0 (semicolon (show_locals ds ss) (stand_locals ds ss h.1 st))

a_line : Each white (codes "\n")
a_line = (refl, tt)

an_empty_line : Each white (codes "\n\n")
an_empty_line = (refl, (refl, tt))

pub some_all : {A : Type 0} (P : A → Type 0) (xs : List A) → SomeAll P xs → AllByRecursion P xs
some_all P [] h = absurd h
some_all P (x ∷ xs) h = h

stand_struct : (s : CStruct) (ss : List Spaced) → IsPrintableStruct s → Stands ss → Stands (show_struct s ss)
stand_struct s ss h st =
    let end : List Spaced = mark (codes ";") ss in
    let last : List Spaced = put (codes "\n") (sign (codes "}")) end in
    let inner : List Spaced = show_locals s.members last in
    let stands : Stands inner = stand_locals s.members last (some_all IsPrintableDecl s.members h.1) (stand_last (codes "\n") end a_line (semicolon ss st).1) in
    stand_struct_name (codes "\n\n") s.name (apart (sign (codes "{")) inner) an_empty_line h.0 (refl, stand_first inner stands)

stand_structs : (structs : List CStruct) (ss : List Spaced) → AllByRecursion IsPrintableStruct structs → Stands ss → Stands (show_structs structs ss)
stand_structs [] ss h st = st
stand_structs (s ∷ structs) ss h st = stand_struct s (show_structs structs ss) h.0 (stand_structs structs ss h.1 st)

stand_body : (b : Option Body) (ss : List Spaced) → IsPrintableBody b → Stands ss → Stands (show_body b ss)
stand_body None ss h st = (semicolon ss st).1
stand_body (Some b) ss h st =
    let last : List Spaced = put (codes "\n") (sign (codes "}")) ss in
    let block : List Spaced = show_block 1 b.block last in
    stand_first (show_locals b.locals block) (stand_locals b.locals block h.0 (stand_block most_open 1 b.block last h.1 (stand_last (codes "\n") ss a_line st)))

stand_function : (f : Function) (ss : List Spaced) → IsPrintableFunction f → Stands ss → Stands (show_function f ss)
stand_function f ss h st =
    let last : List Spaced = mark (codes ")") (show_body f.body ss) in
    let parameters : List Spaced = show_some show_decl f.params last in
    stand_declared (codes "\n\n") f.ty f.name (mark (codes "(") parameters) an_empty_line h.0 h.1
    (opening parameters (stand_some show_decl IsPrintableDecl stand_decl f.params last h.2 (closing (show_body f.body ss) (stand_body f.body ss h.3 st))))

stand_functions : (fs : List Function) → AllByRecursion IsPrintableFunction fs → Stands (show_functions fs [])
stand_functions [] h = tt
stand_functions (f ∷ fs) h = stand_function f (show_functions fs []) h.0 (stand_functions fs h.1)

pub stand_shown : (p : Program) → IsPrintable p → Stands (shown p)
stand_shown p h = (tt, refl, tt, (a_line, refl, tt, stand_structs p.structs (show_functions p.functions []) h.0 (stand_functions p.functions h.1)))
