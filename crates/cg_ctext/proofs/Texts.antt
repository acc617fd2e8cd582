-- The text of the tokens that are printed of a program is what is printed.
use Rattle.std.proofs.Common.{◌≡◌, ℕ, Bool, true, false, List, [], ◌∷◌, ◌++◌, Option, Some, None, codes, decimal, refl, sym, ap, ◌∙◌, append_assoc, arith}
use Rattle.std.specs.List.{flat_map}
use Rattle.cg_ctree.specs.declared.tree.CDecl.{CDecl}
use Rattle.cg_ctree.specs.declared.tree.COpnd.{COpnd}
use Rattle.cg_ctree.specs.declared.tree.COpnd.TheVariants.{Number, Path}
use Rattle.cg_ctree.specs.declared.tree.CPath.{CPath}
use Rattle.cg_ctree.specs.declared.tree.CRhs.{CRhs}
use Rattle.cg_ctree.specs.declared.tree.CRhs.TheVariants.{Opnd, Conv, Binary, Flip, IsNull, Call, New}
use Rattle.cg_ctree.specs.declared.tree.CStruct.{CStruct}
use Rattle.cg_ctree.specs.declared.tree.CTy.{CTy}
use Rattle.cg_ctree.specs.declared.tree.CTy.TheVariants as ty
use Rattle.cg_ctree.specs.Tokens.{sign}
use Rattle.cg_ctree.specs.Trees.{Stmt, assign, branch, while, switch, call, return', Block, stop, also, Cases, end, case, Body, Function, Program}
use Rattle.cg_ctext.specs.Printed.{deeper, line_at, declared_text, decl_text, more_text, some_text, dots_text, members_text, path_text, opnd_text, call_text, right_text, test_text, stmt_text, block_text, cases_text, local_text, struct_text, body_text, function_text, printed}
use Rattle.cg_ctext.proofs.Spaced.{Spaced, text}
use Rattle.cg_ctext.proofs.Shown.{put, apart, mark, keyword, show_declared, show_decl, show_more, show_some, show_dots, show_members, show_path, show_opnd, show_call, show_right, show_test, show_stmt, show_block, show_cases, show_locals, show_struct, show_structs, show_body, show_function, show_functions, shown}

-- ---- declarations

text_declared : (gap : List ℕ) (t : CTy) (x : List ℕ) (ss : List Spaced) → text (show_declared gap t x ss) ≡ gap ++ (declared_text t x ++ text ss)
text_declared gap (ty.Word w) x ss = grind (arith, append_assoc)
text_declared gap (ty.Struct s) x ss = grind (arith, append_assoc)
text_declared gap (ty.Pointer s) x ss = grind (arith, append_assoc)

-- what is said of a way to show things
abbrev IsText : {A : Type 0} → (List ℕ → A → List Spaced → List Spaced) → (A → List ℕ) → Type 0
IsText {A} show txt = (gap : List ℕ) (x : A) (ss : List Spaced) → text (show gap x ss) ≡ gap ++ (txt x ++ text ss)

text_more : {A : Type 0} (show : List ℕ → A → List Spaced → List Spaced) (txt : A → List ℕ) → IsText show txt → (xs : List A) (ss : List Spaced) → text (show_more show xs ss) ≡ more_text txt xs ++ text ss
text_more show txt is [] ss = refl
text_more show txt is (x ∷ xs) ss = ap (λ z. 44 ∷ z) (is (codes " ") x (show_more show xs ss)) ∙ ap (λ z. 44 ∷ 32 ∷ (txt x ++ z)) (text_more show txt is xs ss) ∙ ap (λ z. 44 ∷ 32 ∷ z) (sym (append_assoc (txt x) (more_text txt xs) (text ss)))

text_some : {A : Type 0} (show : List ℕ → A → List Spaced → List Spaced) (txt : A → List ℕ) → IsText show txt → (xs : List A) (ss : List Spaced) → text (show_some show xs ss) ≡ some_text txt xs ++ text ss
text_some show txt is [] ss = refl
text_some show txt is (x ∷ xs) ss = is [] x (show_more show xs ss) ∙ ap (λ z. txt x ++ z) (text_more show txt is xs ss) ∙ sym (append_assoc (txt x) (more_text txt xs) (text ss))

text_parameters : (ds : List CDecl) (ss : List Spaced) → text (show_some show_decl ds ss) ≡ some_text decl_text ds ++ text ss
text_parameters = text_some show_decl decl_text (λ gap d ss. text_declared gap d.ty d.name ss)

-- ---- operands and right sides

text_dots : (xs : List (List ℕ)) (ss : List Spaced) → text (show_dots xs ss) ≡ dots_text xs ++ text ss
text_dots [] ss = refl
text_dots (x ∷ xs) ss = ap (λ z. 46 ∷ (x ++ z)) (text_dots xs ss) ∙ ap (λ z. 46 ∷ z) (sym (append_assoc x (dots_text xs) (text ss)))

text_members : (arrow : Bool) (xs : List (List ℕ)) (ss : List Spaced) → text (show_members arrow xs ss) ≡ members_text arrow xs ++ text ss
text_members false xs ss = text_dots xs ss
text_members true [] ss = refl
text_members true (x ∷ xs) ss = ap (λ z. 45 ∷ 62 ∷ (x ++ z)) (text_dots xs ss) ∙ ap (λ z. 45 ∷ 62 ∷ z) (sym (append_assoc x (dots_text xs) (text ss)))

text_path : (gap : List ℕ) (p : CPath) (ss : List Spaced) → text (show_path gap p ss) ≡ gap ++ (path_text p ++ text ss)
text_path gap p ss = let e = text_members p.arrow p.members ss in grind (arith, e, append_assoc)

text_opnd : (gap : List ℕ) (o : COpnd) (ss : List Spaced) → text (show_opnd gap o ss) ≡ gap ++ (opnd_text o ++ text ss)
text_opnd gap (Number n) ss = refl
text_opnd gap (Path p) ss = text_path gap p ss

text_operands : (os : List COpnd) (ss : List Spaced) → text (show_some show_opnd os ss) ≡ some_text opnd_text os ++ text ss
text_operands = text_some show_opnd opnd_text text_opnd

text_call : (gap f : List ℕ) (os : List COpnd) (ss : List Spaced) → text (show_call gap f os ss) ≡ gap ++ (call_text f os ++ text ss)
text_call gap f os ss = grind (arith, text_operands, append_assoc)

pub text_right : (r : CRhs) (ss : List Spaced) → text (show_right r ss) ≡ codes " " ++ (right_text r ++ text ss)
text_right (Opnd o) ss = text_opnd (codes " ") o ss
text_right (Conv w o) ss = grind (arith, text_opnd, append_assoc)
text_right (Binary w v o l r) ss = grind (arith, text_opnd, append_assoc)
text_right (Flip w v o) ss = grind (arith, text_opnd, append_assoc)
text_right (IsNull o) ss = grind (arith, text_opnd, append_assoc)
text_right (Call f os) ss = text_call (codes " ") f os ss
text_right (New o x) ss = grind (arith, text_opnd, append_assoc)

-- ---- statements

text_test : (gap x : List ℕ) (o : COpnd) (ss : List Spaced) → text (show_test gap x o (apart (sign (codes "{")) ss)) ≡ gap ++ (test_text (x ++ codes " (") o ++ text ss)
text_test gap x o ss = let e = text_opnd [] o (mark (codes ")") (apart (sign (codes "{")) ss)) in grind (arith, e, append_assoc)

mutual
  unfolding show_stmt show_block show_cases stmt_text block_text cases_text

  text_stmt : (level : ℕ) (s : Stmt) (ss : List Spaced) → text (show_stmt level s ss) ≡ stmt_text level s ++ text ss
  text_stmt level (assign p r) ss =
      let rest : List Spaced = mark (codes ";") ss in
      let e = text_right r rest in
      let f = text_path (line_at level) p (apart (sign (codes "=")) (show_right r rest)) in
      grind (arith, e, f, append_assoc)
  text_stmt level (branch o x y) ss =
      let last : List Spaced = put (line_at level) (sign (codes "}")) ss in
      let other : List Spaced = show_block (deeper level) y last in
      let between : List Spaced = put (line_at level) (sign (codes "}")) (keyword (codes " ") (codes "else") (apart (sign (codes "{")) other)) in
      let e = text_test (line_at level) (codes "if") o (show_block (deeper level) x between) in
      let f = text_block (deeper level) x between in
      let g = text_block (deeper level) y last in
      e
      ∙ ap (λ z. line_at level ++ (test_text (codes "if (") o ++ z)) (f ∙ ap (λ z. block_text (deeper level) x ++ (line_at level ++ (codes "} else {" ++ z))) g)
      ∙ simp append_assoc
  text_stmt level (while o x) ss =
      let last : List Spaced = put (line_at level) (sign (codes "}")) ss in
      let e = text_test (line_at level) (codes "while") o (show_block (deeper level) x last) in
      let f = text_block (deeper level) x last in
      grind (arith, e, f, append_assoc)
  text_stmt level (switch o cs) ss =
      let last : List Spaced = put (line_at level) (sign (codes "}")) ss in
      let e = text_test (line_at level) (codes "switch") o (show_cases (deeper level) cs last) in
      let f = text_cases (deeper level) cs last in
      grind (arith, e, f, append_assoc)
  text_stmt level (call f os) ss = let e = text_call (line_at level) f os (mark (codes ";") ss) in grind (arith, e, append_assoc)
  text_stmt level (return' o) ss = let e = text_opnd (codes " ") o (mark (codes ";") ss) in grind (arith, e, append_assoc)

  text_block : (level : ℕ) (b : Block) (ss : List Spaced) → text (show_block level b ss) ≡ block_text level b ++ text ss
  text_block level stop ss = refl
  text_block level (also s b) ss =
      text_stmt level s (show_block level b ss) ∙ ap (λ z. stmt_text level s ++ z) (text_block level b ss) ∙ sym (append_assoc (stmt_text level s) (block_text level b) (text ss))

  text_cases : (level : ℕ) (cs : Cases) (ss : List Spaced) → text (show_cases level cs ss) ≡ cases_text level cs ++ text ss
  text_cases level end ss = refl
  text_cases level (case n x cs) ss =
      let rest : List Spaced = show_cases level cs ss in
      let last : List Spaced = put (line_at level) (sign (codes "}")) (keyword (codes " ") (codes "break") (mark (codes ";") rest)) in
      let e = text_block (deeper level) x last in
      let f = text_cases level cs ss in
      ap (λ z. line_at level ++ (codes "case " ++ (decimal n ++ (codes ": {" ++ z)))) (e ∙ ap (λ z. block_text (deeper level) x ++ (line_at level ++ (codes "} break;" ++ z))) f)
      ∙ simp append_assoc

-- ---- structs, functions and programs

text_locals : (ds : List CDecl) (ss : List Spaced) → text (show_locals ds ss) ≡ flat_map local_text ds ++ text ss
text_locals [] ss = refl
text_locals (d ∷ ds) ss = let e = text_locals ds ss in let f = text_declared (codes "\n    ") d.ty d.name (mark (codes ";") (show_locals ds ss)) in grind (arith, e, f, append_assoc)

text_struct : (s : CStruct) (ss : List Spaced) → text (show_struct s ss) ≡ struct_text s ++ text ss
text_struct s ss = let e = text_locals s.members (put (codes "\n") (sign (codes "}")) (mark (codes ";") ss)) in grind (arith, e, append_assoc)

text_structs : (structs : List CStruct) (ss : List Spaced) → text (show_structs structs ss) ≡ flat_map struct_text structs ++ text ss
text_structs [] ss = refl
text_structs (s ∷ structs) ss =
    text_struct s (show_structs structs ss) ∙ ap (λ z. struct_text s ++ z) (text_structs structs ss) ∙ sym (append_assoc (struct_text s) (flat_map struct_text structs) (text ss))

text_body : (b : Option Body) (ss : List Spaced) → text (show_body b ss) ≡ body_text b ++ text ss
text_body None ss = refl
text_body (Some b) ss =
    let last : List Spaced = put (codes "\n") (sign (codes "}")) ss in
    let e = text_block 1 b.block last in
    let f = text_locals b.locals (show_block 1 b.block last) in
    grind (arith, e, f, append_assoc)

text_function : (f : Function) (ss : List Spaced) → text (show_function f ss) ≡ function_text f ++ text ss
text_function f ss =
    let behind : List Spaced = mark (codes ")") (show_body f.body ss) in
    let e = text_body f.body ss in
    let g = text_parameters f.params behind in
    let h = text_declared (codes "\n\n") f.ty f.name (mark (codes "(") (show_some show_decl f.params behind)) in
    grind (arith, e, g, h, append_assoc)

text_functions : (fs : List Function) → text (show_functions fs []) ≡ flat_map function_text fs ++ codes "\n"
text_functions [] = refl
text_functions (f ∷ fs) = text_function f (show_functions fs []) ∙ ap (λ z. function_text f ++ z) (text_functions fs) ∙ sym (append_assoc (function_text f) (flat_map function_text fs) (codes "\n"))

pub text_shown : (p : Program) → text (shown p) ≡ printed p
text_shown p =
    let e = text_structs p.structs (show_functions p.functions []) in
    let f = text_functions p.functions in
    grind (arith, e, f, append_assoc)
