-- The tokens that are printed of a program spell it; so does the text.
use Rattle.std.proofs.Common.{◌≡◌, ◌≢◌, ℕ, zero, suc, Bool, true, false, List, [], ◌∷◌, ◌++◌, Option, Some, None, map, codes, decimal, refl, sym, ap, subst}
use Rattle.std.specs.List.{AllByRecursion, flat_map}
use Rattle.cg_base.specs.declared.kind.Word.{Word}
use Rattle.cg_base.specs.declared.kind.Word.TheVariants.{U8}
use Rattle.cg_ctree.specs.declared.tree.CDecl.{CDecl}
use Rattle.cg_ctree.specs.declared.tree.COpnd.{COpnd}
use Rattle.cg_ctree.specs.declared.tree.COpnd.TheVariants.{Number, Path}
use Rattle.cg_ctree.specs.declared.tree.CPath.{CPath}
use Rattle.cg_ctree.specs.declared.tree.CRhs.{CRhs}
use Rattle.cg_ctree.specs.declared.tree.CRhs.TheVariants.{Opnd, Conv, Binary, Flip, IsNull, Call, New}
use Rattle.cg_ctree.specs.declared.tree.CStruct.{CStruct}
use Rattle.cg_ctree.specs.declared.tree.CTy.{CTy}
use Rattle.cg_ctree.specs.declared.tree.CTy.TheVariants as ty
use Rattle.cg_ctree.specs.Tokens.{Token, name, word, plain, sign, has_line_feed, first_line, second_line}
use Rattle.cg_ctree.specs.Spells.{op_sign, Reading, ◌then◌, token, ReadsStructName, ReadsType, ReadsDecl, ReadsMore, ReadsSome, ReadsAny, ReadsDots, ReadsMembers, ReadsPath, ReadsOpnd, ReadsTo, ReadsCast, ReadsSize, ReadsRight, ReadsTest, most_open, braced, ReadsStmt, ReadsBlock, ReadsCases, ReadsLocals, ReadsBody, ReadsFunction, ReadsStruct, Item, of_struct, of_function, ReadsItems, structs_of, functions_of, IsOnLaterLine, SpellsTokens, CSpells, SomeAll, HasMembers, IsPrintableDecl, IsPrintablePath, IsPrintableOpnd, IsPrintableRight, IsPrintableStmt, IsPrintableBlock, ArePrintableCases, IsPrintableBody, IsPrintableFunction, IsPrintableStruct, IsPrintable}
use Rattle.cg_ctree.specs.Trees.{Stmt, assign, branch, while, switch, call, return', Block, stop, also, Cases, end, case, Body, Function, Program}
use Rattle.cg_ctext.specs.Printed.{deeper, line_at, struct_text, function_text, printed, BeginsWith}
use Rattle.cg_ctext.proofs.Spaced.{Spaced, seen, lexes}
use Rattle.cg_ctext.proofs.Shown.{put, apart, mark, keyword, show_struct_name, show_declared, show_decl, show_more, show_some, show_dots, show_members, show_path, show_opnd, show_to, show_cast, show_size, show_right, show_test, show_braced, show_stmt, show_block, show_cases, show_locals, show_struct, show_structs, show_body, show_function, show_functions, shown}
use Rattle.cg_ctext.proofs.Standing.{stand_shown, some_all}
use Rattle.cg_ctext.proofs.Texts.{text_shown}

-- what is read of tokens with white space before them
abbrev Read : Reading → List Spaced → List Spaced → Type 0
Read R ss rest = R (map seen ss) (map seen rest)

one : (gap : List ℕ) (t : Token) (ss : List Spaced) → Read (token t) (put gap t ss) ss
one gap t ss = (has_line_feed gap, refl)

read_struct_name : (gap x : List ℕ) (ss : List Spaced) → Read (ReadsStructName x) (show_struct_name gap x ss) ss
read_struct_name gap x ss = (_, (has_line_feed gap, refl), (false, refl))

read_declared : (gap : List ℕ) (t : CTy) (x : List ℕ) (ss : List Spaced) → Read (ReadsType t then token (name x)) (show_declared gap t x ss) ss
read_declared gap (ty.Word w) x ss = (_, (has_line_feed gap, refl), (false, refl))
read_declared gap (ty.Struct s) x ss = (_, read_struct_name gap s (apart (name x) ss), (false, refl))
read_declared gap (ty.Pointer s) x ss = (_, (_, read_struct_name gap s (apart (sign (codes "*")) (put [] (name x) ss)), (false, refl)), (false, refl))

read_decl : (gap : List ℕ) (d : CDecl) (ss : List Spaced) → IsPrintableDecl d → Read (ReadsDecl d) (show_decl gap d ss) ss
read_decl gap d ss h = read_declared gap d.ty d.name ss

read_dots : (xs : List (List ℕ)) (ss : List Spaced) → Read (ReadsDots xs) (show_dots xs ss) ss
read_dots [] ss = refl
read_dots (x ∷ xs) ss = (_, (false, refl), (_, (false, refl), read_dots xs ss))

read_members : (arrow : Bool) (xs : List (List ℕ)) (ss : List Spaced) → HasMembers arrow xs → Read (ReadsMembers arrow xs) (show_members arrow xs ss) ss
read_members false xs ss h = read_dots xs ss
read_members true [] ss h = absurd h
read_members true (x ∷ xs) ss h = (_, (false, refl), (_, (false, refl), read_dots xs ss))

read_path : (gap : List ℕ) (p : CPath) (ss : List Spaced) → IsPrintablePath p → Read (ReadsPath p) (show_path gap p ss) ss
read_path gap p ss h = (_, one gap (name p.base) (show_members p.arrow p.members ss), read_members p.arrow p.members ss h.1)

read_opnd : (gap : List ℕ) (o : COpnd) (ss : List Spaced) → IsPrintableOpnd o → Read (ReadsOpnd o) (show_opnd gap o ss) ss
read_opnd gap (Number n) ss h = (h, (has_line_feed gap, refl))
read_opnd gap (Path p) ss h = read_path gap p ss h

-- what is said of a way to show things
abbrev IsReading : {A : Type 0} → (List ℕ → A → List Spaced → List Spaced) → (A → Reading) → (A → Type 0) → Type 0
IsReading {A} show reads P = (gap : List ℕ) (x : A) (ss : List Spaced) → P x → Read (reads x) (show gap x ss) ss

read_more : {A : Type 0} (show : List ℕ → A → List Spaced → List Spaced) (reads : A → Reading) (P : A → Type 0) → IsReading show reads P → (xs : List A) (ss : List Spaced) → AllByRecursion P xs → Read (ReadsMore reads xs) (show_more show xs ss) ss
read_more show reads P is [] ss h = refl
read_more show reads P is (x ∷ xs) ss h = (_, (false, refl), (_, is (codes " ") x (show_more show xs ss) h.0, read_more show reads P is xs ss h.1))

read_some : {A : Type 0} (show : List ℕ → A → List Spaced → List Spaced) (reads : A → Reading) (P : A → Type 0) → IsReading show reads P → (xs : List A) (ss : List Spaced) → SomeAll P xs → Read (ReadsSome reads xs) (show_some show xs ss) ss
read_some show reads P is [] ss h = absurd h
read_some show reads P is (x ∷ xs) ss h = (_, is [] x (show_more show xs ss) h.0, read_more show reads P is xs ss h.1)

read_to : (gap : List ℕ) (w : Word) (ss : List Spaced) → Read (ReadsTo w) (show_to gap w ss) ss
read_to gap w ss = (_, (has_line_feed gap, refl), (_, (false, refl), (false, refl)))

read_cast : (gap : List ℕ) (w : Word) (o : COpnd) (ss : List Spaced) → IsPrintableOpnd o → Read (ReadsCast w o) (show_cast gap w o ss) ss
read_cast gap w o ss h = (_, read_to gap w (show_opnd [] o ss), read_opnd [] o ss h)

read_size : (x : List ℕ) (ss : List Spaced) → Read (ReadsSize x) (show_size x ss) ss
read_size x ss = (_, (false, refl), (_, (false, refl), (_, read_struct_name [] x (mark (codes ")") ss), (false, refl))))

read_right : (r : CRhs) (ss : List Spaced) → IsPrintableRight r → Read (ReadsRight r) (show_right r ss) ss
read_right (Opnd o) ss h = read_opnd (codes " ") o ss h
read_right (Conv w o) ss h = read_cast (codes " ") w o ss h
read_right (Binary w v o l r) ss h =
    let last : List Spaced = mark (codes ")") ss in
    let behind : List Spaced = apart (sign (op_sign o)) (show_cast (codes " ") v r last) in
    (h.0, (_, read_to (codes " ") w (mark (codes "(") (show_cast [] v l behind)), (_, (false, refl), (_, read_cast [] v l behind h.1, (_, (false, refl), (_, read_cast (codes " ") v r last h.2, (false, refl)))))))
read_right (Flip w v o) ss h =
    let last : List Spaced = mark (codes ")") ss in
    (h.0, (_, read_to (codes " ") w (mark (codes "(") (mark (codes "~") (show_cast [] v o last))), (_, (false, refl), (_, (false, refl), (_, read_cast [] v o last h.1, (false, refl))))))
read_right (IsNull o) ss h =
    let last : List Spaced = mark (codes ")") ss in
    let behind : List Spaced = apart (sign (codes "==")) (apart (plain (codes "0")) last) in
    (_, read_to (codes " ") U8 (mark (codes "(") (show_opnd [] o behind)), (_, (false, refl), (_, read_opnd [] o behind h, (_, (false, refl), (_, (false, refl), (false, refl))))))
read_right (Call f os) ss h = (_, (false, refl), (_, (false, refl), (_, read_some show_opnd ReadsOpnd IsPrintableOpnd read_opnd os _ h.1, (false, refl))))
read_right (New o x) ss h =
    let last : List Spaced = mark (codes ")") ss in
    (_, (false, refl), (_, (false, refl), (_, read_opnd [] o (mark (codes ",") (show_size x last)) h.0, (_, (false, refl), (_, read_size x last, (false, refl))))))

-- ---- statements

read_any : (os : List COpnd) (ss : List Spaced) → AllByRecursion IsPrintableOpnd os → Read (ReadsAny ReadsOpnd os) (show_some show_opnd os ss) ss
read_any [] ss h = refl
read_any (o ∷ os) ss h = read_some show_opnd ReadsOpnd IsPrintableOpnd read_opnd (o ∷ os) ss h

read_test : (gap x : List ℕ) (o : COpnd) (ss : List Spaced) → IsPrintableOpnd o → Read (ReadsTest x o) (show_test gap x o ss) ss
read_test gap x o ss h = (_, one gap (word x) (apart (sign (codes "(")) (show_opnd [] o (mark (codes ")") ss))), (_, (false, refl), (_, read_opnd [] o (mark (codes ")") ss) h, (false, refl))))

read_braced : (gap : List ℕ) (show : List Spaced → List Spaced) (R : Reading) (ss : List Spaced)
    → Read R (show (put gap (sign (codes "}")) ss)) (put gap (sign (codes "}")) ss) → Read (braced R) (show_braced gap show ss) ss
read_braced gap show R ss h = (_, (false, refl), (_, h, one gap (sign (codes "}")) ss))

mutual
  unfolding show_stmt show_block show_cases IsPrintableStmt IsPrintableBlock ArePrintableCases ReadsStmt ReadsBlock ReadsCases

  read_stmt : (room level : ℕ) (s : Stmt) (ss : List Spaced) → IsPrintableStmt room s → Read (ReadsStmt room s) (show_stmt level s ss) ss
  read_stmt room level (assign p r) ss h =
      let rest : List Spaced = mark (codes ";") ss in
      (_, read_path (line_at level) p (apart (sign (codes "=")) (show_right r rest)) h.0, (_, (false, refl), (_, read_right r rest h.1, (false, refl))))
  read_stmt room level (branch o x y) ss h =
      let last : List Spaced = put (line_at level) (sign (codes "}")) ss in
      let other : List Spaced = show_braced (line_at level) (show_block (deeper level) y) ss in
      let behind : List Spaced = keyword (codes " ") (codes "else") other in
      let between : List Spaced = put (line_at level) (sign (codes "}")) behind in (
        _,
        read_test (line_at level) (codes "if") o (show_braced (line_at level) (show_block (deeper level) x) behind) h.0,
        (
          _,
          read_braced (line_at level) (show_block (deeper level) x) (ReadsBlock room x) behind (read_block room (deeper level) x between h.1),
          (_, (false, refl), read_braced (line_at level) (show_block (deeper level) y) (ReadsBlock room y) ss (read_block room (deeper level) y last h.2)),
        ),
      )
  read_stmt room level (while o x) ss h =
      let last : List Spaced = put (line_at level) (sign (codes "}")) ss in (
        _,
        read_test (line_at level) (codes "while") o (show_braced (line_at level) (show_block (deeper level) x) ss) h.0,
        read_braced (line_at level) (show_block (deeper level) x) (ReadsBlock room x) ss (read_block room (deeper level) x last h.1),
      )
  read_stmt room level (switch o end) ss h = absurd h
  read_stmt room level (switch o (case n x cs)) ss h =
      let last : List Spaced = put (line_at level) (sign (codes "}")) ss in (
        _,
        read_test (line_at level) (codes "switch") o (show_braced (line_at level) (show_cases (deeper level) (case n x cs)) ss) h.0,
        read_braced (line_at level) (show_cases (deeper level) (case n x cs)) (ReadsCases room (case n x cs)) ss (read_cases room (deeper level) (case n x cs) last h.1),
      )
  read_stmt room level (call f os) ss h = (
    _,
    one (line_at level) (name f) (mark (codes "(") (show_some show_opnd os (mark (codes ")") (mark (codes ";") ss)))),
    (_, (false, refl), (_, read_any os (mark (codes ")") (mark (codes ";") ss)) h.1, (_, (false, refl), (false, refl)))),
  )
  read_stmt room level (return' o) ss h =
      (_, one (line_at level) (word (codes "return")) (show_opnd (codes " ") o (mark (codes ";") ss)), (_, read_opnd (codes " ") o (mark (codes ";") ss) h, (false, refl)))

  read_block : (room level : ℕ) (b : Block) (ss : List Spaced) → IsPrintableBlock room b → Read (ReadsBlock room b) (show_block level b ss) ss
  read_block room level stop ss h = refl
  read_block zero level (also s b) ss h = absurd h
  read_block (suc room) level (also s b) ss h = (_, read_stmt room level s (show_block level b ss) h.0, read_block (suc room) level b ss h.1)

  read_cases : (room level : ℕ) (cs : Cases) (ss : List Spaced) → ArePrintableCases room cs → Read (ReadsCases room cs) (show_cases level cs ss) ss
  read_cases room level end ss h = refl
  read_cases room level (case n x cs) ss h =
      let rest : List Spaced = show_cases level cs ss in
      let behind : List Spaced = keyword (codes " ") (codes "break") (mark (codes ";") rest) in
      let last : List Spaced = put (line_at level) (sign (codes "}")) behind in
      let inner : List Spaced = show_braced (line_at level) (show_block (deeper level) x) behind in (
        h.0,
        (
          _,
          (
            _,
            one (line_at level) (word (codes "case")) (apart (plain (decimal n)) (mark (codes ":") inner)),
            (
              _,
              (false, refl),
              (
                _,
                (false, refl),
                (
                  _,
                  read_braced (line_at level) (show_block (deeper level) x) (ReadsBlock room x) behind (read_block room (deeper level) x last h.1),
                  (_, (false, refl), (false, refl)),
                ),
              ),
            ),
          ),
          read_cases room level cs ss h.2,
        ),
      )

-- ---- structs, functions and programs

read_locals : (ds : List CDecl) (ss : List Spaced) → AllByRecursion IsPrintableDecl ds → Read (ReadsLocals ds) (show_locals ds ss) ss
read_locals [] ss h = refl
read_locals (d ∷ ds) ss h = (_, read_decl (codes "\n    ") d (mark (codes ";") (show_locals ds ss)) h.0, (_, (false, refl), read_locals ds ss h.1))

-- there is one, so there are some
some_are : {A : Type 0} (P : A → Type 0) (xs : List A) → SomeAll P xs → xs ≢ []
some_are P [] h = absurd h
some_are P (x ∷ xs) h = λ e. cc

read_struct : (s : CStruct) (ss : List Spaced) → IsPrintableStruct s → Read (ReadsStruct s) (show_struct s ss) ss
read_struct s ss h =
    let last : List Spaced = put (codes "\n") (sign (codes "}")) (mark (codes ";") ss) in (
      some_are IsPrintableDecl s.members h.1,
      (
        _,
        read_struct_name (codes "\n\n") s.name (show_braced (codes "\n") (show_locals s.members) (mark (codes ";") ss)),
        (_, read_braced (codes "\n") (show_locals s.members) (ReadsLocals s.members) (mark (codes ";") ss) (read_locals s.members last (some_all IsPrintableDecl s.members h.1)), (false, refl)),
      ),
    )

read_body : (b : Option Body) (ss : List Spaced) → IsPrintableBody b → Read (ReadsBody b) (show_body b ss) ss
read_body None ss h = (false, refl)
read_body (Some b) ss h =
    let last : List Spaced = put (codes "\n") (sign (codes "}")) ss in
    (_, (false, refl), (_, (_, read_locals b.locals (show_block 1 b.block last) h.0, read_block most_open 1 b.block last h.1), (true, refl)))

read_function : (f : Function) (ss : List Spaced) → IsPrintableFunction f → Read (ReadsFunction f) (show_function f ss) ss
read_function f ss h =
    let last : List Spaced = mark (codes ")") (show_body f.body ss) in
    let declared = read_declared (codes "\n\n") f.ty f.name (mark (codes "(") (show_some show_decl f.params last)) in
    (declared.0, declared.1, (_, declared.2, (_, (false, refl), (_, read_some show_decl ReadsDecl IsPrintableDecl read_decl f.params last h.2, (_, (false, refl), read_body f.body ss h.3)))))

-- the structs and then the functions
abbrev items_of : List CStruct → List Function → List Item
items_of [] fs = map of_function fs
items_of (s ∷ structs) fs = of_struct s ∷ items_of structs fs

no_structs : (fs : List Function) → [] ≡ structs_of (map of_function fs)
no_structs [] = refl
no_structs (f ∷ fs) = no_structs fs

all_functions : (fs : List Function) → fs ≡ functions_of (map of_function fs)
all_functions [] = refl
all_functions (f ∷ fs) = ap (λ z. f ∷ z) (all_functions fs)

structs_are : (structs : List CStruct) (fs : List Function) → structs ≡ structs_of (items_of structs fs)
structs_are [] fs = no_structs fs
structs_are (s ∷ structs) fs = ap (λ z. s ∷ z) (structs_are structs fs)

functions_are : (structs : List CStruct) (fs : List Function) → fs ≡ functions_of (items_of structs fs)
functions_are [] fs = all_functions fs
functions_are (s ∷ structs) fs = functions_are structs fs

read_functions : (fs : List Function) → AllByRecursion IsPrintableFunction fs → Read (ReadsItems (map of_function fs)) (show_functions fs []) []
read_functions [] h = refl
read_functions (f ∷ fs) h = (_, read_function f (show_functions fs []) h.0, read_functions fs h.1)

read_items : (structs : List CStruct) (fs : List Function) → AllByRecursion IsPrintableStruct structs → AllByRecursion IsPrintableFunction fs → Read (ReadsItems (items_of structs fs)) (show_structs structs (show_functions fs [])) []
read_items [] fs g h = read_functions fs h
read_items (s ∷ structs) fs g h = (_, read_struct s (show_structs structs (show_functions fs [])) g.0, read_items structs fs g.1 h)

-- each function, and each struct, begins a line
declared_later : (t : CTy) (x : List ℕ) (ss : List Spaced) → IsOnLaterLine (map seen (show_declared (codes "\n\n") t x ss))
declared_later (ty.Word w) x ss = refl
declared_later (ty.Struct s) x ss = refl
declared_later (ty.Pointer s) x ss = refl

functions_later : (fs : List Function) → IsOnLaterLine (map seen (show_functions fs []))
functions_later [] = tt
functions_later (f ∷ fs) = declared_later f.ty f.name _

on_later_line : (structs : List CStruct) (fs : List Function) → IsOnLaterLine (map seen (show_structs structs (show_functions fs [])))
on_later_line [] fs = functions_later fs
on_later_line (s ∷ structs) fs = refl

read_shown : (p : Program) → IsPrintable p → SpellsTokens (map seen (shown p)) p
read_shown p h = (
  items_of p.structs p.functions,
  structs_are p.structs p.functions,
  functions_are p.structs p.functions,
  (_, (refl, (false, refl)), (_, (on_later_line p.structs p.functions, (true, refl)), read_items p.structs p.functions h.0 h.1)),
)

-- the theorem: what is printed of a program is a text of it
pub spells_printed : (p : Program) → IsPrintable p → CSpells (printed p) p
spells_printed p h =
    let P : List ℕ → Type 0 = λ x. CSpells x p in
    subst P (text_shown p) (map seen (shown p), lexes (shown p) (stand_shown p h), read_shown p h)

-- and so is a text that equals it, which begins with the first include line
pub spells_equal : (p : Program) (x : List ℕ) → IsPrintable p → x ≡ printed p → CSpells x p
spells_equal p x h e = let P : List ℕ → Type 0 = λ y. CSpells y p in subst P (sym e) (spells_printed p h)

pub begins_equal : (p : Program) (x : List ℕ) → x ≡ printed p → BeginsWith first_line x
begins_equal p x e = (codes "\n" ++ second_line ++ flat_map struct_text p.structs ++ flat_map function_text p.functions ++ codes "\n", e)
