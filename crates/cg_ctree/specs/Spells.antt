-- Which tokens spell which program of the C subset, and which bytes (docs/LANGUAGE.md, "The C text").
use Rattle.std.specs.Prelude.{◌≡◌, ◌≢◌, ℕ, zero, suc, ◌<◌, ◌^◌, Bool, true, false, List, [], ◌∷◌, Option, Some, None, ⊤, codes, decimal}
use Rattle.std.specs.List.{AllByRecursion}
use Rattle.cg_base.specs.declared.kind.Word.{Word}
use Rattle.cg_base.specs.declared.kind.Word.TheVariants.{U8, U16, U32, U64}
use Rattle.cg_ctree.specs.declared.tree.CDecl.{CDecl}
use Rattle.cg_ctree.specs.declared.tree.COp.{COp}
use Rattle.cg_ctree.specs.declared.tree.COp.TheVariants as op
use Rattle.cg_ctree.specs.declared.tree.COpnd.{COpnd}
use Rattle.cg_ctree.specs.declared.tree.COpnd.TheVariants.{Number, Path}
use Rattle.cg_ctree.specs.declared.tree.CPath.{CPath}
use Rattle.cg_ctree.specs.declared.tree.CRhs.{CRhs}
use Rattle.cg_ctree.specs.declared.tree.CRhs.TheVariants.{Opnd, Conv, Binary, Flip, IsNull, Call, New}
use Rattle.cg_ctree.specs.declared.tree.CStruct.{CStruct}
use Rattle.cg_ctree.specs.declared.tree.CTy.{CTy}
use Rattle.cg_ctree.specs.declared.tree.CTy.TheVariants as ty
use Rattle.cg_ctree.specs.Tokens.{Token, name, word, plain, literal, sign, line, IsToken, first_line, second_line, Lexeme, Lexes}
use Rattle.cg_ctree.specs.Trees.{Stmt, assign, branch, while, switch, call, return', Block, stop, also, Cases, end, case, Body, Function, Program}

-- ---- what is spelled

-- a relation between the tokens from a place on and those behind what is read there ("The C text", the grammar)
abbrev pub Reading : Type 1
Reading = List Lexeme → List Lexeme → Type 0

-- one reading, and behind it another ("The C text", the grammar)
infixr 15 ◌then◌
abbrev pub ◌then◌ : Reading → Reading → Reading
(R then S) ts rest = (mid : List Lexeme) × R ts mid × S mid rest

-- one token ("The C text", the grammar)
abbrev pub token : Token → Reading
token t ts rest = (later : Bool) × (ts ≡ record { token = t; later = later } ∷ rest)

-- one sign ("The C text", the grammar)
abbrev pub mark : List ℕ → Reading
mark x = token (sign x)

-- how a word type is spelled ("The C text", `word`)
abbrev pub spelled : Word → List ℕ
spelled U8 = codes "uint8_t"
spelled U16 = codes "uint16_t"
spelled U32 = codes "uint32_t"
spelled U64 = codes "uint64_t"

-- the sign of an operation ("The C text", `bin`)
abbrev pub op_sign : COp → List ℕ
op_sign op.Add = codes "+"
op_sign op.Sub = codes "-"
op_sign op.Mul = codes "*"
op_sign op.Div = codes "/"
op_sign op.Rem = codes "%"
op_sign op.And = codes "&"
op_sign op.Or = codes "|"
op_sign op.Xor = codes "^"
op_sign op.Shl = codes "<<"
op_sign op.Shr = codes ">>"
op_sign op.Eq = codes "=="
op_sign op.Ne = codes "!="
op_sign op.Lt = codes "<"
op_sign op.Gt = codes ">"
op_sign op.Le = codes "<="
op_sign op.Ge = codes ">="

-- a word that operands may be cast to ("The C text", `cast`)
abbrev pub IsInner : Word → Type 0
IsInner U8 = ⊥
IsInner U16 = ⊥
IsInner U32 = ⊤
IsInner U64 = ⊤

-- one word of C ("The C text", words)
abbrev pub keyword : List ℕ → Reading
keyword x = token (word x)

-- a struct by its name ("The C text", `ty`)
abbrev pub ReadsStructName : List ℕ → Reading
ReadsStructName x = keyword (codes "struct") then token (name x)

-- a type ("The C text", `ty`)
abbrev pub ReadsType : CTy → Reading
ReadsType (ty.Word w) ts rest = keyword (spelled w) ts rest
ReadsType (ty.Struct x) ts rest = ReadsStructName x ts rest
ReadsType (ty.Pointer x) ts rest = (ReadsStructName x then mark (codes "*")) ts rest

-- a declaration, without what follows it ("The C text", `decl`)
abbrev pub ReadsDecl : CDecl → Reading
ReadsDecl d = ReadsType d.ty then token (name d.name)

-- further things, with a comma before each ("The C text", the grammar's `{"," ..}`)
abbrev pub ReadsMore : {A : Type 0} → (A → Reading) → List A → Reading
ReadsMore reads [] ts rest = ts ≡ rest
ReadsMore reads (x ∷ xs) ts rest = (mark (codes ",") then reads x then ReadsMore reads xs) ts rest

-- one thing or more, with commas between ("The C text", `decl` and `rhs`)
abbrev pub ReadsSome : {A : Type 0} → (A → Reading) → List A → Reading
ReadsSome reads [] ts rest = ⊥
ReadsSome reads (x ∷ xs) ts rest = (reads x then ReadsMore reads xs) ts rest

-- any number of things, with commas between ("The C text", `stmt`)
abbrev pub ReadsAny : {A : Type 0} → (A → Reading) → List A → Reading
ReadsAny reads [] ts rest = ts ≡ rest
ReadsAny reads (x ∷ xs) ts rest = (reads x then ReadsMore reads xs) ts rest

-- members, with a dot before each ("The C text", `path`)
abbrev pub ReadsDots : List (List ℕ) → Reading
ReadsDots [] ts rest = ts ≡ rest
ReadsDots (x ∷ xs) ts rest = (mark (codes ".") then token (name x) then ReadsDots xs) ts rest

-- the members of a path, with whether an arrow stands before the first ("The C text", `path`)
abbrev pub ReadsMembers : Bool → List (List ℕ) → Reading
ReadsMembers false xs ts rest = ReadsDots xs ts rest
ReadsMembers true [] ts rest = ⊥
ReadsMembers true (x ∷ xs) ts rest = (mark (codes "->") then token (name x) then ReadsDots xs) ts rest

-- a path ("The C text", `path`)
abbrev pub ReadsPath : CPath → Reading
ReadsPath p = token (name p.base) then ReadsMembers p.arrow p.members

-- an operand ("The C text", `opnd`)
abbrev pub ReadsOpnd : COpnd → Reading
ReadsOpnd (Number n) ts rest = (n < 2 ^ 64) × token (literal (decimal n)) ts rest
ReadsOpnd (Path p) ts rest = ReadsPath p ts rest

-- a word in parentheses ("The C text", `cast` and `rhs`)
abbrev pub ReadsTo : Word → Reading
ReadsTo w = mark (codes "(") then keyword (spelled w) then mark (codes ")")

-- an operand with a word in parentheses before it ("The C text", `cast`)
abbrev pub ReadsCast : Word → COpnd → Reading
ReadsCast w o = ReadsTo w then ReadsOpnd o

-- a call ("The C text", `rhs`)
abbrev pub ReadsCall : List ℕ → List COpnd → Reading
ReadsCall f os = token (name f) then mark (codes "(") then ReadsSome ReadsOpnd os then mark (codes ")")

-- the size of a struct ("The C text", `rhs`)
abbrev pub ReadsSize : List ℕ → Reading
ReadsSize x = keyword (codes "sizeof") then mark (codes "(") then ReadsStructName x then mark (codes ")")

-- a right side ("The C text", `rhs`)
abbrev pub ReadsRight : CRhs → Reading
ReadsRight (Opnd o) ts rest = ReadsOpnd o ts rest
ReadsRight (Conv w o) ts rest = ReadsCast w o ts rest
ReadsRight (Binary w v o l r) ts rest = IsInner v × (ReadsTo w then mark (codes "(") then ReadsCast v l then mark (op_sign o) then ReadsCast v r then mark (codes ")")) ts rest
ReadsRight (Flip w v o) ts rest = IsInner v × (ReadsTo w then mark (codes "(") then mark (codes "~") then ReadsCast v o then mark (codes ")")) ts rest
ReadsRight (IsNull o) ts rest = (ReadsTo U8 then mark (codes "(") then ReadsOpnd o then mark (codes "==") then token (plain (codes "0")) then mark (codes ")")) ts rest
ReadsRight (Call f os) ts rest = ReadsCall f os ts rest
ReadsRight (New o s) ts rest = (token (name (codes "cg_new")) then mark (codes "(") then ReadsOpnd o then mark (codes ",") then ReadsSize s then mark (codes ")")) ts rest

-- an operand in parentheses behind a word of C ("The C text", `stmt`)
abbrev pub ReadsTest : List ℕ → COpnd → Reading
ReadsTest x o = keyword x then mark (codes "(") then ReadsOpnd o then mark (codes ")")

-- the most statements that may be open inside each other ("The C text", depth)
abbrev pub most_open : ℕ
most_open = 4096

-- what stands in braces ("The C text", `stmt`)
abbrev pub braced : Reading → Reading
braced R = mark (codes "{") then R then mark (codes "}")

-- a case of a number ("The C text", `stmt`)
abbrev pub tagged : ℕ → Reading → Reading
tagged n R = keyword (codes "case") then token (plain (decimal n)) then mark (codes ":") then braced R then keyword (codes "break") then mark (codes ";")

-- Statements, where so many may still be open inside each other: a statement is open until its last token is read ("The C text",
-- `stmt` and depth).
unfoldable mutual
  pub ReadsStmt : ℕ → Stmt → Reading
  ReadsStmt room (assign p r) ts rest = (ReadsPath p then mark (codes "=") then ReadsRight r then mark (codes ";")) ts rest
  ReadsStmt room (branch o x y) ts rest = (ReadsTest (codes "if") o then braced (ReadsBlock room x) then keyword (codes "else") then braced (ReadsBlock room y)) ts rest
  ReadsStmt room (while o x) ts rest = (ReadsTest (codes "while") o then braced (ReadsBlock room x)) ts rest
  ReadsStmt room (switch o end) ts rest = ⊥
  ReadsStmt room (switch o (case n x cs)) ts rest = (ReadsTest (codes "switch") o then braced (ReadsCases room (case n x cs))) ts rest
  ReadsStmt room (call f os) ts rest = (token (name f) then mark (codes "(") then ReadsAny ReadsOpnd os then mark (codes ")") then mark (codes ";")) ts rest
  ReadsStmt room (return' o) ts rest = (keyword (codes "return") then ReadsOpnd o then mark (codes ";")) ts rest

  -- statements in a row
  pub ReadsBlock : ℕ → Block → Reading
  ReadsBlock room stop ts rest = ts ≡ rest
  ReadsBlock zero (also s b) ts rest = ⊥
  ReadsBlock (suc room) (also s b) ts rest = (ReadsStmt room s then ReadsBlock (suc room) b) ts rest

  -- cases in a row, each with its number
  pub ReadsCases : ℕ → Cases → Reading
  ReadsCases room end ts rest = ts ≡ rest
  ReadsCases room (case n x cs) ts rest = (n < 2 ^ 64) × (tagged n (ReadsBlock room x) then ReadsCases room cs) ts rest

-- declarations in a row, with a semicolon behind each ("The C text", `decl`)
abbrev pub ReadsLocals : List CDecl → Reading
ReadsLocals [] ts rest = ts ≡ rest
ReadsLocals (d ∷ ds) ts rest = (ReadsDecl d then mark (codes ";") then ReadsLocals ds) ts rest

-- a function's body, or that it has none ("The C text", `decl`)
abbrev pub ReadsBody : Option Body → Reading
ReadsBody None ts rest = mark (codes ";") ts rest
ReadsBody (Some b) ts rest = braced (ReadsLocals b.locals then ReadsBlock most_open b.block) ts rest

-- a function ("The C text", `decl`)
abbrev pub ReadsFunction : Function → Reading
ReadsFunction f = ReadsType f.ty then token (name f.name) then mark (codes "(") then ReadsSome ReadsDecl f.params then mark (codes ")") then ReadsBody f.body

-- a struct, which has a member at least ("The C text", `decl`)
abbrev pub ReadsStruct : CStruct → Reading
ReadsStruct s ts rest = (s.members ≢ []) × (ReadsStructName s.name then braced (ReadsLocals s.members) then mark (codes ";")) ts rest

-- a declaration of a file ("The C text", `decl`)
pub data Item : Type 0 where
  of_struct : CStruct → Item
  of_function : Function → Item

abbrev pub ReadsItem : Item → Reading
ReadsItem (of_struct s) = ReadsStruct s
ReadsItem (of_function f) = ReadsFunction f

-- declarations in a row ("The C text", `file`)
abbrev pub ReadsItems : List Item → Reading
ReadsItems [] ts rest = ts ≡ rest
ReadsItems (i ∷ is) ts rest = (ReadsItem i then ReadsItems is) ts rest

-- the structs and the functions among declarations, each in order ("The C text", `file`)
abbrev pub structs_of : List Item → List CStruct
structs_of [] = []
structs_of (of_struct s ∷ is) = s ∷ structs_of is
structs_of (of_function f ∷ is) = structs_of is

abbrev pub functions_of : List Item → List Function
functions_of [] = []
functions_of (of_struct s ∷ is) = functions_of is
functions_of (of_function f ∷ is) = f ∷ functions_of is

-- the next token, if there is one, stands on a later line ("The C text", include lines)
abbrev pub IsOnLaterLine : List Lexeme → Type 0
IsOnLaterLine [] = ⊤
IsOnLaterLine (t ∷ ts) = t.later ≡ true

-- an include line, with nothing but white space and comments behind it on its line ("The C text", include lines)
abbrev pub ReadsLine : List ℕ → Reading
ReadsLine x ts rest = IsOnLaterLine rest × token (line x) ts rest

-- the tokens spell the program: the two include lines, and then its structs and functions, in any order among each other
-- ("The C text", `file`)
abbrev pub SpellsTokens : List Lexeme → Program → Type 0
SpellsTokens ts p = (is : List Item) × (p.structs ≡ structs_of is) × (p.functions ≡ functions_of is) × (ReadsLine first_line then ReadsLine second_line then ReadsItems is) ts []

-- the bytes are a text of the program ("The C text")
abbrev pub CSpells : List ℕ → Program → Type 0
CSpells bytes p = (ts : List Lexeme) × Lexes bytes ts × SpellsTokens ts p

-- ---- what can be spelled

-- a name of C, and no word of C ("The C text", names)
abbrev pub IsCName : List ℕ → Type 0
IsCName x = IsToken (name x)

-- a type that can be printed ("The C text", what can be printed)
abbrev pub IsPrintableType : CTy → Type 0
IsPrintableType (ty.Word w) = ⊤
IsPrintableType (ty.Struct x) = IsCName x
IsPrintableType (ty.Pointer x) = IsCName x

-- a declaration that can be printed ("The C text", what can be printed)
abbrev pub IsPrintableDecl : CDecl → Type 0
IsPrintableDecl d = IsPrintableType d.ty × IsCName d.name

-- there is one at least, and each passes ("The C text", what can be printed)
abbrev pub SomeAll : {A : Type 0} → (A → Type 0) → List A → Type 0
SomeAll P [] = ⊥
SomeAll P (x ∷ xs) = P x × AllByRecursion P xs

-- behind an arrow stands a member ("The C text", what can be printed)
abbrev pub HasMembers : Bool → List (List ℕ) → Type 0
HasMembers true xs = SomeAll IsCName xs
HasMembers false xs = AllByRecursion IsCName xs

-- a path that can be printed ("The C text", what can be printed)
abbrev pub IsPrintablePath : CPath → Type 0
IsPrintablePath p = IsCName p.base × HasMembers p.arrow p.members

-- an operand that can be printed: a number that fits, or a path ("The C text", what can be printed)
abbrev pub IsPrintableOpnd : COpnd → Type 0
IsPrintableOpnd (Number n) = n < 2 ^ 64
IsPrintableOpnd (Path p) = IsPrintablePath p

-- a right side that can be printed ("The C text", what can be printed)
abbrev pub IsPrintableRight : CRhs → Type 0
IsPrintableRight (Opnd o) = IsPrintableOpnd o
IsPrintableRight (Conv w o) = IsPrintableOpnd o
IsPrintableRight (Binary w v o l r) = IsInner v × IsPrintableOpnd l × IsPrintableOpnd r
IsPrintableRight (Flip w v o) = IsInner v × IsPrintableOpnd o
IsPrintableRight (IsNull o) = IsPrintableOpnd o
IsPrintableRight (Call f os) = IsCName f × SomeAll IsPrintableOpnd os
IsPrintableRight (New o s) = IsPrintableOpnd o × IsCName s

-- Statements that can be printed, where so many may still be open inside each other ("The C text", what can be printed).
unfoldable mutual
  pub IsPrintableStmt : ℕ → Stmt → Type 0
  IsPrintableStmt room (assign p r) = IsPrintablePath p × IsPrintableRight r
  IsPrintableStmt room (branch o x y) = IsPrintableOpnd o × IsPrintableBlock room x × IsPrintableBlock room y
  IsPrintableStmt room (while o x) = IsPrintableOpnd o × IsPrintableBlock room x
  IsPrintableStmt room (switch o end) = ⊥
  IsPrintableStmt room (switch o (case n x cs)) = IsPrintableOpnd o × ArePrintableCases room (case n x cs)
  IsPrintableStmt room (call f os) = IsCName f × AllByRecursion IsPrintableOpnd os
  IsPrintableStmt room (return' o) = IsPrintableOpnd o

  pub IsPrintableBlock : ℕ → Block → Type 0
  IsPrintableBlock room stop = ⊤
  IsPrintableBlock zero (also s b) = ⊥
  IsPrintableBlock (suc room) (also s b) = IsPrintableStmt room s × IsPrintableBlock (suc room) b

  pub ArePrintableCases : ℕ → Cases → Type 0
  ArePrintableCases room end = ⊤
  ArePrintableCases room (case n x cs) = (n < 2 ^ 64) × IsPrintableBlock room x × ArePrintableCases room cs

-- a body that can be printed, where there is one ("The C text", what can be printed)
abbrev pub IsPrintableBody : Option Body → Type 0
IsPrintableBody None = ⊤
IsPrintableBody (Some b) = AllByRecursion IsPrintableDecl b.locals × IsPrintableBlock most_open b.block

-- a function that can be printed ("The C text", what can be printed)
abbrev pub IsPrintableFunction : Function → Type 0
IsPrintableFunction f = IsPrintableType f.ty × IsCName f.name × SomeAll IsPrintableDecl f.params × IsPrintableBody f.body

-- a struct that can be printed ("The C text", what can be printed)
abbrev pub IsPrintableStruct : CStruct → Type 0
IsPrintableStruct s = IsCName s.name × SomeAll IsPrintableDecl s.members

-- a program that has a text: its names are C names and no words of C, its numbers fit, each list to which the grammar gives at
-- least one item has one, a path with an arrow has a member, operands are cast to words of 32 or 64 bits, and statements nest at
-- most 4,096 deep ("The C text", what can be printed)
abbrev pub IsPrintable : Program → Type 0
IsPrintable p = AllByRecursion IsPrintableStruct p.structs × AllByRecursion IsPrintableFunction p.functions
