-- What has been read of a declaration, of a row of them and of a head is what its state spells.
use Rattle.std.proofs.Common.{◌≡◌, ℕ, List, [], ◌∷◌, ◌++◌, refl, Option, Some, None}
use Rattle.std.specs.Prelude.{codes, ⊤}
use Rattle.cg_ctree.specs.declared.tree.CDecl.{CDecl}
use Rattle.cg_ctree.specs.declared.tree.COp.TheVariants.{Mul}
use Rattle.cg_ctree.specs.declared.tree.CTy.{CTy}
use Rattle.cg_ctree.specs.declared.tree.CTy.TheVariants as ty
use Rattle.cg_ctree.specs.Spells.{Reading, ◌then◌, keyword, mark, ReadsStructName, ReadsType, ReadsDecl, ReadsSome, ReadsLocals}
use Rattle.cg_ctree.specs.Tokens.{Lexeme}
use Rattle.cg_cread_parts.specs.Declarations as declarations
use Rattle.cg_cread_parts.specs.Declarations.{decl_of, starred, declaration_step, declaration_end, declaration_parts, type_struct, declaration_struct, declared, on_row, row_step}
use Rattle.cg_cread_parts.specs.Heads.{opened, on_name, parted, closed, on_param, head_step, head_end, head_struct}
use Rattle.cg_cread_parts.specs.Symbols.{Symbol, named, typed, keyed, opening, closing, comma, semicolon, operation}
use Rattle.cg_cread_parts.specs.declared.declaration.Declaration.{Declaration}
use Rattle.cg_cread_parts.specs.declared.declaration.Declaration.TheVariants.{Wanted, StructRead, Typed, Named, Stuck}
use Rattle.cg_cread_parts.specs.declared.declaration.Row.{Row}
use Rattle.cg_cread_parts.specs.declared.head.Signature.{Signature}
use Rattle.cg_cread_parts.specs.declared.head.Head.{Head}
use Rattle.cg_cread_parts.specs.declared.head.Head.TheVariants as head
use Rattle.cg_cread_parts.specs.declared.symbol.Keyword.TheVariants as key
use Rattle.cg_cread_parts.proofs.Known.{Means, seen}
use Rattle.cg_cread_parts.proofs.Lists.{Trailing, some_behind, trailing_behind, local_behind}
use Rattle.cg_cread_parts.proofs.OperandSound.{first}

-- what is read of a declaration
abbrev pub DeclarationRead : Declaration → Reading
DeclarationRead Wanted all rest = all ≡ rest
DeclarationRead StructRead all rest = keyword (codes "struct") all rest
DeclarationRead (Typed t) all rest = ReadsType t all rest
DeclarationRead (Named u x) all rest = ReadsDecl (decl_of u x) all rest
DeclarationRead Stuck all rest = ⊤

-- what is read where a declaration ends, and where a struct is named
abbrev pub DeclarationIs : Option CDecl → Reading
DeclarationIs None all rest = ⊤
DeclarationIs (Some d) all rest = ReadsDecl d all rest

abbrev pub PartsIs : Option (CTy × List ℕ) → Reading
PartsIs None all rest = ⊤
PartsIs (Some p) all rest = ReadsDecl (decl_of p.0 p.1) all rest

abbrev pub StructIs : Option (List ℕ) → Reading
StructIs None all rest = ⊤
StructIs (Some x) all rest = ReadsStructName x all rest

pub declaration_is : (m : Declaration) (all rest : List Lexeme) → DeclarationRead m all rest → DeclarationIs (declaration_end m) all rest
declaration_is (Named u x) all rest r = r
declaration_is _ all rest r = tt

parts_is : (m : Declaration) (all rest : List Lexeme) → DeclarationRead m all rest → PartsIs (declaration_parts m) all rest
parts_is (Named u x) all rest r = r
parts_is _ all rest r = tt

type_struct_is : (t : CTy) (all rest : List Lexeme) → ReadsType t all rest → StructIs (type_struct t) all rest
type_struct_is (ty.Struct x) all rest r = r
type_struct_is _ all rest r = tt

struct_is : (m : Declaration) (all rest : List Lexeme) → DeclarationRead m all rest → StructIs (declaration_struct m) all rest
struct_is (Typed t) all rest r = type_struct_is t all rest r
struct_is _ all rest r = tt

module _ (t : Lexeme) (rest all : List Lexeme) where
  wanted_holds : (y : Symbol) → Means t.token y → all ≡ t ∷ rest → DeclarationRead (declarations.on_wanted y) all rest
  wanted_holds (typed w) h r = first t rest all _ r h
  wanted_holds (keyed key.Struct) h r = first t rest all _ r h
  wanted_holds _ h r = tt

  struct_holds : (y : Symbol) → Means t.token y → keyword (codes "struct") all (t ∷ rest) → DeclarationRead (declarations.on_struct y) all rest
  struct_holds (named x) h r = (_, r, seen _ t rest h)
  struct_holds _ h r = tt

  starred_holds : Means t.token (operation Mul) → (u : CTy) → ReadsType u all (t ∷ rest) → DeclarationRead (starred u) all rest
  starred_holds h (ty.Struct x) r = (_, r, seen _ t rest h)
  starred_holds h _ r = tt

  typed_holds : (u : CTy) (y : Symbol) → Means t.token y → ReadsType u all (t ∷ rest) → DeclarationRead (declarations.on_typed u y) all rest
  typed_holds u (named x) h r = (_, r, seen _ t rest h)
  typed_holds u (operation Mul) h r = starred_holds h u r
  typed_holds u _ h r = tt

  -- one token more of a declaration
  pub declaration_holds : (m : Declaration) (y : Symbol) → Means t.token y → DeclarationRead m all (t ∷ rest) → DeclarationRead (declaration_step m y) all rest
  declaration_holds Wanted y h r = wanted_holds y h r
  declaration_holds StructRead y h r = struct_holds y h r
  declaration_holds (Typed u) y h r = typed_holds u y h r
  declaration_holds (Named u x) y h r = tt
  declaration_holds Stuck y h r = tt

-- ---- rows

-- what is read of a row
abbrev pub RowRead : Row → Reading
RowRead r = ReadsLocals r.before then DeclarationRead r.at

module _ (t : Lexeme) (rest all : List Lexeme) where
  declared_holds : Means t.token semicolon → (ds : List CDecl) (o : Option CDecl) → (ReadsLocals ds then DeclarationIs o) all (t ∷ rest) → RowRead (declared ds o) all rest
  declared_holds h ds None r = (r.0, r.1, tt)
  declared_holds h ds (Some d) r = (rest, local_behind ds d all r.0 rest r.1 (_, r.2, seen _ t rest h), refl)

  on_row_holds : (ds : List CDecl) (m : Declaration) (y : Symbol) → Means t.token y → (ReadsLocals ds then DeclarationRead m) all (t ∷ rest) → RowRead (on_row ds m y) all rest
  on_row_holds ds m semicolon h r = declared_holds h ds (declaration_end m) (r.0, r.1, declaration_is m r.0 (t ∷ rest) r.2)
  on_row_holds ds m y h r = (r.0, r.1, declaration_holds t rest r.0 m y h r.2)

  -- one token more of a row
  pub row_holds : (m : Row) (y : Symbol) → Means t.token y → RowRead m all (t ∷ rest) → RowRead (row_step m y) all rest
  row_holds m y h r = on_row_holds m.before m.at y h r

-- ---- heads

-- what is read of a function's head
abbrev pub SignatureRead : Signature → Reading
SignatureRead s = ReadsDecl (decl_of s.ty s.name) then mark (codes "(") then ReadsSome ReadsDecl s.params then mark (codes ")")

abbrev pub HeadRead : Head → Reading
HeadRead (head.InName m) all rest = DeclarationRead m all rest
HeadRead (head.InParam s m) all rest = (ReadsDecl (decl_of s.ty s.name) then mark (codes "(") then Trailing ReadsDecl s.params then DeclarationRead m) all rest
HeadRead (head.Closed s) all rest = SignatureRead s all rest
HeadRead head.Stuck all rest = ⊤

-- what is read where a head ends
abbrev pub HeadIs : Option Signature → Reading
HeadIs None all rest = ⊤
HeadIs (Some s) all rest = SignatureRead s all rest

module _ (t : Lexeme) (rest all : List Lexeme) where
  opened_holds : Means t.token opening → (o : Option (CTy × List ℕ)) → PartsIs o all (t ∷ rest) → HeadRead (opened o) all rest
  opened_holds h None r = tt
  opened_holds h (Some d) r = (_, r, (rest, seen _ t rest h, (rest, refl, refl)))

  name_holds : (m : Declaration) (y : Symbol) → Means t.token y → DeclarationRead m all (t ∷ rest) → HeadRead (on_name m y) all rest
  name_holds m opening h r = opened_holds h (declaration_parts m) (parts_is m all (t ∷ rest) r)
  name_holds m y h r = declaration_holds t rest all m y h r

  parted_holds : Means t.token comma → (s : Signature) (o : Option CDecl) → (ReadsDecl (decl_of s.ty s.name) then mark (codes "(") then Trailing ReadsDecl s.params then DeclarationIs o) all (t ∷ rest) → HeadRead (parted s o) all rest
  parted_holds h s None r = tt
  parted_holds h s (Some d) r =
      let q = r.2.2 in
      let z = some_behind ReadsDecl s.params d r.2.0 q.0 (t ∷ rest) q.1 q.2 in
      (r.0, r.1, (r.2.0, r.2.1, (rest, trailing_behind ReadsDecl (s.params ++ d ∷ []) r.2.0 (t ∷ rest) rest z (seen _ t rest h), refl)))

  closed_holds : Means t.token closing → (s : Signature) (o : Option CDecl) → (ReadsDecl (decl_of s.ty s.name) then mark (codes "(") then Trailing ReadsDecl s.params then DeclarationIs o) all (t ∷ rest) → HeadRead (closed s o) all rest
  closed_holds h s None r = tt
  closed_holds h s (Some d) r =
      let q = r.2.2 in
      (r.0, r.1, (r.2.0, r.2.1, (_, some_behind ReadsDecl s.params d r.2.0 q.0 (t ∷ rest) q.1 q.2, seen _ t rest h)))

  param_holds : (s : Signature) (m : Declaration) (y : Symbol) → Means t.token y → HeadRead (head.InParam s m) all (t ∷ rest) → HeadRead (on_param s m y) all rest
  param_holds s m comma h r = let q = r.2.2 in parted_holds h s (declaration_end m) (r.0, r.1, (r.2.0, r.2.1, (q.0, q.1, declaration_is m q.0 (t ∷ rest) q.2)))
  param_holds s m closing h r = let q = r.2.2 in closed_holds h s (declaration_end m) (r.0, r.1, (r.2.0, r.2.1, (q.0, q.1, declaration_is m q.0 (t ∷ rest) q.2)))
  param_holds s m y h r = let q = r.2.2 in (r.0, r.1, (r.2.0, r.2.1, (q.0, q.1, declaration_holds t rest q.0 m y h q.2)))

  -- one token more of a head
  pub head_holds : (m : Head) (y : Symbol) → Means t.token y → HeadRead m all (t ∷ rest) → HeadRead (head_step m y) all rest
  head_holds (head.InName m) y h r = name_holds m y h r
  head_holds (head.InParam s m) y h r = param_holds s m y h r
  head_holds (head.Closed s) y h r = tt
  head_holds head.Stuck y h r = tt

pub head_is : (m : Head) (all rest : List Lexeme) → HeadRead m all rest → HeadIs (head_end m) all rest
head_is (head.Closed s) all rest r = r
head_is _ all rest r = tt

pub head_struct_is : (m : Head) (all rest : List Lexeme) → HeadRead m all rest → StructIs (head_struct m) all rest
head_struct_is (head.InName m) all rest r = struct_is m all rest r
head_struct_is _ all rest r = tt
