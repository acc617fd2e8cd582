-- The machine reads each declaration, each row of them and each head of a function that the tokens spell.
use Rattle.std.proofs.Common.{◌≡◌, ℕ, List, [], ◌∷◌, ◌++◌, refl, sym, subst, append_assoc, true, false, Bool}
use Rattle.std.specs.Prelude.{codes, not}
use Rattle.std.proofs.lemmas.List.{append-nil}
use Rattle.cg_ctree.specs.declared.tree.CDecl.{CDecl}
use Rattle.cg_ctree.specs.declared.tree.COp.TheVariants.{Mul}
use Rattle.cg_ctree.specs.declared.tree.CTy.{CTy}
use Rattle.cg_ctree.specs.declared.tree.CTy.TheVariants as ty
use Rattle.cg_ctree.specs.Spells.{◌then◌, mark, token, ReadsType, ReadsDecl, ReadsMore, ReadsSome, ReadsLocals, ReadsStructName}
use Rattle.cg_ctree.specs.Tokens.{name, Lexeme}
use Rattle.cg_cread_parts.specs.Declarations.{declaration_step, is_whole, row, row_step}
use Rattle.cg_cread_parts.specs.Heads.{head_step}
use Rattle.cg_cread_parts.specs.Symbols.{Symbol, named, typed, keyed, opening, closing, comma, semicolon, operation, is_type, token_of}
use Rattle.cg_cread_parts.specs.declared.declaration.Declaration.{Declaration}
use Rattle.cg_cread_parts.specs.declared.declaration.Declaration.TheVariants.{Wanted, StructRead, Typed, Named, Stuck}
use Rattle.cg_cread_parts.specs.declared.declaration.Row.{Row}
use Rattle.cg_cread_parts.specs.declared.head.Signature.{Signature}
use Rattle.cg_cread_parts.specs.declared.head.Head.{Head}
use Rattle.cg_cread_parts.specs.declared.head.Head.TheVariants as head
use Rattle.cg_cread_parts.specs.declared.symbol.Keyword.TheVariants as key
use Rattle.cg_cread_parts.proofs.Carried.{Moves, MovesAt}
use Rattle.cg_cread_parts.proofs.Known.{Fits}

-- the symbols of a declaration
abbrev pub in_type : Symbol → Bool
in_type (typed w) = true
in_type (named x) = true
in_type (keyed key.Struct) = true
in_type (operation Mul) = true
in_type y = false

abbrev pub in_declaration : Declaration → Symbol → Bool
in_declaration Wanted y = is_type y
in_declaration m y = in_type y

pub is_in_type : (m : Declaration) (y : Symbol) → in_declaration m y ≡ true → in_type y ≡ true
is_in_type Wanted (typed w) i = refl
is_in_type Wanted (keyed key.Struct) i = refl
is_in_type Wanted _ i = cc
is_in_type StructRead y i = i
is_in_type (Typed t) y i = i
is_in_type (Named t x) y i = i
is_in_type Stuck y i = i

module _ (P : Declaration → List Lexeme → Type 0) (move : MovesAt Declaration declaration_step in_declaration P) (Q : List Lexeme → Type 0) (enter : (y : Symbol) → Fits y → is_type y ≡ true → (ts mid : List Lexeme) → token (token_of y) ts mid → P (declaration_step Wanted y) mid → Q ts) where
  -- the name of a struct, and a type
  pub struct_read : (x : List ℕ) (ts rest : List Lexeme) → ReadsStructName x ts rest → P (Typed (ty.Struct x)) rest → Q ts
  struct_read x ts rest r h = enter (keyed key.Struct) tt refl ts r.0 r.1 (move (named x) tt StructRead refl r.0 rest r.2 h)

  type_read : (t : CTy) (ts rest : List Lexeme) → ReadsType t ts rest → P (Typed t) rest → Q ts
  type_read (ty.Word w) ts rest r h = enter (typed w) tt refl ts rest r h
  type_read (ty.Struct x) ts rest r h = struct_read x ts rest r h
  type_read (ty.Pointer x) ts rest r h = struct_read x ts r.0 r.1 (move (operation Mul) tt (Typed (ty.Struct x)) refl r.0 rest r.2 h)

  pub declaration_read : (d : CDecl) (ts rest : List Lexeme) → ReadsDecl d ts rest → P (Named d.ty d.name) rest → Q ts
  declaration_read d ts rest r h = type_read d.ty ts r.0 r.1 (move (named d.name) tt (Typed d.ty) refl r.0 rest r.2 h)

-- ---- rows

-- the symbols of a row
abbrev pub in_row : Declaration → Symbol → Bool
in_row m semicolon = not (is_whole m)
in_row m y = in_declaration m y

not_semicolon : (m : Declaration) → in_declaration m semicolon ≡ false
not_semicolon Wanted = refl
not_semicolon _ = refl

pub is_in_row : (m : Declaration) (y : Symbol) → in_declaration m y ≡ true → in_row m y ≡ true
is_in_row m semicolon i = let n : in_declaration m semicolon ≡ false = not_semicolon m in cc
is_in_row m y i = i

pub row_on : (ds : List CDecl) (m : Declaration) (y : Symbol) → in_declaration m y ≡ true → row_step (row ds m) y ≡ row ds (declaration_step m y)
row_on ds m semicolon i = let n : in_declaration m semicolon ≡ false = not_semicolon m in cc
row_on ds m _ i = refl

abbrev pub in_a_row : Row → Symbol → Bool
in_a_row r y = in_row r.at y

module _ (P : Row → List Lexeme → Type 0) (move : MovesAt Row row_step in_a_row P) where
  row_part : (ds : List CDecl) → MovesAt Declaration declaration_step in_declaration (λ m ts. P (row ds m) ts)
  row_part ds y f m i ts rest t h =
      let Q : Row → Type 0 = λ z. P z rest in
      move y f (row ds m) (is_in_row m y i) ts rest t (subst Q (sym (row_on ds m y i)) h)

  pub row_read : (ls ds : List CDecl) (ts rest : List Lexeme) → ReadsLocals ls ts rest → P (row (ds ++ ls) Wanted) rest → P (row ds Wanted) ts
  row_read [] ds ts rest r h =
      let Q : List CDecl → Type 0 = λ z. P (row z Wanted) rest in
      let S : List Lexeme → Type 0 = P (row ds Wanted) in
      subst S (sym r) (subst Q (append-nil ds) h)
  row_read (l ∷ ls) ds ts rest r h =
      let a = r.2 in
      let Q : List CDecl → Type 0 = λ z. P (row z Wanted) rest in
      declaration_read (λ m us. P (row ds m) us) (row_part ds) (P (row ds Wanted)) (λ y f i us mid t k. row_part ds y f Wanted i us mid t k) l ts r.0 r.1
      (move semicolon tt (row ds (Named l.ty l.name)) refl r.0 a.0 a.1
      (row_read ls (ds ++ l ∷ []) a.0 rest a.2 (subst Q (sym (append_assoc ds (l ∷ []) ls)) h)))

-- ---- heads

-- the symbols of a head
abbrev pub in_head : Symbol → Bool
in_head opening = true
in_head closing = true
in_head comma = true
in_head y = in_type y

pub in_a_head : (y : Symbol) → in_type y ≡ true → in_head y ≡ true
in_a_head opening i = refl
in_a_head closing i = refl
in_a_head comma i = refl
in_a_head y i = i

pub name_on : (m : Declaration) (y : Symbol) → in_type y ≡ true → head_step (head.InName m) y ≡ head.InName (declaration_step m y)
name_on m opening i = cc
name_on m _ i = refl

pub param_on : (s : Signature) (m : Declaration) (y : Symbol) → in_type y ≡ true → head_step (head.InParam s m) y ≡ head.InParam s (declaration_step m y)
param_on s m comma i = cc
param_on s m closing i = cc
param_on s m _ i = refl

module _ (P : Head → List Lexeme → Type 0) (move : Moves Head head_step in_head P) where
  pub name_part : MovesAt Declaration declaration_step in_declaration (λ m ts. P (head.InName m) ts)
  name_part y f m i ts rest t h =
      let j = is_in_type m y i in
      let Q : Head → Type 0 = λ z. P z rest in
      move y f (in_a_head y j) (head.InName m) ts rest t (subst Q (sym (name_on m y j)) h)

  param_part : (s : Signature) → MovesAt Declaration declaration_step in_declaration (λ m ts. P (head.InParam s m) ts)
  param_part s y f m i ts rest t h =
      let j = is_in_type m y i in
      let Q : Head → Type 0 = λ z. P z rest in
      move y f (in_a_head y j) (head.InParam s m) ts rest t (subst Q (sym (param_on s m y j)) h)

  param_read : (s : Signature) (d : CDecl) (ts rest : List Lexeme) → ReadsDecl d ts rest → P (head.InParam s (Named d.ty d.name)) rest → P (head.InParam s Wanted) ts
  param_read s d ts rest r h =
      declaration_read (λ m us. P (head.InParam s m) us) (param_part s) (P (head.InParam s Wanted)) (λ y f i us mid t k. param_part s y f Wanted i us mid t k) d ts rest r h

  abbrev of : CDecl → List CDecl → Signature
  of d ps = record { ty = d.ty; name = d.name; params = ps }

  more_read : (ps : List CDecl) (d : CDecl) (before : List CDecl) (p : CDecl) (ts mid rest : List Lexeme) → ReadsMore ReadsDecl ps ts mid → mark (codes ")") mid rest → P (head.Closed (of d (before ++ p ∷ ps))) rest → P (head.InParam (of d before) (Named p.ty p.name)) ts
  more_read [] d before p ts mid rest r c h =
      let Q : List Lexeme → Type 0 = λ us. mark (codes ")") us rest in
      move closing tt refl (head.InParam (of d before) (Named p.ty p.name)) ts rest (subst Q (sym r) c) h
  more_read (q ∷ ps) d before p ts mid rest r c h =
      let Q : List CDecl → Type 0 = λ z. P (head.Closed (of d z)) rest in
      move comma tt refl (head.InParam (of d before) (Named p.ty p.name)) ts r.0 r.1
      (param_read (of d (before ++ p ∷ [])) q r.0 r.2.0 r.2.1
      (more_read ps d (before ++ p ∷ []) q r.2.0 mid rest r.2.2 c (subst Q (sym (append_assoc before (p ∷ []) (q ∷ ps))) h)))

  params_read : (ps : List CDecl) (d : CDecl) (ts mid rest : List Lexeme) → ReadsSome ReadsDecl ps ts mid → mark (codes ")") mid rest → P (head.Closed (of d ps)) rest → P (head.InParam (of d []) Wanted) ts
  params_read [] d ts mid rest r c h = absurd r
  params_read (p ∷ ps) d ts mid rest r c h = param_read (of d []) p ts r.0 r.1 (more_read ps d [] p r.0 mid rest r.2 c h)

  -- a head, from where the first symbol of its type leads into it
  pub head_read : (Q : List Lexeme → Type 0) → ((y : Symbol) → Fits y → is_type y ≡ true → (ts mid : List Lexeme) → token (token_of y) ts mid → P (head.InName (declaration_step Wanted y)) mid → Q ts) → (t : CTy) (x : List ℕ) (ps : List CDecl) (ts rest : List Lexeme) → (ReadsType t then token (name x) then mark (codes "(") then ReadsSome ReadsDecl ps then mark (codes ")")) ts rest → P (head.Closed (record { ty = t; name = x; params = ps })) rest → Q ts
  head_read Q enter t x ps ts rest r h =
      let a = r.2 in let b = a.2 in let c = b.2 in
      declaration_read (λ m us. P (head.InName m) us) name_part Q enter (record { ty = t; name = x }) ts a.0 (r.0, r.1, a.1)
      (move opening tt refl (head.InName (Named t x)) a.0 b.0 b.1
      (params_read ps (record { ty = t; name = x }) b.0 c.0 rest c.1 c.2 h))
