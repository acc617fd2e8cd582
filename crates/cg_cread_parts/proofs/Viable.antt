-- Whatever is read of a piece, something completes it.
use Rattle.std.proofs.Common.{◌≡◌, ℕ, List, [], ◌∷◌, ◌++◌, refl, sym, subst, lit<, true, Bool, Some}
use Rattle.cg_base.specs.declared.kind.Word.TheVariants.{U32}
use Rattle.cg_ctree.specs.declared.tree.CDecl.{CDecl}
use Rattle.cg_ctree.specs.declared.tree.COpnd.{COpnd}
use Rattle.cg_ctree.specs.declared.tree.COpnd.TheVariants as opnd
use Rattle.cg_ctree.specs.declared.tree.CTy.{CTy}
use Rattle.cg_cread_parts.specs.Declarations.{declaration_step, declaration_is_open, row, row_step}
use Rattle.cg_cread_parts.specs.Heads.{bare, head_step, head_is_open}
use Rattle.cg_cread_parts.specs.Operands.{operand_step, operand_end, operand_is_open}
use Rattle.cg_cread_parts.specs.Symbols.{Symbol, named, typed, number, opening, closing, semicolon, is_part}
use Rattle.cg_cread_parts.specs.declared.declaration.Declaration.{Declaration}
use Rattle.cg_cread_parts.specs.declared.declaration.Declaration.TheVariants as declaration
use Rattle.cg_cread_parts.specs.declared.declaration.Row.{Row}
use Rattle.cg_cread_parts.specs.declared.head.Signature.{Signature}
use Rattle.cg_cread_parts.specs.declared.head.Head.{Head}
use Rattle.cg_cread_parts.specs.declared.head.Head.TheVariants as head
use Rattle.cg_cread_parts.specs.declared.operand.Operand.{Operand}
use Rattle.cg_cread_parts.specs.declared.operand.Operand.TheVariants as operand
use Rattle.cg_cread_parts.proofs.DeclarationComplete.{in_declaration, in_head, is_in_type, is_in_row, in_a_row, row_on, in_a_head, name_on, param_on}
use Rattle.cg_cread_parts.proofs.Known.{Fits}

-- what can be completed behind a symbol can be completed before it
abbrev pub Feeds : (M : Type 0) → (M → Symbol → M) → (Symbol → Bool) → (M → Type 0) → Type 0
Feeds M step inside P = (y : Symbol) → Fits y → inside y ≡ true → (m : M) → P (step m y) → P m

abbrev pub FeedsAt : (M : Type 0) → (M → Symbol → M) → (M → Symbol → Bool) → (M → Type 0) → Type 0
FeedsAt M step inside P = (y : Symbol) → Fits y → (m : M) → inside m y ≡ true → P (step m y) → P m

-- ---- operands

module _ (P : Operand → Type 0) (fed : Feeds Operand operand_step is_part P) where
  pub operand_viable : ((m : Operand) (o : COpnd) → operand_end m ≡ Some o → P m) → (m : Operand) → operand_is_open m ≡ true → P m
  operand_viable ends operand.Wanted h = fed (number 0) (lit< tt) refl operand.Wanted (ends (operand.Number 0) (opnd.Number 0) refl)
  operand_viable ends (operand.Number n) h = ends (operand.Number n) (opnd.Number n) refl
  operand_viable ends (operand.Path p) h = ends (operand.Path p) (opnd.Path p) refl
  operand_viable ends (operand.Dot p) h = fed (named []) tt refl (operand.Dot p) (ends (operand.Path _) (opnd.Path _) refl)
  operand_viable ends (operand.Arrow x) h = fed (named []) tt refl (operand.Arrow x) (ends (operand.Path _) (opnd.Path _) refl)
  operand_viable ends operand.Stuck h = cc

-- ---- declarations

module _ (P : Declaration → Type 0) (fed : FeedsAt Declaration declaration_step in_declaration P) (ends : (t : CTy) (x : List ℕ) → P (declaration.Named t x)) where
  type_read : (t : CTy) → P (declaration.Typed t)
  type_read t = fed (named []) tt (declaration.Typed t) refl (ends t [])

  pub declaration_viable : (m : Declaration) → declaration_is_open m ≡ true → P m
  declaration_viable declaration.Wanted h = fed (typed U32) tt declaration.Wanted refl (type_read _)
  declaration_viable declaration.StructRead h = fed (named []) tt declaration.StructRead refl (type_read _)
  declaration_viable (declaration.Typed t) h = type_read t
  declaration_viable (declaration.Named t x) h = ends t x
  declaration_viable declaration.Stuck h = cc

module _ (P : Row → Type 0) (fed : FeedsAt Row row_step in_a_row P) where
  row_part_fed : (ds : List CDecl) → FeedsAt Declaration declaration_step in_declaration (λ m. P (row ds m))
  row_part_fed ds y f m i h =
      let Q : Row → Type 0 = P in
      fed y f (row ds m) (is_in_row m y i) (subst Q (sym (row_on ds m y i)) h)

  -- a row with a declaration more, from anywhere in it
  pub row_viable : (ds : List CDecl) (m : Declaration) → declaration_is_open m ≡ true → ((d : CDecl) → P (row (ds ++ d ∷ []) declaration.Wanted)) → P (row ds m)
  row_viable ds m h ends =
      declaration_viable (λ x. P (row ds x)) (row_part_fed ds) (λ t x. fed semicolon tt (row ds (declaration.Named t x)) refl (ends _)) m h

module _ (P : Head → Type 0) (fed : Feeds Head head_step in_head P) (ends : (s : Signature) → P (head.Closed s)) where
  name_fed : FeedsAt Declaration declaration_step in_declaration (λ m. P (head.InName m))
  name_fed y f m i h =
      let j = is_in_type m y i in
      let Q : Head → Type 0 = P in
      fed y f (in_a_head y j) (head.InName m) (subst Q (sym (name_on m y j)) h)

  param_fed : (s : Signature) → FeedsAt Declaration declaration_step in_declaration (λ m. P (head.InParam s m))
  param_fed s y f m i h =
      let j = is_in_type m y i in
      let Q : Head → Type 0 = P in
      fed y f (in_a_head y j) (head.InParam s m) (subst Q (sym (param_on s m y j)) h)

  in_param : (s : Signature) (m : Declaration) → declaration_is_open m ≡ true → P (head.InParam s m)
  in_param s m h =
      declaration_viable (λ x. P (head.InParam s x)) (param_fed s) (λ t x. fed closing tt refl (head.InParam s (declaration.Named t x)) (ends _)) m h

  named_done : (t : CTy) (x : List ℕ) → P (head.InName (declaration.Named t x))
  named_done t x = fed opening tt refl (head.InName (declaration.Named t x)) (in_param (bare t x) declaration.Wanted refl)

  pub head_viable : (m : Head) → head_is_open m ≡ true → P m
  head_viable (head.InName m) h = declaration_viable (λ x. P (head.InName x)) name_fed named_done m h
  head_viable (head.InParam s m) h = in_param s m h
  head_viable (head.Closed s) h = ends s
  head_viable head.Stuck h = cc
