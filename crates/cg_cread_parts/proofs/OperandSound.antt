-- What has been read of an operand is what its state spells.
use Rattle.std.proofs.Common.{◌≡◌, ℕ, List, [], ◌∷◌, ◌++◌, refl, ap, ◌∙◌, subst, true, false, Bool, Option, Some, None}
use Rattle.std.specs.Prelude.{codes, ⊤}
use Rattle.cg_ctree.specs.declared.tree.COpnd.{COpnd}
use Rattle.cg_ctree.specs.declared.tree.COpnd.TheVariants as opnd
use Rattle.cg_ctree.specs.declared.tree.CPath.{CPath}
use Rattle.cg_ctree.specs.Spells.{Reading, ◌then◌, token, mark, ReadsDots, ReadsMembers, ReadsPath, ReadsOpnd}
use Rattle.cg_ctree.specs.Tokens.{Token, name, sign, Lexeme}
use Rattle.cg_cread_parts.specs.Operands.{name_alone, path_name, on_wanted, arrowed, on_path, on_dot, on_arrow, operand_step, operand_end, path_end, function_name}
use Rattle.cg_cread_parts.specs.Symbols.{Symbol, named, number, dot, arrow}
use Rattle.cg_cread_parts.specs.declared.operand.Operand.{Operand}
use Rattle.cg_cread_parts.specs.declared.operand.Operand.TheVariants.{Wanted, Number, Path, Dot, Arrow, Stuck}
use Rattle.cg_cread_parts.proofs.Known.{Means, seen}
use Rattle.cg_cread_parts.proofs.Lists.{front}

-- what is read of an operand
abbrev pub OperandRead : Operand → Reading
OperandRead Wanted all rest = all ≡ rest
OperandRead (Number n) all rest = ReadsOpnd (opnd.Number n) all rest
OperandRead (Path p) all rest = ReadsPath p all rest
OperandRead (Dot p) all rest = (ReadsPath p then mark (codes ".")) all rest
OperandRead (Arrow x) all rest = (token (name x) then mark (codes "->")) all rest
OperandRead Stuck all rest = ⊤

-- what is read where an operand, a path or a name alone ends
abbrev pub OpndIs : Option COpnd → Reading
OpndIs None all rest = ⊤
OpndIs (Some o) all rest = ReadsOpnd o all rest

abbrev pub PathIs : Option CPath → Reading
PathIs None all rest = ⊤
PathIs (Some p) all rest = ReadsPath p all rest

abbrev pub NameIs : Option (List ℕ) → Reading
NameIs None all rest = ⊤
NameIs (Some x) all rest = token (name x) all rest

pub operand_is : (m : Operand) (all rest : List Lexeme) → OperandRead m all rest → OpndIs (operand_end m) all rest
operand_is (Number n) all rest r = r
operand_is (Path p) all rest r = r
operand_is _ all rest r = tt

pub path_is : (m : Operand) (all rest : List Lexeme) → OperandRead m all rest → PathIs (path_end m) all rest
path_is (Path p) all rest r = r
path_is _ all rest r = tt

name_alone_is : (a : Bool) (ms : List (List ℕ)) (x : List ℕ) (all mid rest : List Lexeme) → token (name x) all mid → ReadsMembers a ms mid rest → NameIs (name_alone a ms x) all rest
name_alone_is false [] x all mid rest t r = let P : List Lexeme → Type 0 = λ us. token (name x) all us in subst P r t
name_alone_is _ _ x all mid rest t r = tt

pub path_name_is : (p : CPath) (all rest : List Lexeme) → ReadsPath p all rest → NameIs (path_name p) all rest
path_name_is p all rest r = name_alone_is p.arrow p.members p.base all r.0 rest r.1 r.2

pub function_name_is : (o : COpnd) (all rest : List Lexeme) → ReadsOpnd o all rest → NameIs (function_name o) all rest
function_name_is (opnd.Path p) all rest r = path_name_is p all rest r
function_name_is _ all rest r = tt

-- a member more
dots_behind : (xs : List (List ℕ)) (x : List ℕ) (ts mid rest : List Lexeme) → ReadsDots xs ts mid → (mark (codes ".") then token (name x)) mid rest → ReadsDots (xs ++ x ∷ []) ts rest
dots_behind [] x ts mid rest r h = let f = front (mark (codes ".") then token (name x)) ts mid rest r h in (f.0, f.1, (rest, f.2, refl))
dots_behind (y ∷ xs) x ts mid rest r h = (r.0, r.1, (r.2.0, r.2.1, dots_behind xs x r.2.0 mid rest r.2.2 h))

members_behind : (a : Bool) (ms : List (List ℕ)) (x : List ℕ) (ts mid rest : List Lexeme) → ReadsMembers a ms ts mid → (mark (codes ".") then token (name x)) mid rest → ReadsMembers a (ms ++ x ∷ []) ts rest
members_behind false ms x ts mid rest r h = dots_behind ms x ts mid rest r h
members_behind true [] x ts mid rest r h = absurd r
members_behind true (m ∷ ms) x ts mid rest r h = (r.0, r.1, (r.2.0, r.2.1, dots_behind ms x r.2.0 mid rest r.2.2 h))

module _ (t : Lexeme) (rest all : List Lexeme) where
  -- the first token
  pub first : (k : Token) → all ≡ t ∷ rest → t.token ≡ k → token k all rest
  first k r e = (t.later, r ∙ ap (λ x. record { token = x; later = t.later } ∷ rest) e)

  wanted_holds : (y : Symbol) → Means t.token y → all ≡ t ∷ rest → OperandRead (on_wanted y) all rest
  wanted_holds (named x) h r = (rest, first (name x) r h, refl)
  wanted_holds (number n) h r = (h.0, first _ r h.1)
  wanted_holds _ h r = tt

  arrowed_holds : t.token ≡ sign (codes "->") → (o : Option (List ℕ)) → NameIs o all (t ∷ rest) → OperandRead (arrowed o) all rest
  arrowed_holds h None r = tt
  arrowed_holds h (Some x) r = (_, r, seen _ t rest h)

  path_holds : (p : CPath) (y : Symbol) → Means t.token y → ReadsPath p all (t ∷ rest) → OperandRead (on_path p y) all rest
  path_holds p dot h r = (_, r, seen _ t rest h)
  path_holds p arrow h r = arrowed_holds h (path_name p) (path_name_is p all (t ∷ rest) r)
  path_holds p _ h r = tt

  dot_holds : (p : CPath) (y : Symbol) → Means t.token y → (ReadsPath p then mark (codes ".")) all (t ∷ rest) → OperandRead (on_dot p y) all rest
  dot_holds p (named x) h r = let q = r.1 in (q.0, q.1, members_behind p.arrow p.members x q.0 r.0 rest q.2 (_, r.2, seen _ t rest h))
  dot_holds p _ h r = tt

  arrow_holds : (x : List ℕ) (y : Symbol) → Means t.token y → (token (name x) then mark (codes "->")) all (t ∷ rest) → OperandRead (on_arrow x y) all rest
  arrow_holds x (named y) h r = (r.0, r.1, (_, r.2, (rest, seen _ t rest h, refl)))
  arrow_holds x _ h r = tt

  -- one token more of an operand
  pub operand_holds : (m : Operand) (y : Symbol) → Means t.token y → OperandRead m all (t ∷ rest) → OperandRead (operand_step m y) all rest
  operand_holds Wanted y h r = wanted_holds y h r
  operand_holds (Path p) y h r = path_holds p y h r
  operand_holds (Dot p) y h r = dot_holds p y h r
  operand_holds (Arrow x) y h r = arrow_holds x y h r
  operand_holds (Number n) y h r = tt
  operand_holds Stuck y h r = tt
