-- Lists that grow at their end: things in a row, and things with commas between.
use Rattle.std.proofs.Common.{◌≡◌, List, [], ◌∷◌, ◌++◌, refl, sym, subst}
use Rattle.std.specs.Prelude.{codes}
use Rattle.cg_ctree.specs.declared.tree.CDecl.{CDecl}
use Rattle.cg_ctree.specs.Spells.{Reading, ◌then◌, mark, ReadsMore, ReadsSome, ReadsDecl, ReadsLocals}
use Rattle.cg_ctree.specs.Tokens.{Lexeme}

-- things in a row, with a comma behind each
abbrev pub Trailing : {A : Type 0} → (A → Reading) → List A → Reading
Trailing reads [] ts rest = ts ≡ rest
Trailing reads (x ∷ xs) ts rest = (reads x then mark (codes ",") then Trailing reads xs) ts rest

-- what begins at the front of the tokens, which are these
pub front : (R : Reading) (ts mid rest : List Lexeme) → ts ≡ mid → R mid rest → R ts rest
front R ts mid rest e r = let P : List Lexeme → Type 0 = λ x. R x rest in subst P (sym e) r

module _ {A : Type 0} (reads : A → Reading) where
  more_behind : (xs : List A) (x : A) (ts a b rest : List Lexeme) → mark (codes ",") ts a → Trailing reads xs a b → reads x b rest → ReadsMore reads (xs ++ x ∷ []) ts rest
  more_behind [] x ts a b rest c r h = (a, c, (rest, front (reads x) a b rest r h, refl))
  more_behind (y ∷ xs) x ts a b rest c r h = (a, c, (r.0, r.1, more_behind xs x r.0 r.2.0 b rest r.2.1 r.2.2 h))

  -- the last thing, behind others that have commas behind them
  pub some_behind : (xs : List A) (x : A) (ts mid rest : List Lexeme) → Trailing reads xs ts mid → reads x mid rest → ReadsSome reads (xs ++ x ∷ []) ts rest
  some_behind [] x ts mid rest r h = (rest, front (reads x) ts mid rest r h, refl)
  some_behind (y ∷ xs) x ts mid rest r h = (r.0, r.1, more_behind xs x r.0 r.2.0 mid rest r.2.1 r.2.2 h)

  commas_behind : (xs : List A) (ts mid rest : List Lexeme) → ReadsMore reads xs ts mid → mark (codes ",") mid rest → (mark (codes ",") then Trailing reads xs) ts rest
  commas_behind [] ts mid rest r c = (rest, front (mark (codes ",")) ts mid rest r c, refl)
  commas_behind (x ∷ xs) ts mid rest r c = (r.0, r.1, (r.2.0, r.2.1, commas_behind xs r.2.0 mid rest r.2.2 c))

  -- a comma behind the last thing
  pub trailing_behind : (xs : List A) (ts mid rest : List Lexeme) → ReadsSome reads xs ts mid → mark (codes ",") mid rest → Trailing reads xs ts rest
  trailing_behind [] ts mid rest r c = absurd r
  trailing_behind (x ∷ xs) ts mid rest r c = (r.0, r.1, commas_behind xs r.0 mid rest r.2 c)

-- a local more
pub local_behind : (ds : List CDecl) (d : CDecl) (ts mid rest : List Lexeme) → ReadsLocals ds ts mid → (ReadsDecl d then mark (codes ";")) mid rest → ReadsLocals (ds ++ d ∷ []) ts rest
local_behind [] d ts mid rest r h = let f = front (ReadsDecl d then mark (codes ";")) ts mid rest r h in (f.0, f.1, (rest, f.2, refl))
local_behind (c ∷ ds) d ts mid rest r h = (r.0, r.1, (r.2.0, r.2.1, local_behind ds d r.2.0 mid rest r.2.2 h))
