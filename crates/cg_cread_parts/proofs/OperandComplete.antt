-- The machine reads each operand that the tokens spell.
use Rattle.std.proofs.Common.{◌≡◌, ℕ, ◌<◌, ◌^◌, List, [], ◌∷◌, ◌++◌, refl, sym, subst, append_assoc, true, false, Bool, Some}
use Rattle.std.specs.Prelude.{decimal}
use Rattle.std.proofs.lemmas.List.{append-nil}
use Rattle.cg_ctree.specs.declared.tree.COpnd.{COpnd}
use Rattle.cg_ctree.specs.declared.tree.COpnd.TheVariants as opnd
use Rattle.cg_ctree.specs.declared.tree.CPath.{CPath}
use Rattle.cg_ctree.specs.Spells.{token, ReadsDots, ReadsMembers, ReadsOpnd}
use Rattle.cg_ctree.specs.Tokens.{name, literal, Lexeme}
use Rattle.cg_cread_parts.specs.Operands.{path_of, arrow_path, with_member, operand_step, operand_end}
use Rattle.cg_cread_parts.specs.Symbols.{named, dot, arrow, is_part}
use Rattle.cg_cread_parts.specs.declared.operand.Operand.{Operand}
use Rattle.cg_cread_parts.specs.declared.operand.Operand.TheVariants.{Number, Path, Dot, Arrow}
use Rattle.cg_cread_parts.proofs.Carried.{Moves}

module _ (P : Operand → List Lexeme → Type 0) (move : Moves Operand operand_step is_part P) where
  dots_read : (xs : List (List ℕ)) (p : CPath) (ts rest : List Lexeme) → ReadsDots xs ts rest → P (Path (record p { members = p.members ++ xs })) rest → P (Path p) ts
  dots_read [] p ts rest r h =
      let Q : List (List ℕ) → Type 0 = λ ms. P (Path (record p { members = ms })) rest in
      let S : List Lexeme → Type 0 = P (Path p) in
      subst S (sym r) (subst Q (append-nil p.members) h)
  dots_read (x ∷ xs) p ts rest r h =
      let Q : List (List ℕ) → Type 0 = λ ms. P (Path (record p { members = ms })) rest in
      move dot tt refl (Path p) ts r.0 r.1
      (move (named x) tt refl (Dot p) r.0 r.2.0 r.2.1 (dots_read xs (with_member p x) r.2.0 rest r.2.2 (subst Q (sym (append_assoc p.members (x ∷ []) xs)) h)))

  -- what stands behind the name of a path
  pub members_read : (a : Bool) (ms : List (List ℕ)) (x : List ℕ) (ts rest : List Lexeme) → ReadsMembers a ms ts rest → P (Path (record { base = x; arrow = a; members = ms })) rest → P (Path (path_of x)) ts
  members_read false ms x ts rest r h = dots_read ms (path_of x) ts rest r h
  members_read true [] x ts rest r h = absurd r
  members_read true (m ∷ ms) x ts rest r h =
      move arrow tt refl (Path (path_of x)) ts r.0 r.1
      (move (named m) tt refl (Arrow x) r.0 r.2.0 r.2.1 (dots_read ms (arrow_path x m) r.2.0 rest r.2.2 h))

  -- an operand, from where its first symbol leads into it
  pub operand_read : (Q : List Lexeme → Type 0) → ((x : List ℕ) (ts mid : List Lexeme) → token (name x) ts mid → P (Path (path_of x)) mid → Q ts) → ((n : ℕ) (ts mid : List Lexeme) → n < 2 ^ 64 → token (literal (decimal n)) ts mid → P (Number n) mid → Q ts) → (o : COpnd) (ts rest : List Lexeme) → ReadsOpnd o ts rest → ((m : Operand) → operand_end m ≡ Some o → P m rest) → Q ts
  operand_read Q by_name by_number (opnd.Number n) ts rest r h = by_number n ts rest r.0 r.1 (h (Number n) refl)
  operand_read Q by_name by_number (opnd.Path p) ts rest r h = by_name p.base ts r.0 r.1 (members_read p.arrow p.members p.base r.0 rest r.2 (h (Path p) refl))
