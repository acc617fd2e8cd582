-- The bracket that opens a cell tells its form.
use Rattle.std.proofs.Common.{◌≡◌, ℕ, List, codes, sym, ap, ◌∙◌, subst}
use Rattle.cg_base.specs.declared.place.Place.{Place}
use Rattle.cg_heaptext_def.specs.Grammar.{Reading, ◌then◌, ReadsAny, ReadsBit, ReadsFields, ReadsNumeral, mark, sign_at}
use Rattle.cg_heaptext_def.specs.Tokens.{Lexeme, sign, token_text}
use Rattle.cg_heaptext_def.specs.Trees.{Cell, slots, elements, answers}
use Rattle.cg_heaptext_lexer.specs.Next.{Cursor, Gives, token_of}
use Rattle.cg_heaptext_lexer.specs.declared.token.TokenKind.{TokenKind}
use Rattle.cg_heaptext_entries.specs.Index.{Before, CellStands}
use Rattle.cg_heaptext_entries.proofs.Standing.{reads}
use Rattle.cg_heaptext_cells.specs.Cells.{form_of, sign_form}
use Rattle.cg_heaptext_cells.specs.declared.cell.CellForm.{CellForm}
use Rattle.cg_heaptext_cells.proofs.Standing.{text_same}

-- the sign that was read
sign_read : (k : TokenKind) (x s : List ℕ) (at new : Cursor) (t : Lexeme) (p : Place) (R : Reading) (ts rest : List Lexeme) → t.token ≡ token_of k x → Gives k at t new → Before at ts → (sign_at p s then R) ts rest → x ≡ s
sign_read k x s at new t p R ts rest is g b r =
    let u : Lexeme = record { token = sign s; place = p } in
    let same = reads k at new t u r.0 (subst (Before at) r.1 b) g in
    sym (text_same k x) ∙ ap token_text (sym is) ∙ ap (λ (v : Lexeme). token_text v.token) same.0

pub form_read : (k : TokenKind) (x : List ℕ) (at new : Cursor) (t : Lexeme) (result : CellForm) → t.token ≡ token_of k x → Gives k at t new → result ≡ sign_form x → (c : Cell) → CellStands at c → result ≡ form_of c
form_read k x at new t result is g e (slots p fs) s = e ∙ ap sign_form (sign_read k x (codes "{") at new t p (ReadsFields fs then mark (codes "}")) s.0 s.1 is g s.2 s.3)
form_read k x at new t result is g e (elements p ns) s = e ∙ ap sign_form (sign_read k x (codes "[") at new t p (ReadsAny ReadsNumeral ns then mark (codes "]")) s.0 s.1 is g s.2 s.3)
form_read k x at new t result is g e (answers p bs) s = e ∙ ap sign_form (sign_read k x (codes "<") at new t p (ReadsAny ReadsBit bs then mark (codes ">")) s.0 s.1 is g s.2 s.3)
