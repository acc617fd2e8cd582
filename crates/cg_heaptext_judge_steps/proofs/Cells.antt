-- Cells, by their first tokens and by their forms.
use Rattle.std.proofs.Common.{◌≡◌, ◌⊎◌, inl, inr, ℕ, Bool, false, List, Some, codes, refl, ap, subst}
use Rattle.cg_base.specs.declared.place.Place.{Place}
use Rattle.cg_base.specs.declared.ty.Part.{Part}
use Rattle.cg_heaptext_cells.specs.Cells.{form_of}
use Rattle.cg_heaptext_cells.specs.declared.cell.CellForm.{CellForm}
use Rattle.cg_heaptext_cells.specs.declared.cell.CellForm.TheVariants.{Slots, Elements, Answers}
use Rattle.cg_heaptext_def.specs.Grammar.{Reading, ◌then◌, ReadsAny, ReadsBit, ReadsFields, ReadsNumeral, mark, sign_at}
use Rattle.cg_heaptext_def.specs.Reading.{is_record}
use Rattle.cg_heaptext_def.specs.Tokens.{Lexeme, sign}
use Rattle.cg_heaptext_def.specs.Trees.{Cell, Fields, slots, elements, answers, first_of}
use Rattle.cg_heaptext_entries.proofs.Standing.{reads}
use Rattle.cg_heaptext_entries.specs.Index.{Before, CellStands}
use Rattle.cg_heaptext_judge_parts.specs.Parts.{names_of}
use Rattle.cg_heaptext_judge_steps.specs.Steps.{pieces}
use Rattle.cg_heaptext_lexer.specs.Next.{Cursor, Gives}
use Rattle.cg_heaptext_lexer.specs.declared.token.TokenKind.{TokenKind}
use Rattle.cg_heaptext_values.specs.Values.{FieldsStand}
use Rattle.cg_heaptext_values.specs.declared.list.FieldsAt.{FieldsAt}

-- the sign that was read stands at this place
place_read : (k : TokenKind) (x : List ℕ) (at new : Cursor) (t : Lexeme) (p : Place) (R : Reading) (ts rest : List Lexeme) → Gives k at t new → Before at ts → (sign_at p x then R) ts rest → t.place ≡ p
place_read k x at new t p R ts rest g b r = ap (λ (v : Lexeme). v.place) (reads k at new t (record { token = sign x; place = p }) r.0 (subst (Before at) r.1 b) g).0

pub cell_first : (k : TokenKind) (at old new : Cursor) (t : Lexeme) → old ≡ at → Gives k old t new → (c : Cell) → CellStands at c → t.place ≡ first_of c
cell_first k at old new t e g (slots p fs) s = place_read k (codes "{") at new t p (ReadsFields fs then mark (codes "}")) s.0 s.1 (subst (λ (a : Cursor). Gives k a t new) e g) s.2 s.3
cell_first k at old new t e g (elements p ns) s = place_read k (codes "[") at new t p (ReadsAny ReadsNumeral ns then mark (codes "]")) s.0 s.1 (subst (λ (a : Cursor). Gives k a t new) e g) s.2 s.3
cell_first k at old new t e g (answers p bs) s = place_read k (codes "<") at new t p (ReadsAny ReadsBit bs then mark (codes ">")) s.0 s.1 (subst (λ (a : Cursor). Gives k a t new) e g) s.2 s.3

-- whether a cell is one of slots with these names
module _ (cell : Cursor) (ps : List Part) where
  pub slots_told : (at : FieldsAt) (r : Bool) → ((c : Cell) → CellStands cell c → Slots ≡ form_of c) → ((p : Place) (fs : Fields) → CellStands cell (slots p fs) → FieldsStand at fs)
      → ((fs : Fields) → FieldsStand at fs → r ≡ names_of ps fs) → (c : Cell) → CellStands cell c → r ≡ is_record (pieces ps) (Some c)
  slots_told at r form fields names (slots p fs) s = names fs (fields p fs s)
  slots_told at r form fields names (elements p ns) s = let e = form (elements p ns) s in absurd (cc)
  slots_told at r form fields names (answers p bs) s = let e = form (answers p bs) s in absurd (cc)

  pub others_told : (f : CellForm) → (f ≡ Elements) ⊎ (f ≡ Answers) → ((c : Cell) → CellStands cell c → f ≡ form_of c) → (c : Cell) → CellStands cell c → false ≡ is_record (pieces ps) (Some c)
  others_told f (inl e) form (slots p fs) s = let h = form (slots p fs) s in absurd (cc)
  others_told f (inr e) form (slots p fs) s = let h = form (slots p fs) s in absurd (cc)
  others_told f is form (elements p ns) s = refl
  others_told f is form (answers p bs) s = refl
