-- The places of tokens rise.
use Rattle.std.proofs.Common.{◌≡◌, inl, ℕ, ◌+◌, ◌≤◌, ◌<◌, Bool, List, [], ◌∷◌, ◌++◌, length, sym, ap, ◌∙◌, subst, arith, length-append, map}
use Rattle.std.proofs.lemmas.Bool.{false≢true}
use Rattle.cg_base.specs.declared.place.Place.{Place}
use Rattle.cg_base.specs.Places.{most, IsBefore, place_after}
use Rattle.cg_lexer.specs.declared.token.TokenKind.{TokenKind}
use Rattle.cg_lexer.specs.declared.token.TokenKind.TheVariants.{Lower, Upper, Number, Word, Sign, End}
use Rattle.cg_base.specs.Bytes.{Starts}
use Rattle.cg_lexer.specs.Bytes.{digit_of}
use Rattle.cg_lexer.specs.Numbers.{base_mark, base_size}
use Rattle.cg_lexer.specs.Gaps.{gap_text}
use Rattle.cg_lexer.specs.Tokens.{Cursor, Divides, IsTextOf, Lexeme, Lexes, Takes, start}
use Rattle.cg_parser_symbols.specs.Symbols.{Seen, seen}
use Rattle.cg_parser_laws.proofs.Places.{HasRoom, IsAtMost, after, after_some, before_most}

-- each of these tokens stands behind the one before it, and the first behind a place
abbrev pub Rising : Place → List Seen → Type 0
Rising lo [] = Unit {0}
Rising lo (t ∷ ts) = IsBefore lo t.place × Rising t.place ts

-- no token is empty
starts_some : (P : ℕ → Bool) (bytes : List ℕ) → Starts P bytes → 1 ≤ length bytes
starts_some P [] s = absurd s
starts_some P (b ∷ bytes) s = omega arith

not_empty : (kind : TokenKind) → IsTextOf kind [] → ⊥
not_empty Lower t = t.0
not_empty Upper t = t.0
not_empty (Number value) t =
    let none : 0 ≡ length (base_mark t.0) + length t.1 = ap length t.2 ∙ length-append (base_mark t.0) t.1 in
    let some : 1 ≤ length t.1 = starts_some (digit_of (base_size t.0)) t.1 t.3 in
    omega arith
not_empty Word t = absurd (false≢true t)
not_empty Sign t = absurd (false≢true t)
not_empty End t = t

token_past : (p : Place) (kind : TokenKind) (text : List ℕ) (n : ℕ) → IsTextOf kind text → HasRoom p (length text + n) → IsBefore p (place_after p text) × HasRoom (place_after p text) n
token_past p kind [] n t h = absurd (not_empty kind t)
token_past p kind (b ∷ text) n t h = after_some p b text n h

tokens_rise : (ts : List Lexeme) (p : Place) (at last : Cursor) → IsBefore p at.place → HasRoom at.place (length at.rest) → Divides at ts last → Rising p (map seen ts)
tokens_rise [] p at last b h d = tt
tokens_rise (t ∷ ts) p at last b h d =
    let taken : Takes at t d.0 = d.1 in
    let rest : List ℕ = d.0.rest in
    let parts : length at.rest ≡ length (gap_text taken.gap) + (length t.text + length rest) =
    ap length taken.parts ∙ length-append (gap_text taken.gap) (t.text ++ rest) ∙ ap (λ n. length (gap_text taken.gap) + n) (length-append t.text rest) in
    let gap = after at.place (gap_text taken.gap) (length t.text + length rest) (subst (HasRoom at.place) parts h) in
    let place : IsAtMost at.place t.place = subst (IsAtMost at.place) (sym taken.stands) gap.0 in
    let room : HasRoom t.place (length t.text + length rest) = subst (λ q. HasRoom q (length t.text + length rest)) (sym taken.stands) gap.1 in
    let token = token_past t.place t.kind t.text (length rest) taken.fits room in
    let next : IsBefore t.place d.0.place = subst (IsBefore t.place) (sym taken.next) token.0 in
    let left : HasRoom d.0.place (length rest) = subst (λ q. HasRoom q (length rest)) (sym taken.next) token.1 in
    (before_most p at.place t.place b place, tokens_rise ts t.place d.0 last next left d.2)

-- a place before the first of a text
abbrev pub nowhere : Place
nowhere = record { line = 0; column = 0 }

pub rising : (bytes : List ℕ) (ts : List Lexeme) → length bytes < most → Lexes bytes ts → Rising nowhere (map seen ts)
rising bytes ts short s = tokens_rise ts nowhere (start bytes) s.0 (inl (omega arith)) (omega arith, omega arith) s.1
