-- What tokens that were walked say of each whole division of a C text.
use Rattle.std.proofs.Common.{◌≡◌, ℕ, ◌<◌, Bool, true, false, List, [], ◌∷◌, ◌++◌, length, codes, refl, sym, ap, ◌∙◌, subst, arith, length-append}
use Rattle.std.specs.Prelude.{◌||◌}
use Rattle.std.specs.List.{AllByRecursion}
use Rattle.std.specs.Str.{bytes_eq}
use Rattle.std.proofs.lemmas.Bool.{false≢true}
use Rattle.std.proofs.lemmas.List.{append-nil}
use Rattle.cg_base.specs.declared.place.Place.{Place}
use Rattle.cg_base.specs.Bytes.{digit, Starts}
use Rattle.cg_base.specs.Places.{place_after}
use Rattle.cg_ctree.specs.Tokens.{letter, is_word, is_sign, first_line, second_line, Token, name, word, plain, literal, sign, line, token_text, IsToken, Piece, IsPiece, gap_text, Lexeme, Takes, Divides, Lexes}
use Rattle.cg_ctree.proofs.Division.{token_clear, one_token, none_at_end}
use Rattle.cg_cread_lexer.specs.Next.{Cursor, start, Stands, IsUnknown, Finishes, Walks}
use Rattle.cg_cread_lexer.proofs.Gaps.{NoPiece, no_piece, clear_no_piece, one_gap}

-- ---- one token

token_no_piece : (bytes after : List ℕ) (t : Lexeme) → Takes bytes t after → NoPiece (token_text t.token ++ after)
token_no_piece bytes after t k = clear_no_piece (token_text t.token ++ after) (token_clear t.token after k.fits k.ends)

-- behind a cursor stands at most one token, at one place
pub one_stand : (old a b : Cursor) (t u : Lexeme) (p q : Place) → Stands old t p a → Stands old u q b → (t ≡ u) × (p ≡ q) × (a ≡ b)
one_stand old a b t u p q k l =
    let one = one_token old.rest a.rest b.rest t u k.takes l.takes in
    let gap = one_gap k.takes.gap l.takes.gap (token_text t.token ++ a.rest) (token_text u.token ++ b.rest) k.takes.space l.takes.space (token_no_piece old.rest a.rest t k.takes) (token_no_piece old.rest b.rest u l.takes) (sym k.takes.parts ∙ l.takes.parts) in
    let place : p ≡ q = k.at ∙ ap (place_after old.place) gap.0 ∙ sym l.at in
    let next : a.place ≡ b.place = k.next ∙ (λ i. place_after (place i) (token_text (one.0 i).token)) ∙ sym l.next in
    (one.0, place, λ i. record { rest = one.1 i; place = next i })

-- ---- walks

-- tokens that stand between two cursors divide what stands between them
pub walks_divide : (ts : List Lexeme) (from at : Cursor) → Walks from ts at → Divides from.rest ts at.rest
walks_divide [] from at w = ap (λ (c : Cursor). c.rest) w
walks_divide (t ∷ ts) from at w = (w.1.rest, w.2.takes, walks_divide ts w.1 at w.3)

-- a token more
pub walks_more : (front : List Lexeme) (from at after : Cursor) (t : Lexeme) (p : Place) → Walks from front at → Stands at t p after → Walks from (front ++ t ∷ []) after
walks_more [] from at after t p w s = (p, after, subst (λ (c : Cursor). Stands c t p after) (sym w) s, refl)
walks_more (u ∷ front) from at after t p w s = (w.0, w.1, w.2, walks_more front w.1 at after t p w.3 s)

-- ---- what stands where no token does

-- where only a gap is left no token is taken
pub none_at_finish : (old new : Cursor) (place : Place) (t : Lexeme) (rest : List ℕ) → Finishes old place new → Takes old.rest t rest → ⊥
none_at_finish old new place t rest f k = none_at_end old.rest rest f.last t f.space f.parts k

-- where something stands that begins no token, none is taken
pub none_at_unknown : (old new : Cursor) (place : Place) (t : Lexeme) (rest : List ℕ) → IsUnknown old place new → Takes old.rest t rest → ⊥
none_at_unknown old new place t rest u k = u.no_token t rest k

empty_no_piece : NoPiece []
empty_no_piece = no_piece [] refl

-- nor is all that is left a gap
pub no_gap_at_unknown : (old new : Cursor) (place : Place) (last : List Piece) → IsUnknown old place new → AllByRecursion IsPiece last → old.rest ≡ gap_text last → ⊥
no_gap_at_unknown old new place last u space e = u.left (one_gap u.gap last new.rest [] u.space space u.no_space empty_no_piece (sym u.parts ∙ e ∙ sym (append-nil (gap_text last)))).1

-- ---- whole divisions

goes_on_from : (front : List Lexeme) (bytes at : List ℕ) (last : List Piece) (ts : List Lexeme) → Divides bytes front at → AllByRecursion IsPiece last → Divides bytes ts (gap_text last) → (more : List Lexeme) × (ts ≡ front ++ more) × Divides at more (gap_text last)
goes_on_from [] bytes at last ts d space e = (ts, refl, subst (λ (x : List ℕ). Divides x ts (gap_text last)) d e)
goes_on_from (t ∷ front) bytes at last [] d space e = absurd (none_at_end bytes d.0 last t space e d.1)
goes_on_from (t ∷ front) bytes at last (u ∷ us) d space e =
    let one = one_token bytes d.0 e.0 t u d.1 e.1 in
    let r = goes_on_from front d.0 at last us d.2 space (subst (λ (x : List ℕ). Divides x us (gap_text last)) (sym one.1) e.2) in
    (r.0, (λ i. sym one.0 i ∷ r.1 i), r.2)

-- each whole division goes on from the tokens that were walked
pub goes_on : (bytes : List ℕ) (front ts : List Lexeme) (at : Cursor) → Walks (start bytes) front at → Lexes bytes ts → (more : List Lexeme) × (last : List Piece) × (ts ≡ front ++ more) × AllByRecursion IsPiece last × Divides at.rest more (gap_text last)
goes_on bytes front ts at w l =
    let r = goes_on_from front bytes at.rest l.0 ts (walks_divide front (start bytes) at w) l.1 l.2 in
    (r.0, l.0, r.1, l.1, r.2)

-- ---- what is left

begun_text : (test : ℕ → Bool) (text : List ℕ) → Starts test text → 0 < length text
begun_text test [] h = absurd h
begun_text test (b ∷ text) h = omega arith

tested_text : (test : List ℕ → Bool) (text : List ℕ) → test [] ≡ false → test text ≡ true → 0 < length text
tested_text test [] none h = absurd (false≢true (sym none ∙ h))
tested_text test (b ∷ text) none h = omega arith

-- no token is empty
some_text : (t : Token) → IsToken t → 0 < length (token_text t)
some_text (name x) h = begun_text letter x h.0
some_text (word x) h = tested_text is_word x refl h
some_text (plain x) h = begun_text digit x h.0
some_text (literal x) h = omega (arith, begun_text digit x h.0, length-append x (codes "ull"))
some_text (sign x) h = tested_text is_sign x refl h
some_text (line x) h = tested_text (λ y. bytes_eq y first_line || bytes_eq y second_line) x refl h

-- behind a token less is left
pub shorter : (old new : Cursor) (t : Lexeme) (p : Place) → Stands old t p new → length new.rest < length old.rest
shorter old new t p s =
    omega (arith, some_text t.token s.takes.fits, ap length s.takes.parts, length-append (gap_text s.takes.gap) (token_text t.token ++ new.rest), length-append (token_text t.token) new.rest)
