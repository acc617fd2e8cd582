-- What follows from how sources are divided into tokens.
use Rattle.std.proofs.Common.{◌≡◌, ℕ, ◌<◌, Bool, true, false, List, [], ◌∷◌, ◌++◌, length, drop, length-append, refl, sym, ap, ◌∙◌, subst, arith}
use Rattle.std.specs.Prelude.{◌==◌}
use Rattle.std.proofs.lemmas.List.{append-nil}
use Rattle.std.proofs.lemmas.Bool.Decides.{nat_tests}
use Rattle.cg_base.specs.declared.place.Place.{Place}
use Rattle.cg_base.specs.Bytes.{white, Starts}
use Rattle.cg_base.specs.Places.{place_after}
use Rattle.cg_lexer.specs.declared.token.TokenKind.{TokenKind}
use Rattle.cg_lexer.specs.declared.token.TokenKind.TheVariants.{Lower, Upper, Number, Word, Sign, End}
use Rattle.cg_lexer.specs.declared.token.LexFault.{LexFault}
use Rattle.cg_lexer.specs.declared.token.LexFault.TheVariants.{UnknownByte, OpenComment}
use Rattle.cg_lexer.specs.Bytes.{dark}
use Rattle.cg_lexer.specs.Gaps.{opens, Piece, blank, line, block, Inside, piece_text, gap_text, IsPiece, IsGap, IsSpace}
use Rattle.cg_lexer.specs.Tokens.{IsTextOf, IsLongest, Lexeme, Cursor, start, is_first, is_joined, Takes, Divides, Lexes}
use Rattle.cg_lexer.specs.Front.{piece_length}
use Rattle.cg_lexer.specs.Next.{Leaves, IsUnknown, IsOpen, IsFault, Gives}
use Rattle.cg_lexer.specs.Laws.{OneFault}
use Rattle.cg_lexer.proofs.Gaps.{piece_there, one_gap}
use Rattle.cg_lexer.proofs.Munch.{text_dark, some_text, clear, one_front}
use Rattle.cg_base.proofs.Truths.{either_first}

-- ---- one token

Starts-append : (p : ℕ → Bool) (text rest : List ℕ) → Starts p text → Starts p (text ++ rest)
Starts-append p [] rest h = absurd h
Starts-append p (b ∷ text) rest h = h

-- neither white space nor a comment begins where a token does
token_clear : (kind : TokenKind) (text rest : List ℕ) → IsTextOf kind text → IsLongest text rest → piece_length (text ++ rest) ≡ 0
token_clear kind text rest f l = clear (text ++ rest) (Starts-append dark text rest (text_dark kind text f)) l.no_comment

taken_clear : (at after : Cursor) (t : Lexeme) → Takes at t after → piece_length (t.text ++ after.rest) ≡ 0
taken_clear at after t k = token_clear t.kind t.text after.rest k.fits k.longest

-- at a cursor stands at most one token, and one cursor stands behind it
pub one_token : (at a b : Cursor) (t u : Lexeme) → Takes at t a → Takes at u b → (t ≡ u) × (a ≡ b)
one_token at a b t u k l =
    let g = one_gap k.gap l.gap (t.text ++ a.rest) (u.text ++ b.rest) k.space l.space (taken_clear at a t k) (taken_clear at b u l) (sym k.parts ∙ l.parts) in
    let f = one_front t.kind u.kind t.text u.text a.rest b.rest k.fits k.longest l.fits l.longest g.1 in
    let p : t.place ≡ u.place = k.stands ∙ ap (place_after at.place) g.0 ∙ sym l.stands in
    let x : t.first ≡ u.first = k.first ∙ ap (is_first at.behind) g.0 ∙ sym l.first in
    let y : t.joined ≡ u.joined = k.joined ∙ ap (is_joined at.behind) g.0 ∙ sym l.joined in
    let q : a.place ≡ b.place = k.next ∙ (λ i. place_after (p i) (f.1 i)) ∙ sym l.next in
    let z : a.behind ≡ b.behind = k.behind ∙ sym l.behind in
    ((λ i. record { kind = f.0 i; text = f.1 i; place = p i; first = x i; joined = y i }), λ i. record { rest = f.2 i; place = q i; behind = z i })

-- a token leaves fewer bytes
pub shorter : (at after : Cursor) (t : Lexeme) → Takes at t after → length after.rest < length at.rest
shorter at after t k =
    omega (arith, some_text t.kind t.text k.fits, ap length k.parts, length-append (gap_text k.gap) (t.text ++ after.rest), length-append t.text after.rest)

-- what isn't the end is a token
pub takes : (kind : TokenKind) (old new : Cursor) (t : Lexeme) → (kind ≡ End → ⊥) → Gives kind old t new → Takes old t new
takes Lower old new t h g = g
takes Upper old new t h g = g
takes (Number v) old new t h g = g
takes Word old new t h g = g
takes Sign old new t h g = g
takes End old new t h g = absurd (h refl)

-- ---- where no token stands

-- what is left behind a gap where nothing is left but a gap
left_nothing : (bytes rest : List ℕ) (gap : List Piece) → bytes ≡ gap_text gap ++ rest → IsGap gap rest → piece_length rest ≡ 0 → IsSpace bytes → rest ≡ []
left_nothing bytes rest gap parts space clear s = (one_gap gap s.0 rest [] space s.2 clear refl (sym parts ∙ s.1 ∙ sym (append-nil (gap_text s.0)))).1

-- where only white space and comments are left no token stands
pub none_in_space : (at after : Cursor) (t : Lexeme) → IsSpace at.rest → Takes at t after → ⊥
none_in_space at after t s k =
    let none : t.text ++ after.rest ≡ [] = left_nothing at.rest (t.text ++ after.rest) k.gap k.parts k.space (taken_clear at after t k) s in
    omega (arith, some_text t.kind t.text k.fits, ap length none, length-append t.text after.rest)

no_piece : (n : ℕ) → (0 < n → ⊥) → n ≡ 0
no_piece n h = go (n == 0) refl
  where
    go : (b : Bool) → (n == 0) ≡ b → n ≡ 0
    go true e = grind (arith, nat_tests)
    go false e = absurd (h (grind (arith, nat_tests)))

-- a piece where a block comment opens is a block comment
open_piece : (p : Piece) (rest more : List ℕ) → IsPiece p more → opens rest ≡ true → rest ≡ piece_text p ++ more → (inside : Inside) × (p ≡ block inside)
open_piece (blank b) rest more h o e =
    let first : opens (b ∷ more) ≡ true = ap opens (sym e) ∙ o in
    absurd (white_opens b more h first)
  where
    white_opens : (c : ℕ) (xs : List ℕ) → white c ≡ true → opens (c ∷ xs) ≡ true → ⊥
    white_opens c [] w x = grind (arith, nat_tests)
    white_opens c (d ∷ xs) w x = grind (arith, nat_tests)
open_piece (line text) rest more h o e = let no : opens (45 ∷ 45 ∷ (text ++ more)) ≡ true = ap opens (sym e) ∙ o in absurd (cc)
open_piece (block inside) rest more h o e = (inside, refl)

open_clear : (at : Cursor) (place : Place) (u : IsOpen at place) → piece_length u.rest ≡ 0
open_clear at place u = no_piece (piece_length u.rest) (λ some.
    let p = piece_there u.rest some in
    let more = drop (piece_length u.rest) u.rest in
    let b = open_piece p.0 u.rest more p.1 u.begins p.2 in
    let Q : Piece → Type 0 = λ x. IsPiece x more in
    u.unclosed b.0 more (subst Q b.1 p.1) (p.2 ∙ ap (λ x. piece_text x ++ more) b.1))

unknown_clear : (at : Cursor) (place : Place) (u : IsUnknown at place) → piece_length u.rest ≡ 0
unknown_clear at place u = clear u.rest u.left (rw (u.no_comment.0, u.no_comment.1) refl)

-- what is left where a fault stands, and it alone
taken_there : (at after : Cursor) (t : Lexeme) (rest : List ℕ) (place : Place) → Leaves at rest place → piece_length rest ≡ 0 → Takes at t after → rest ≡ t.text ++ after.rest
taken_there at after t rest place l clear k = (one_gap l.gap k.gap rest (t.text ++ after.rest) l.space k.space clear (taken_clear at after t k) (sym l.parts ∙ k.parts)).1

-- where a fault stands no token does
pub none_at_fault : (at after : Cursor) (t : Lexeme) (f : LexFault) → IsFault at f → Takes at t after → ⊥
none_at_fault at after t (UnknownByte place) u k =
    u.no_token t.kind t.text after.rest k.fits (taken_there at after t u.rest place u.leaves (unknown_clear at place u) k)
none_at_fault at after t (OpenComment place) u k =
    let is : u.rest ≡ t.text ++ after.rest = taken_there at after t u.rest place u.leaves (open_clear at place u) k in
    let no : opens u.rest ≡ false = ap opens is ∙ either_first _ _ k.longest.no_comment in
    let yes = u.begins in
    cc

-- nor is all that is left white space and comments
pub some_at_fault : (at : Cursor) (f : LexFault) → IsFault at f → IsSpace at.rest → ⊥
some_at_fault at (UnknownByte place) u s =
    let none : u.rest ≡ [] = left_nothing at.rest u.rest u.leaves.gap u.leaves.parts u.leaves.space (unknown_clear at place u) s in
    subst (Starts dark) none u.left
some_at_fault at (OpenComment place) u s =
    let none : u.rest ≡ [] = left_nothing at.rest u.rest u.leaves.gap u.leaves.parts u.leaves.space (open_clear at place u) s in
    let yes : opens [] ≡ true = ap opens (sym none) ∙ u.begins in
    cc

same_leaves : (at : Cursor) (rest rest' : List ℕ) (place place' : Place) (l : Leaves at rest place) (m : Leaves at rest' place') → piece_length rest ≡ 0 → piece_length rest' ≡ 0 → (rest ≡ rest') × (place ≡ place')
same_leaves at rest rest' place place' l m c d =
    let g = one_gap l.gap m.gap rest rest' l.space m.space c d (sym l.parts ∙ m.parts) in
    (g.1, l.stands ∙ ap (place_after at.place) g.0 ∙ sym m.stands)

not_both : (at : Cursor) (p q : Place) → IsUnknown at p → IsOpen at q → ⊥
not_both at p q u o =
    let same : u.rest ≡ o.rest = (same_leaves at u.rest o.rest p q u.leaves o.leaves (unknown_clear at p u) (open_clear at q o)).0 in
    let no : opens o.rest ≡ false = ap opens (sym same) ∙ u.no_comment.0 in
    let yes = o.begins in
    cc

-- at a cursor stands at most one fault
same_fault : (at : Cursor) (f g : LexFault) → IsFault at f → IsFault at g → f ≡ g
same_fault at (UnknownByte p) (UnknownByte q) u v = ap UnknownByte (same_leaves at u.rest v.rest p q u.leaves v.leaves (unknown_clear at p u) (unknown_clear at q v)).1
same_fault at (UnknownByte p) (OpenComment q) u v = absurd (not_both at p q u v)
same_fault at (OpenComment p) (UnknownByte q) u v = absurd (not_both at q p v u)
same_fault at (OpenComment p) (OpenComment q) u v = ap OpenComment (same_leaves at u.rest v.rest p q u.leaves v.leaves (open_clear at p u) (open_clear at q v)).1

pub one_fault : OneFault
one_fault = record { same = same_fault; no_token = none_at_fault; no_end = some_at_fault }

-- ---- lists of tokens

-- a token more
pub divides_more : (ts : List Lexeme) (at mid after : Cursor) (t : Lexeme) → Divides at ts mid → Takes mid t after → Divides at (ts ++ t ∷ []) after
divides_more [] at mid after t d k = (after, subst (λ (x : Cursor). Takes x t after) (sym d) k, refl)
divides_more (u ∷ ts) at mid after t d k = (d.0, d.1, divides_more ts d.0 mid after t d.2 k)

-- each whole division goes on from the tokens that were taken
pub goes_on : (front : List Lexeme) (from at last : Cursor) (ts : List Lexeme) → Divides from front at → Divides from ts last → IsSpace last.rest → (more : List Lexeme) × (ts ≡ front ++ more) × Divides at more last
goes_on [] from at last ts d e s = (ts, refl, subst (λ (x : Cursor). Divides x ts last) d e)
goes_on (t ∷ front) from at last [] d e s = absurd (none_in_space from d.0 t (subst (λ (x : Cursor). IsSpace x.rest) (sym e) s) d.1)
goes_on (t ∷ front) from at last (u ∷ us) d e s =
    let same = one_token from d.0 e.0 t u d.1 e.1 in
    let r = goes_on front d.0 at last us d.2 (subst (λ (x : Cursor). Divides x us last) (sym same.1) e.2) s in
    (r.0, (λ i. sym same.0 i ∷ r.1 i), r.2)

-- where only white space and comments are left no more tokens are
pub no_more : (at last : Cursor) (ts : List Lexeme) → IsSpace at.rest → Divides at ts last → ts ≡ []
no_more at last [] s d = refl
no_more at last (t ∷ ts) s d = absurd (none_in_space at d.0 t s d.1)

-- a source is one list of tokens at most
pub one_division : (bytes : List ℕ) (ts us : List Lexeme) → Lexes bytes ts → Lexes bytes us → ts ≡ us
one_division bytes ts us l m =
    let r = goes_on ts (start bytes) l.0 m.0 us l.1 m.1 m.2 in
    sym (append-nil ts) ∙ ap (λ (x : List Lexeme). ts ++ x) (sym (no_more l.0 m.0 r.0 l.2 r.2)) ∙ sym r.1
