-- What the lexer reads where these tokens are all that stands.
use Rattle.std.proofs.Common.{◌≡◌, ℕ, ◌<◌, Bool, true, false, List, [], ◌∷◌, length, codes, refl, sym, ap, ◌∙◌, subst, arith, length-append}
use Rattle.std.proofs.lemmas.Bool.{false≢true}
use Rattle.std.specs.Str.{bytes_eq}
use Rattle.cg_base.specs.Bytes.{white, Each}
use Rattle.cg_heaptext_def.specs.Tokens.{Divides, Lexeme, Token, number, lower, upper, sign, behind}
use Rattle.cg_heaptext_lexer.specs.Next.{Cursor, Gives, Stands, token_of}
use Rattle.cg_heaptext_lexer.specs.declared.token.TokenKind.{TokenKind}
use Rattle.cg_heaptext_lexer.specs.declared.token.TokenKind.TheVariants.{Number, Lower, Upper, Sign, Unknown, End}
use Rattle.cg_heaptext_lexer.proofs.Cuts.{one_takes}
use Rattle.cg_heaptext_lexer.proofs.Walking.{none_in_space, shorter, unknown_none}
use Rattle.cg_heaptext_entries.specs.Index.{Before}
use Rattle.cg_heaptext_entries.specs.Passes.{IsNoLonger, is_at}

-- a token stands there
pub gives_stands : (k : TokenKind) (old new : Cursor) (t u : Lexeme) (ts : List Lexeme) → Before old (u ∷ ts) → Gives k old t new → Stands old t new
gives_stands Number old new t u ts b g = g
gives_stands Lower old new t u ts b g = g
gives_stands Upper old new t u ts b g = g
gives_stands Sign old new t u ts b g = g
gives_stands Unknown old new t u ts b g = absurd (unknown_none old new t.place (u ∷ ts) b.0 g b.1 b.2)
gives_stands End old new t u ts b g = absurd (none_in_space old.place old.rest b.2.0 u g.space b.2.1)

-- it is the first of them, and the others stand behind it
pub reads : (k : TokenKind) (old new : Cursor) (t u : Lexeme) (ts : List Lexeme) → Before old (u ∷ ts) → Gives k old t new → (t ≡ u) × Before new ts
reads k old new t u ts b g =
    let s = gives_stands k old new t u ts b g in
    let one = one_takes old.place old.rest new.rest b.2.0 t u s.takes b.2.1 in
    let moved : Divides (behind u) new.rest ts b.0 = subst (λ x. Divides (behind u) x ts b.0) (sym one.1) b.2.2 in
    let place : behind u ≡ new.place = sym (s.next ∙ ap behind one.0) in
    (one.0, (b.0, b.1, subst (λ p. Divides p new.rest ts b.0) place moved))

-- where none stands, none is read
pub reads_none : (k : TokenKind) (old new : Cursor) (t : Lexeme) → Before old [] → Gives k old t new → (k ≡ End) × Before new []
reads_none Number old new t b g = absurd (none_in_space old.place old.rest new.rest t (subst (Each white) (sym b.2) b.1) g.takes)
reads_none Lower old new t b g = absurd (none_in_space old.place old.rest new.rest t (subst (Each white) (sym b.2) b.1) g.takes)
reads_none Upper old new t b g = absurd (none_in_space old.place old.rest new.rest t (subst (Each white) (sym b.2) b.1) g.takes)
reads_none Sign old new t b g = absurd (none_in_space old.place old.rest new.rest t (subst (Each white) (sym b.2) b.1) g.takes)
reads_none Unknown old new t b g = absurd (unknown_none old new t.place [] b.0 g b.1 b.2)
reads_none End old new t b g = (refl, ([], tt, ap (λ (c : Cursor). c.rest) g.stays))

-- ---- what is left

pub no_longer : (k : TokenKind) (old new : Cursor) (t : Lexeme) → Gives k old t new → IsNoLonger old new
no_longer Number old new t g = let s = shorter old new t g in omega arith
no_longer Lower old new t g = let s = shorter old new t g in omega arith
no_longer Upper old new t g = let s = shorter old new t g in omega arith
no_longer Sign old new t g = let s = shorter old new t g in omega arith
no_longer Unknown old new t g = omega (arith, ap length g.parts, length-append g.gap (g.byte ∷ g.left), ap (λ (c : Cursor). length c.rest) g.stays)
no_longer End old new t g = omega (arith, ap (λ (c : Cursor). length c.rest) g.stays)

-- ---- `@`

abbrev pub at_token : Token → Bool
at_token (number x) = false
at_token (lower x) = false
at_token (upper x) = false
at_token (sign x) = bytes_eq x (codes "@")

-- the lexer's kind and text say the same as the token
at_same : (k : TokenKind) (x : List ℕ) (old new : Cursor) (t u : Lexeme) (ts : List Lexeme) → Before old (u ∷ ts) → Gives k old t new → is_at k x ≡ at_token (token_of k x)
at_same Number x old new t u ts b g = refl
at_same Lower x old new t u ts b g = refl
at_same Upper x old new t u ts b g = refl
at_same Sign x old new t u ts b g = refl
at_same Unknown x old new t u ts b g = absurd (unknown_none old new t.place (u ∷ ts) b.0 g b.1 b.2)
at_same End x old new t u ts b g = absurd (none_in_space old.place old.rest b.2.0 u g.space b.2.1)

-- whether the first token is `@`
pub at_first : (k : TokenKind) (x : List ℕ) (old new : Cursor) (t u : Lexeme) (ts : List Lexeme) → t.token ≡ token_of k x → Before old (u ∷ ts) → Gives k old t new → is_at k x ≡ at_token u.token
at_first k x old new t u ts e b g = at_same k x old new t u ts b g ∙ ap at_token (sym e) ∙ ap (λ (v : Lexeme). at_token v.token) (reads k old new t u ts b g).0

-- behind `@` less is left
pub at_shorter : (k : TokenKind) (x : List ℕ) (old new : Cursor) (t : Lexeme) → is_at k x ≡ true → Gives k old t new → length new.rest < length old.rest
at_shorter Number x old new t e g = absurd (false≢true e)
at_shorter Lower x old new t e g = absurd (false≢true e)
at_shorter Upper x old new t e g = absurd (false≢true e)
at_shorter Sign x old new t e g = shorter old new t g
at_shorter Unknown x old new t e g = absurd (false≢true e)
at_shorter End x old new t e g = absurd (false≢true e)
