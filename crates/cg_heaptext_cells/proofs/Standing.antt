-- What is asked of a token, where these tokens are all that stands.
use Rattle.std.proofs.Common.{◌≡◌, ℕ, List, ◌∷◌, refl, sym, ap, ◌∙◌}
use Rattle.cg_heaptext_def.specs.Tokens.{Lexeme, Token, token_text}
use Rattle.cg_heaptext_lexer.specs.Next.{Cursor, Gives, lexeme, token_of}
use Rattle.cg_heaptext_lexer.specs.declared.token.Token.{Token as Read}
use Rattle.cg_heaptext_lexer.specs.declared.token.TokenKind.{TokenKind}
use Rattle.cg_heaptext_lexer.specs.declared.token.TokenKind.TheVariants.{Number, Lower, Upper, Sign, Unknown, End}
use Rattle.cg_heaptext_lexer.proofs.Walking.{none_in_space, unknown_none}
use Rattle.cg_heaptext_def.specs.Trees.{Numeral}
use Rattle.cg_heaptext_entries.specs.Index.{Before}
use Rattle.cg_heaptext_entries.proofs.Standing.{reads}
use Rattle.cg_heaptext_cells.specs.ByKind.{read_by}
use Rattle.cg_heaptext_cells.specs.Numbers.{numeral_read}

-- the text of what was read
pub text_same : (k : TokenKind) (x : List ℕ) → token_text (token_of k x) ≡ x
text_same Number x = refl
text_same Lower x = refl
text_same Upper x = refl
text_same Sign x = refl
text_same Unknown x = refl
text_same End x = refl

-- a token as a number with its place, whatever it is
abbrev pub numeral_in : Lexeme → Numeral
numeral_in t = record { place = t.place; digits = token_text t.token }

pub numeral_same : (t : Read) → numeral_read t ≡ numeral_in (lexeme t)
numeral_same t = λ i. record { place = t.place; digits = sym (text_same t.kind t.text.now) i }

-- what is asked of what was read is asked of the token
read_same : {A : Type 0} (f : Token → A) (other : A) (k : TokenKind) (x : List ℕ) (old new : Cursor) (t u : Lexeme) (ts : List Lexeme) → Before old (u ∷ ts) → Gives k old t new → f (token_of k x) ≡ read_by f other k x
read_same f other Number x old new t u ts b g = refl
read_same f other Lower x old new t u ts b g = refl
read_same f other Upper x old new t u ts b g = refl
read_same f other Sign x old new t u ts b g = refl
read_same f other Unknown x old new t u ts b g = absurd (unknown_none old new t.place (u ∷ ts) b.0 g b.1 b.2)
read_same f other End x old new t u ts b g = absurd (none_in_space old.place old.rest b.2.0 u g.space b.2.1)

pub read_as : {A : Type 0} (f : Token → A) (other : A) (k : TokenKind) (x : List ℕ) (old new : Cursor) (t u : Lexeme) (ts : List Lexeme) → t.token ≡ token_of k x → Before old (u ∷ ts) → Gives k old t new → f u.token ≡ read_by f other k x
read_as f other k x old new t u ts is b g =
    ap (λ (v : Lexeme). f v.token) (sym (reads k old new t u ts b g).0) ∙ ap f is ∙ read_same f other k x old new t u ts b g
