-- What a token's symbol says of the token, and which symbol the grammar's tokens have.
use Rattle.std.proofs.Common.{◌≡◌, ℕ, List, ◌∷◌, Bool, true, false, cond, refl, ap, ◌∙◌}
use Rattle.std.specs.Prelude.{codes, ⊤, ◌||◌}
use Rattle.std.specs.Str.{bytes_eq}
use Rattle.std.proofs.lemmas.Slice.Eq.{bytes_eq-Decides}
use Rattle.cg_base.proofs.Spans.{either_way}
use Rattle.cg_base.proofs.Truths.{either_first, either_false}
use Rattle.cg_lexer.specs.Tokens.{is_word}
use Rattle.cg_heaptext_def.specs.Grammar.{token_at, token, IsName, IsConstructor, truth_text}
use Rattle.cg_heaptext_def.specs.Tokens.{Lexeme, Token, number, lower, upper, sign}
use Rattle.cg_heaptext_parser.specs.Symbols.{Symbol, Digits, Named, Wild, Truth, Constructor, At, Equals, Comma, OpenRecord, OpenBrace, CloseBrace, OpenBracket, CloseBracket, OpenAngle, CloseAngle, OpenParen, CloseParen, Foreign, lower_symbol, upper_symbol, sign_symbol, symbol_of}

-- the token of a symbol; a foreign one has many, and this is one of them
abbrev pub token_of : Symbol → Token
token_of (Digits ds) = number ds
token_of (Named x) = lower x
token_of Wild = lower (codes "_")
token_of (Truth b) = upper (truth_text b)
token_of (Constructor x) = upper x
token_of At = sign (codes "@")
token_of Equals = sign (codes "=")
token_of Comma = sign (codes ",")
token_of OpenRecord = sign (codes "#{")
token_of OpenBrace = sign (codes "{")
token_of CloseBrace = sign (codes "}")
token_of OpenBracket = sign (codes "[")
token_of CloseBracket = sign (codes "]")
token_of OpenAngle = sign (codes "<")
token_of CloseAngle = sign (codes ">")
token_of OpenParen = sign (codes "(")
token_of CloseParen = sign (codes ")")
token_of Foreign = sign (codes "")

-- the name of a symbol is one that may stand there
abbrev pub Proper : Symbol → Type 0
Proper (Named x) = IsName x
Proper (Constructor x) = IsConstructor x
Proper y = ⊤

-- what a symbol says of its token
abbrev pub Means : Token → Symbol → Type 0
Means t Foreign = ⊤
Means t y = Proper y × (t ≡ token_of y)

either_second : (a b : Bool) → (a || b) ≡ false → b ≡ false
either_second true b e = cc
either_second false b e = e

-- two tests that fail leave the third case
last_case : (a b : Bool) (x y z : Symbol) → (a || b) ≡ false → cond a x (cond b y z) ≡ z
last_case a b x y z e = ap (λ c. cond c x (cond b y z)) (either_first a b e) ∙ ap (λ c. cond c y z) (either_second a b e)

truth_back : (b : Bool) → upper_symbol (truth_text b) ≡ Truth b
truth_back true = refl
truth_back false = refl

-- the token of a symbol has that symbol
pub back : (y : Symbol) → Proper y → symbol_of (token_of y) ≡ y
back (Digits ds) h = refl
back (Named x) h = last_case (bytes_eq x (codes "_")) (is_word x) Wild Foreign (Named x) h
back Wild h = refl
back (Truth b) h = truth_back b
back (Constructor x) h = last_case (bytes_eq x (truth_text true)) (bytes_eq x (truth_text false)) (Truth true) (Truth false) (Constructor x) h
back At h = refl
back Equals h = refl
back Comma h = refl
back OpenRecord h = refl
back OpenBrace h = refl
back CloseBrace h = refl
back OpenBracket h = refl
back CloseBracket h = refl
back OpenAngle h = refl
back CloseAngle h = refl
back OpenParen h = refl
back CloseParen h = refl
back Foreign h = refl

-- one case more of a text that is compared: it has this text, or the others decide
is : (Q : Symbol → Type 0) (text x : List ℕ) (a b : Symbol) → (text ≡ x → Q a) → Q b → Q (cond (bytes_eq text x) a b)
is Q text x a b same rest = either_way Q (bytes_eq text x) a b (λ e. same ((bytes_eq-Decides text x).0 e)) (λ e. rest)

-- what the symbol of each kind of token says
lower_means : (x : List ℕ) → Means (lower x) (lower_symbol x)
lower_means x =
    either_way (Means (lower x)) (bytes_eq x (codes "_")) Wild (cond (is_word x) Foreign (Named x))
    (λ e. (tt, ap lower ((bytes_eq-Decides x (codes "_")).0 e)))
    (λ n. either_way (Means (lower x)) (is_word x) Foreign (Named x) (λ e. tt) (λ w. (either_false (bytes_eq x (codes "_")) (is_word x) n w, refl)))

upper_means : (x : List ℕ) → Means (upper x) (upper_symbol x)
upper_means x =
    let yes = bytes_eq x (truth_text true) in let no = bytes_eq x (truth_text false) in
    either_way (Means (upper x)) yes (Truth true) (cond no (Truth false) (Constructor x))
    (λ e. (tt, ap upper ((bytes_eq-Decides x (truth_text true)).0 e)))
    (λ n. either_way (Means (upper x)) no (Truth false) (Constructor x)
    (λ e. (tt, ap upper ((bytes_eq-Decides x (truth_text false)).0 e)))
    (λ m. (either_false yes no n m, refl)))

sign_means : (x : List ℕ) → Means (sign x) (sign_symbol x)
sign_means x =
    let Q : Symbol → Type 0 = Means (sign x) in
    is Q x (codes "@") _ _ (λ e. (tt, ap sign e))
    (is Q x (codes "=") _ _ (λ e. (tt, ap sign e))
    (is Q x (codes ",") _ _ (λ e. (tt, ap sign e))
    (is Q x (codes "#{") _ _ (λ e. (tt, ap sign e))
    (is Q x (codes "{") _ _ (λ e. (tt, ap sign e))
    (is Q x (codes "}") _ _ (λ e. (tt, ap sign e))
    (is Q x (codes "[") _ _ (λ e. (tt, ap sign e))
    (is Q x (codes "]") _ _ (λ e. (tt, ap sign e))
    (is Q x (codes "<") _ _ (λ e. (tt, ap sign e))
    (is Q x (codes ">") _ _ (λ e. (tt, ap sign e))
    (is Q x (codes "(") _ _ (λ e. (tt, ap sign e))
    (is Q x (codes ")") _ _ (λ e. (tt, ap sign e)) tt)))))))))))

-- a token's symbol says what the token is
pub means : (t : Token) → Means t (symbol_of t)
means (number x) = (tt, refl)
means (lower x) = lower_means x
means (upper x) = upper_means x
means (sign x) = sign_means x

-- a token that is seen is read, at its place and at any
pub seen_at : (k : Token) (t : Lexeme) (rest : List Lexeme) → t.token ≡ k → token_at t.place k (t ∷ rest) rest
seen_at k t rest e = ap (λ x. record { token = x; place = t.place } ∷ rest) e

pub seen : (k : Token) (t : Lexeme) (rest : List Lexeme) → t.token ≡ k → token k (t ∷ rest) rest
seen k t rest e = (t.place, seen_at k t rest e)
