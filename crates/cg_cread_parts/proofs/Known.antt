-- What a token's symbol says of the token, and what it doesn't lose.
use Rattle.std.proofs.Common.{◌≡◌, ℕ, ◌<◌, ◌^◌, List, ◌∷◌, cond, Option, Some, None, refl, ap}
use Rattle.std.specs.Prelude.{codes, ⊤}
use Rattle.std.specs.Str.{bytes_eq}
use Rattle.std.proofs.lemmas.Slice.Eq.{bytes_eq-Decides}
use Rattle.cg_base.specs.declared.kind.Word.{Word}
use Rattle.cg_base.specs.declared.kind.Word.TheVariants.{U8, U16, U32, U64}
use Rattle.cg_base.proofs.Spans.{either_way}
use Rattle.cg_ctree.specs.declared.tree.COp.{COp}
use Rattle.cg_ctree.specs.declared.tree.COp.TheVariants as op
use Rattle.cg_ctree.specs.Spells.{op_sign, token}
use Rattle.cg_ctree.specs.Tokens.{Token, name, word, plain, literal, sign, line, first_line, second_line, Lexeme}
use Rattle.cg_cread_parts.specs.Symbols.{Symbol, named, typed, keyed, number, count, opening, closing, begin, end, comma, semicolon, equals, tilde, colon, dot, arrow, operation, first_include, second_include, other, token_of, number_of, number_symbol, count_symbol, word_symbol, wide_symbol, key_symbol, long_symbol, short_symbol, op_of, op_symbol, sign_symbol, line_symbol, symbol_of}
use Rattle.cg_cread_parts.specs.declared.symbol.Keyword.{Keyword}
use Rattle.cg_cread_parts.specs.declared.symbol.Keyword.TheVariants as key
use Rattle.cg_cread_parts.proofs.Digits.{number_is, number_back}

-- the number of a symbol, if it has one, is at most 2^64 - 1
abbrev pub Fits : Symbol → Type 0
Fits (number n) = n < 2 ^ 64
Fits (count n) = n < 2 ^ 64
Fits y = ⊤

-- what a symbol says of its token
abbrev pub Means : Token → Symbol → Type 0
Means t (number n) = (n < 2 ^ 64) × (t ≡ token_of (number n))
Means t (count n) = (n < 2 ^ 64) × (t ≡ token_of (count n))
Means t other = ⊤
Means t y = t ≡ token_of y

-- the token of a symbol has that symbol
operation_back : (o : COp) → sign_symbol (op_sign o) ≡ operation o
operation_back op.Add = refl
operation_back op.Sub = refl
operation_back op.Mul = refl
operation_back op.Div = refl
operation_back op.Rem = refl
operation_back op.And = refl
operation_back op.Or = refl
operation_back op.Xor = refl
operation_back op.Shl = refl
operation_back op.Shr = refl
operation_back op.Eq = refl
operation_back op.Ne = refl
operation_back op.Lt = refl
operation_back op.Gt = refl
operation_back op.Le = refl
operation_back op.Ge = refl

typed_back : (w : Word) → symbol_of (token_of (typed w)) ≡ typed w
typed_back U8 = refl
typed_back U16 = refl
typed_back U32 = refl
typed_back U64 = refl

keyed_back : (k : Keyword) → symbol_of (token_of (keyed k)) ≡ keyed k
keyed_back key.Struct = refl
keyed_back key.Return = refl
keyed_back key.If = refl
keyed_back key.Else = refl
keyed_back key.While = refl
keyed_back key.Switch = refl
keyed_back key.Case = refl
keyed_back key.Break = refl
keyed_back key.Sizeof = refl

pub back : (y : Symbol) → Fits y → symbol_of (token_of y) ≡ y
back (named x) h = refl
back (typed w) h = typed_back w
back (keyed k) h = keyed_back k
back (number n) h = ap number_symbol (number_back n h)
back (count n) h = ap count_symbol (number_back n h)
back opening h = refl
back closing h = refl
back begin h = refl
back end h = refl
back comma h = refl
back semicolon h = refl
back equals h = refl
back tilde h = refl
back colon h = refl
back dot h = refl
back arrow h = refl
back (operation o) h = operation_back o
back first_include h = refl
back second_include h = refl
back other h = refl

-- one case more of a text that is compared: it has this text, or the others decide
is : {A : Type 0} (Q : A → Type 0) (text x : List ℕ) (a b : A) → (text ≡ x → Q a) → Q b → Q (cond (bytes_eq text x) a b)
is Q text x a b same rest = either_way Q (bytes_eq text x) a b (λ e. same ((bytes_eq-Decides text x).0 e)) (λ e. rest)

short_means : (x : List ℕ) → Means (word x) (short_symbol x)
short_means x =
    is (Means (word x)) x (codes "if") _ _ (ap word)
    (is (Means (word x)) x (codes "else") _ _ (ap word)
    (is (Means (word x)) x (codes "while") _ _ (ap word)
    (is (Means (word x)) x (codes "case") _ _ (ap word)
    (is (Means (word x)) x (codes "break") _ _ (ap word) tt))))

long_means : (x : List ℕ) → Means (word x) (long_symbol x)
long_means x =
    is (Means (word x)) x (codes "switch") _ _ (ap word)
    (is (Means (word x)) x (codes "sizeof") _ _ (ap word) (short_means x))

key_means : (x : List ℕ) → Means (word x) (key_symbol x)
key_means x =
    is (Means (word x)) x (codes "struct") _ _ (ap word)
    (is (Means (word x)) x (codes "return") _ _ (ap word) (long_means x))

wide_means : (x : List ℕ) → Means (word x) (wide_symbol x)
wide_means x =
    is (Means (word x)) x (codes "uint32_t") _ _ (ap word)
    (is (Means (word x)) x (codes "uint64_t") _ _ (ap word) (key_means x))

word_means : (x : List ℕ) → Means (word x) (word_symbol x)
word_means x =
    is (Means (word x)) x (codes "uint8_t") _ _ (ap word)
    (is (Means (word x)) x (codes "uint16_t") _ _ (ap word) (wide_means x))

-- what an operation says of its sign
abbrev OpMeans : List ℕ → Option COp → Type 0
OpMeans x None = ⊤
OpMeans x (Some o) = x ≡ op_sign o

op_means : (x : List ℕ) → OpMeans x (op_of x)
op_means x =
    is (OpMeans x) x (codes "+") _ _ (λ e. e)
    (is (OpMeans x) x (codes "-") _ _ (λ e. e)
    (is (OpMeans x) x (codes "*") _ _ (λ e. e)
    (is (OpMeans x) x (codes "/") _ _ (λ e. e)
    (is (OpMeans x) x (codes "%") _ _ (λ e. e)
    (is (OpMeans x) x (codes "&") _ _ (λ e. e)
    (is (OpMeans x) x (codes "|") _ _ (λ e. e)
    (is (OpMeans x) x (codes "^") _ _ (λ e. e)
    (is (OpMeans x) x (codes "<<") _ _ (λ e. e)
    (is (OpMeans x) x (codes ">>") _ _ (λ e. e)
    (is (OpMeans x) x (codes "==") _ _ (λ e. e)
    (is (OpMeans x) x (codes "!=") _ _ (λ e. e)
    (is (OpMeans x) x (codes "<") _ _ (λ e. e)
    (is (OpMeans x) x (codes ">") _ _ (λ e. e)
    (is (OpMeans x) x (codes "<=") _ _ (λ e. e)
    (is (OpMeans x) x (codes ">=") _ _ (λ e. e) tt)))))))))))))))

op_symbol_means : (x : List ℕ) (o : Option COp) → OpMeans x o → Means (sign x) (op_symbol o)
op_symbol_means x None h = tt
op_symbol_means x (Some o) h = ap sign h

sign_means : (x : List ℕ) → Means (sign x) (sign_symbol x)
sign_means x =
    is (Means (sign x)) x (codes "(") _ _ (ap sign)
    (is (Means (sign x)) x (codes ")") _ _ (ap sign)
    (is (Means (sign x)) x (codes "{") _ _ (ap sign)
    (is (Means (sign x)) x (codes "}") _ _ (ap sign)
    (is (Means (sign x)) x (codes ",") _ _ (ap sign)
    (is (Means (sign x)) x (codes ";") _ _ (ap sign)
    (is (Means (sign x)) x (codes "=") _ _ (ap sign)
    (is (Means (sign x)) x (codes "~") _ _ (ap sign)
    (is (Means (sign x)) x (codes ":") _ _ (ap sign)
    (is (Means (sign x)) x (codes ".") _ _ (ap sign)
    (is (Means (sign x)) x (codes "->") _ _ (ap sign) (op_symbol_means x (op_of x) (op_means x))))))))))))

line_means : (x : List ℕ) → Means (line x) (line_symbol x)
line_means x =
    is (Means (line x)) x first_line _ _ (ap line)
    (is (Means (line x)) x second_line _ _ (ap line) tt)

number_means : (x : List ℕ) (o : Option ℕ) → number_of x ≡ o → Means (literal x) (number_symbol o)
number_means x None e = tt
number_means x (Some n) e = let r = number_is x n e in (r.0, ap literal r.1)

count_means : (x : List ℕ) (o : Option ℕ) → number_of x ≡ o → Means (plain x) (count_symbol o)
count_means x None e = tt
count_means x (Some n) e = let r = number_is x n e in (r.0, ap plain r.1)

-- a token's symbol says what the token is
pub means : (t : Token) → Means t (symbol_of t)
means (name x) = refl
means (word x) = word_means x
means (plain x) = count_means x (number_of x) refl
means (literal x) = number_means x (number_of x) refl
means (sign x) = sign_means x
means (line x) = line_means x

-- a token that is seen is read
pub seen : (k : Token) (t : Lexeme) (rest : List Lexeme) → t.token ≡ k → token k (t ∷ rest) rest
seen k t rest e = (t.later, ap (λ x. record { token = x; later = t.later } ∷ rest) e)
