-- The tokens of a whole generated source, and how long it is.
use Rattle.std.proofs.Common.{◌≡◌, ℕ, zero, suc, ◌+◌, ◌*◌, ◌≤◌, ◌<◌, true, false, List, [], ◌∷◌, ◌++◌, length, codes, decimal, refl, sym, ap, subst, arith, append_assoc, length-append}
use Rattle.std.proofs.lemmas.List.{append-nil}
use Rattle.cg_lexer.specs.declared.token.TokenKind.TheVariants.{Lower, Upper, Word, Sign}
use Rattle.cg_lexer.specs.Gaps.{blank}
use Rattle.cg_lexer.specs.Tokens.{Lexeme, start, Takes, Divides, Lexes}
use Rattle.cg_gen.specs.Generated.{name, subject, sum_text, type_line, body_line, function, functions, source}
use Rattle.cg_gen_def.specs.Programs.{body_row, reach}
use Rattle.cg_gen_text_laws.proofs.Fronts.{splits}
use Rattle.cg_gen_text_laws.proofs.Names.{name_length, number_length_is}
use Rattle.cg_gen_text_laws.proofs.Steps.{cursor, token, apart, joined, Divided, done, behind, one_by_one, known, word, mark}
use Rattle.cg_gen_text_laws.proofs.Lines.{function_tokens, function_divided, four, low_subject, brace_alone}

-- ---- the first line

abbrev pub header_tokens : List Lexeme
header_tokens =
    token Word (codes "type") 1 1 true false
    ∷ apart Upper (codes "Cell") 1 6
    ∷ apart Sign (codes "=") 1 11
    ∷ apart Sign (codes "{") 1 13
    ∷ joined Lower (codes "val") 1 14
    ∷ apart Sign (codes ":") 1 18
    ∷ apart Upper (codes "U32") 1 20
    ∷ joined Sign (codes ",") 1 23
    ∷ apart Lower (codes "tag") 1 25
    ∷ apart Sign (codes ":") 1 29
    ∷ apart Upper (codes "U8") 1 31
    ∷ joined Sign (codes "}") 1 33
    ∷ []

takes_first : (rest : List ℕ) → Takes (start (codes "type" ++ 32 ∷ rest)) (token Word (codes "type") 1 1 true false) (cursor (32 ∷ rest) 1 5)
takes_first rest =
    let s = splits (codes "type") (32 ∷ rest) refl refl refl in
    record { gap = []; parts = refl; space = tt; fits = s.0; longest = s.1; stands = refl; first = refl; joined = refl; next = refl; behind = refl }

header_divided : (rest : List ℕ) → Divided (start (codes "type Cell = {val : U32, tag : U8}" ++ 10 ∷ rest)) header_tokens (cursor (10 ∷ rest) 1 34)
header_divided rest =
    let low : 0 ≤ 1000 = omega arith in
    behind _ (cursor (codes " Cell = {val : U32, tag : U8}" ++ 10 ∷ rest) 1 5) _ _ _ (takes_first (codes "Cell = {val : U32, tag : U8}" ++ 10 ∷ rest))
    (word (codes "Cell") (codes " = {val : U32, tag : U8}" ++ 10 ∷ rest) (known _ _ refl refl refl refl) 1 0 low 5 refl
    (word (codes "=") (codes " {val : U32, tag : U8}" ++ 10 ∷ rest) (known _ _ refl refl refl refl) 1 0 low 10 refl
    (word (codes "{") (codes "val : U32, tag : U8}" ++ 10 ∷ rest) (known _ _ refl refl refl refl) 1 0 low 12 refl
    (mark (codes "val") (codes " : U32, tag : U8}" ++ 10 ∷ rest) (known _ _ refl refl refl refl) 1 0 low 14 refl
    (word (codes ":") (codes " U32, tag : U8}" ++ 10 ∷ rest) (known _ _ refl refl refl refl) 1 0 low 17 refl
    (word (codes "U32") (codes ", tag : U8}" ++ 10 ∷ rest) (known _ _ refl refl refl refl) 1 0 low 19 refl
    (mark (codes ",") (codes " tag : U8}" ++ 10 ∷ rest) (known _ _ refl refl refl refl) 1 0 low 23 refl
    (word (codes "tag") (codes " : U8}" ++ 10 ∷ rest) (known _ _ refl refl refl refl) 1 0 low 24 refl
    (word (codes ":") (codes " U8}" ++ 10 ∷ rest) (known _ _ refl refl refl refl) 1 0 low 28 refl
    (word (codes "U8") (codes "}" ++ 10 ∷ rest) (known _ _ refl refl refl refl) 1 0 low 30 refl
    (mark (codes "}") (10 ∷ rest) (known _ _ refl (brace_alone rest) refl refl) 1 0 low 33 refl
    (done (cursor (10 ∷ rest) 1 34)))))))))))))

-- ---- all functions

abbrev pub tokens : ℕ → List Lexeme
tokens zero = []
tokens (suc before) = tokens before ++ function_tokens before

none : (rest : List ℕ) → functions 0 ++ rest ≡ rest
unfolding functions
none rest = refl

one_more : (before : ℕ) (rest : List ℕ) → functions (suc before) ++ rest ≡ functions before ++ (function before ++ rest)
unfolding functions
one_more before rest = append_assoc (functions before) (function before) rest

abbrev Lines : ℕ → List ℕ → ℕ → Type 0
Lines n rest end = Divided (cursor (10 ∷ (functions n ++ rest)) 1 34) (tokens n) (cursor (10 ∷ rest) (n * 2 + 1) end)

lines : (n : ℕ) (rest : List ℕ) → n ≤ 4096 → (end : ℕ) × Lines n rest end
lines zero rest h = (34, subst (λ (x : List ℕ). Divided (cursor (10 ∷ x) 1 34) [] (cursor (10 ∷ rest) 1 34)) (sym (none rest)) (done (cursor (10 ∷ rest) 1 34)))
lines (suc before) rest h =
    let l = lines before (function before ++ rest) (omega (arith, h)) in
    let end = reach before + (48 + length (decimal (before + 1))) in
    let row : body_row before ≡ suc before * 2 + 1 = omega arith in
    let d = one_by_one (tokens before) (function_tokens before) _ _ _ l.1 (function_divided before l.0 rest (omega (arith, h))) in (
      end,
      subst (λ (x : List ℕ). Divided (cursor (10 ∷ x) 1 34) (tokens (suc before)) (cursor (10 ∷ rest) (suc before * 2 + 1) end)) (sym (one_more before rest))
          (subst (λ (r : ℕ). Divided (cursor (10 ∷ (functions before ++ (function before ++ rest))) 1 34) (tokens (suc before)) (cursor (10 ∷ rest) r end)) row d),
    )

-- the source is these tokens
abbrev pub source_tokens : ℕ → List Lexeme
source_tokens n = header_tokens ++ tokens n

pub lexes : (n : ℕ) → n ≤ 4096 → Lexes (source n) (source_tokens n)
lexes n h =
    let l = lines n [] h in
    let d = one_by_one header_tokens (tokens n) (start (codes "type Cell = {val : U32, tag : U8}\n" ++ (functions n ++ []))) _ _ (header_divided (functions n ++ [])) l.1 in
    let last = cursor (10 ∷ []) (n * 2 + 1) l.0 in
    let is : Divides (start (source n)) (source_tokens n) last = subst (λ (x : List ℕ). Divides (start (codes "type Cell = {val : U32, tag : U8}\n" ++ x)) (source_tokens n) last) (append-nil (functions n)) d.divides in
    (last, is, (blank 10 ∷ [], refl, (refl, tt)))

-- ---- how long it is

type_short : (before : ℕ) → before < 4096 → length (type_line before) ≤ 21
unfolding type_line
type_short before h = omega (arith, length-append (name (before + 1)) (codes " : Cell -> Cell\n"), name_length (before + 1) (omega (arith, h)))

sum_short : (before : ℕ) → before < 4096 → length (sum_text before) ≤ 30
unfolding sum_text
sum_short before h = omega (arith, length-append (decimal (before + 1)) (codes "}\n"), number_length_is (before + 1) (omega (arith, h)))

four_long : (a b c d : List ℕ) → length (a ++ b ++ c ++ d) ≡ length a + (length b + (length c + length d))
four_long a b c d =
    omega (arith, ap length (four a b c d []), length-append (a ++ b ++ c ++ d) [], length-append a (b ++ (c ++ (d ++ []))), length-append b (c ++ (d ++ [])), length-append c (d ++ []), length-append d [])

body_short : (before : ℕ) → before < 4096 → length (body_line before) ≤ 70
unfolding body_line
body_short before h =
    omega (arith, four_long (name (before + 1)) (codes " c = let c' {val = v} = ") (subject before) (sum_text before), name_length (before + 1) (omega (arith, h)), low_subject before h, sum_short before h)

function_short : (before : ℕ) → before < 4096 → length (function before) ≤ 100
unfolding function
function_short before h = omega (arith, length-append (type_line before) (body_line before), type_short before h, body_short before h)

functions_short : (n : ℕ) → n ≤ 4096 → length (functions n) ≤ n * 100
unfolding functions
functions_short zero h = omega arith
functions_short (suc before) h = omega (arith, length-append (functions before) (function before), functions_short before (omega (arith, h)), function_short before (omega (arith, h)))

pub short : (n : ℕ) → n ≤ 4096 → length (source n) ≤ 1048576
short n h = omega (arith, h, functions_short n h)
