-- The tokens of each line of a generated source.
use Rattle.std.proofs.Common.{◌≡◌, ℕ, zero, suc, ◌+◌, ◌*◌, ◌≤◌, ◌<◌, List, [], ◌∷◌, ◌++◌, length, codes, decimal, Some, refl, sym, ap, ◌∙◌, subst, arith, append_assoc, length-append}
use Rattle.cg_lexer.specs.declared.token.TokenKind.TheVariants.{Lower, Upper, Number, Word, Sign}
use Rattle.cg_lexer.specs.Tokens.{Lexeme}
use Rattle.cg_lexer.specs.Front.{sign_length}
use Rattle.cg_gen.specs.Generated.{name, subject, sum_text, type_line, body_line, function}
use Rattle.cg_gen_def.specs.Programs.{type_row, body_row, width, reach}
use Rattle.cg_gen_text_laws.proofs.Fronts.{splits, alone}
use Rattle.cg_gen_text_laws.proofs.Names.{name_length, name_inline, name_splits, number_splits, number_inline, number_length_is}
use Rattle.cg_gen_text_laws.proofs.Steps.{cursor, apart, joined, leading, Divided, done, then_leading, then_apart, then_joined, one_by_one, known, word, mark}

-- ---- the type of a function

abbrev pub type_tokens : ℕ → List Lexeme
type_tokens before =
    leading Lower (name (before + 1)) (type_row before)
    ∷ apart Sign (codes ":") (type_row before) (width before + 2)
    ∷ apart Upper (codes "Cell") (type_row before) (width before + 4)
    ∷ apart Sign (codes "->") (type_row before) (width before + 9)
    ∷ apart Upper (codes "Cell") (type_row before) (width before + 12)
    ∷ []

low_name : (before : ℕ) → before < 4096 → width before ≤ 5
low_name before h = name_length (before + 1) (omega (arith, h))

pub type_divided : (before from : ℕ) (rest : List ℕ) → before < 4096
    → Divided (cursor (10 ∷ (name (before + 1) ++ (codes " : Cell -> Cell" ++ 10 ∷ rest))) (before * 2 + 1) from) (type_tokens before) (cursor (10 ∷ rest) (type_row before) (width before + 16))
type_divided before from rest h =
    let r = type_row before in
    let w = width before in
    let low : w ≤ 1000 = omega (arith, low_name before h) in
    then_leading Lower (name (before + 1)) (codes " : Cell -> Cell" ++ 10 ∷ rest) (before * 2 + 1) r from (w + 1) (name_splits (before + 1) _ (omega (arith, h)) refl)
    (name_inline (before + 1) (omega (arith, h))) (omega arith) (omega arith) (omega (arith, h)) (omega (arith, low))
    (word (codes ":") (codes " Cell -> Cell" ++ 10 ∷ rest) (known _ _ refl refl refl refl) r w low 1 refl
    (word (codes "Cell") (codes " -> Cell" ++ 10 ∷ rest) (known _ _ refl refl refl refl) r w low 3 refl
    (word (codes "->") (codes " Cell" ++ 10 ∷ rest) (known _ _ refl refl refl refl) r w low 8 refl
    (word (codes "Cell") (10 ∷ rest) (known _ _ refl refl refl refl) r w low 11 refl
    (done (cursor (10 ∷ rest) r (w + 16)))))))

-- ---- the definition of a function, up to what it takes apart

equals_alone : (rest : List ℕ) → sign_length (61 ∷ 32 ∷ rest) ≡ 1
equals_alone rest = alone 61 32 rest refl (λ c more. refl)

plus_alone : (rest : List ℕ) → sign_length (43 ∷ 32 ∷ rest) ≡ 1
plus_alone rest = alone 43 32 rest refl (λ c more. refl)

pub brace_alone : (rest : List ℕ) → sign_length (125 ∷ 10 ∷ rest) ≡ 1
brace_alone rest = alone 125 10 rest refl (λ c more. refl)

abbrev pub head_tokens : ℕ → List Lexeme
head_tokens before =
    leading Lower (name (before + 1)) (body_row before)
    ∷ apart Lower (codes "c") (body_row before) (width before + 2)
    ∷ apart Sign (codes "=") (body_row before) (width before + 4)
    ∷ apart Word (codes "let") (body_row before) (width before + 6)
    ∷ apart Lower (codes "c'") (body_row before) (width before + 10)
    ∷ apart Sign (codes "{") (body_row before) (width before + 13)
    ∷ joined Lower (codes "val") (body_row before) (width before + 14)
    ∷ apart Sign (codes "=") (body_row before) (width before + 18)
    ∷ apart Lower (codes "v") (body_row before) (width before + 20)
    ∷ joined Sign (codes "}") (body_row before) (width before + 21)
    ∷ apart Sign (codes "=") (body_row before) (width before + 23)
    ∷ []

pub head_divided : (before from : ℕ) (rest : List ℕ) → before < 4096
    → Divided (cursor (10 ∷ (name (before + 1) ++ (codes " c = let c' {val = v} =" ++ 32 ∷ rest))) (type_row before) from) (head_tokens before) (cursor (32 ∷ rest) (body_row before) (width before + 24))
head_divided before from rest h =
    let r = body_row before in
    let w = width before in
    let low : w ≤ 1000 = omega (arith, low_name before h) in
    then_leading Lower (name (before + 1)) (codes " c = let c' {val = v} =" ++ 32 ∷ rest) (type_row before) r from (w + 1) (name_splits (before + 1) _ (omega (arith, h)) refl)
    (name_inline (before + 1) (omega (arith, h))) (omega arith) (omega arith) (omega (arith, h)) (omega (arith, low))
    (word (codes "c") (codes " = let c' {val = v} =" ++ 32 ∷ rest) (known _ _ refl refl refl refl) r w low 1 refl
    (word (codes "=") (codes " let c' {val = v} =" ++ 32 ∷ rest) (known _ _ refl refl refl refl) r w low 3 refl
    (word (codes "let") (codes " c' {val = v} =" ++ 32 ∷ rest) (known _ _ refl refl refl refl) r w low 5 refl
    (word (codes "c'") (codes " {val = v} =" ++ 32 ∷ rest) (known _ _ refl refl refl refl) r w low 9 refl
    (word (codes "{") (codes "val = v} =" ++ 32 ∷ rest) (known _ _ refl refl refl refl) r w low 12 refl
    (mark (codes "val") (codes " = v} =" ++ 32 ∷ rest) (known _ _ refl refl refl refl) r w low 14 refl
    (word (codes "=") (codes " v} =" ++ 32 ∷ rest) (known _ _ refl refl refl refl) r w low 17 refl
    (word (codes "v") (codes "} =" ++ 32 ∷ rest) (known _ _ refl refl refl refl) r w low 19 refl
    (mark (codes "}") (codes " =" ++ 32 ∷ rest) (known _ _ refl refl refl refl) r w low 21 refl
    (word (codes "=") (32 ∷ rest) (known _ _ refl (equals_alone rest) refl refl) r w low 22 refl
    (done (cursor (32 ∷ rest) r (w + 24)))))))))))))

-- ---- what it takes apart

abbrev pub subject_tokens : ℕ → List Lexeme
subject_tokens zero = apart Lower (codes "c") (body_row 0) (width 0 + 25) ∷ []
subject_tokens (suc before) =
    apart Lower (name (suc before)) (body_row (suc before)) (width (suc before) + 25)
    ∷ apart Lower (codes "c") (body_row (suc before)) (reach (suc before) + 24)
    ∷ []

first_subject : (rest : List ℕ)
    → Divided (cursor (32 ∷ (subject 0 ++ 32 ∷ rest)) (body_row 0) (width 0 + 24)) (subject_tokens 0) (cursor (32 ∷ rest) (body_row 0) (reach 0 + 25))
unfolding subject
first_subject rest =
    let low : width 0 ≤ 1000 = omega (arith, low_name 0 (omega arith)) in
    then_apart Lower (codes "c") (32 ∷ rest) (body_row 0) (width 0 + 24) (width 0 + 25) (reach 0 + 25) (splits (codes "c") (32 ∷ rest) refl refl refl) (refl, tt) (omega arith) (omega arith) (omega (arith, low))
    (done (cursor (32 ∷ rest) (body_row 0) (reach 0 + 25)))

further_subject : (before : ℕ) (rest : List ℕ) → suc before < 4096
    → Divided (cursor (32 ∷ (subject (suc before) ++ 32 ∷ rest)) (body_row (suc before)) (width (suc before) + 24)) (subject_tokens (suc before)) (cursor (32 ∷ rest) (body_row (suc before)) (reach (suc before) + 25))
unfolding subject
further_subject before rest h =
    let r = body_row (suc before) in
    let w = width (suc before) in
    let n = name (suc before) in
    let low : w ≤ 5 = low_name (suc before) h in
    let low' : length n ≤ 5 = name_length (suc before) (omega (arith, h)) in
    let long : reach (suc before) ≡ w + (length n + 2) = ap (λ m. w + m) (length-append n (codes " c")) in
    subst (λ (x : List ℕ). Divided (cursor (32 ∷ x) r (w + 24)) (subject_tokens (suc before)) (cursor (32 ∷ rest) r (reach (suc before) + 25))) (sym (append_assoc n (codes " c") (32 ∷ rest)))
    (then_apart Lower n (codes " c" ++ 32 ∷ rest) r (w + 24) (w + 25) (reach (suc before) + 23) (name_splits (suc before) _ (omega (arith, h)) refl) (name_inline (suc before) (omega (arith, h))) (omega arith) (omega (arith, long)) (omega (arith, long, low, low'))
    (then_apart Lower (codes "c") (32 ∷ rest) r (reach (suc before) + 23) (reach (suc before) + 24) (reach (suc before) + 25) (splits (codes "c") (32 ∷ rest) refl refl refl) (refl, tt) (omega arith) (omega arith) (omega (arith, long, low, low'))
    (done (cursor (32 ∷ rest) r (reach (suc before) + 25)))))

subject_divided : (before : ℕ) (rest : List ℕ) → before < 4096
    → Divided (cursor (32 ∷ (subject before ++ 32 ∷ rest)) (body_row before) (width before + 24)) (subject_tokens before) (cursor (32 ∷ rest) (body_row before) (reach before + 25))
subject_divided zero rest h = first_subject rest
subject_divided (suc before) rest h = further_subject before rest h

-- ---- and the end of the definition

abbrev pub end_tokens : ℕ → List Lexeme
end_tokens before =
    apart Word (codes "in") (body_row before) (reach before + 26)
    ∷ apart Lower (codes "c'") (body_row before) (reach before + 29)
    ∷ apart Sign (codes "{") (body_row before) (reach before + 32)
    ∷ joined Lower (codes "val") (body_row before) (reach before + 33)
    ∷ apart Sign (codes "=") (body_row before) (reach before + 37)
    ∷ apart Lower (codes "v") (body_row before) (reach before + 39)
    ∷ apart Sign (codes "*") (body_row before) (reach before + 41)
    ∷ apart (Number (Some 3)) (codes "3") (body_row before) (reach before + 43)
    ∷ apart Sign (codes "+") (body_row before) (reach before + 45)
    ∷ apart (Number (Some (before + 1))) (decimal (before + 1)) (body_row before) (reach before + 47)
    ∷ joined Sign (codes "}") (body_row before) (reach before + (47 + length (decimal (before + 1))))
    ∷ []

pub low_subject : (before : ℕ) → before < 4096 → length (subject before) ≤ 7
unfolding subject
low_subject zero h = omega arith
low_subject (suc before) h = omega (arith, length-append (name (suc before)) (codes " c"), name_length (suc before) (omega (arith, h)))

end_divided : (before : ℕ) (rest : List ℕ) → before < 4096
    → Divided (cursor (codes " in c' {val = v * 3 +" ++ 32 ∷ (decimal (before + 1) ++ 125 ∷ 10 ∷ rest)) (body_row before) (reach before + 25)) (end_tokens before)
    (cursor (10 ∷ rest) (body_row before) (reach before + (48 + length (decimal (before + 1)))))
end_divided before rest h =
    let r = body_row before in
    let w = reach before in
    let d = decimal (before + 1) in
    let more = 32 ∷ (d ++ 125 ∷ 10 ∷ rest) in
    let close : w ≤ 12 = omega (arith, low_name before h, low_subject before h) in
    let low : w ≤ 1000 = omega (arith, close) in
    let short : length d ≤ 4 = number_length_is (before + 1) (omega (arith, h)) in
    word (codes "in") (codes " c' {val = v * 3 +" ++ more) (known _ _ refl refl refl refl) r w low 25 refl
    (word (codes "c'") (codes " {val = v * 3 +" ++ more) (known _ _ refl refl refl refl) r w low 28 refl
    (word (codes "{") (codes "val = v * 3 +" ++ more) (known _ _ refl refl refl refl) r w low 31 refl
    (mark (codes "val") (codes " = v * 3 +" ++ more) (known _ _ refl refl refl refl) r w low 33 refl
    (word (codes "=") (codes " v * 3 +" ++ more) (known _ _ refl refl refl refl) r w low 36 refl
    (word (codes "v") (codes " * 3 +" ++ more) (known _ _ refl refl refl refl) r w low 38 refl
    (word (codes "*") (codes " 3 +" ++ more) (known _ _ refl refl refl refl) r w low 40 refl
    (word (codes "3") (codes " +" ++ more) (known _ _ refl refl refl refl) r w low 42 refl
    (word (codes "+") more (known _ _ refl (plus_alone _) refl refl) r w low 44 refl
    (then_apart (Number (Some (before + 1))) d (125 ∷ 10 ∷ rest) r (w + 46) (w + 47) (w + (47 + length d)) (number_splits (before + 1) (10 ∷ rest) (omega (arith, h))) (number_inline (before + 1) (omega (arith, h))) (omega arith) (omega arith) (omega (arith, close, short))
    (then_joined Sign (codes "}") (10 ∷ rest) r (w + (47 + length d)) (w + (48 + length d)) (splits (codes "}") (10 ∷ rest) refl (brace_alone rest) refl) (refl, tt) (omega arith) (omega (arith, close, short))
    (done (cursor (10 ∷ rest) r (w + (48 + length d))))))))))))))

-- ---- a function

abbrev pub body_tokens : ℕ → List Lexeme
body_tokens before = head_tokens before ++ (subject_tokens before ++ end_tokens before)

abbrev pub function_tokens : ℕ → List Lexeme
function_tokens before = type_tokens before ++ body_tokens before

-- its text, with what stands behind its last line feed
abbrev body_text : ℕ → List ℕ → List ℕ
body_text before rest = name (before + 1) ++ (codes " c = let c' {val = v} =" ++ 32 ∷ (subject before ++ (codes " in c' {val = v * 3 +" ++ 32 ∷ (decimal (before + 1) ++ 125 ∷ 10 ∷ rest))))

abbrev type_text : ℕ → List ℕ → List ℕ
type_text before rest = name (before + 1) ++ (codes " : Cell -> Cell" ++ 10 ∷ rest)

sum_is : (before : ℕ) (rest : List ℕ) → sum_text before ++ rest ≡ codes " in c' {val = v * 3 +" ++ 32 ∷ (decimal (before + 1) ++ 125 ∷ 10 ∷ rest)
unfolding sum_text
sum_is before rest = ap (λ x. codes " in c' {val = v * 3 + " ++ x) (append_assoc (decimal (before + 1)) (codes "}\n") rest)

pub four : (a b c d rest : List ℕ) → (a ++ b ++ c ++ d) ++ rest ≡ a ++ (b ++ (c ++ (d ++ rest)))
four a b c d rest = simp append_assoc

body_is : (before : ℕ) (rest : List ℕ) → body_line before ++ rest ≡ body_text before rest
unfolding body_line
body_is before rest =
    four (name (before + 1)) (codes " c = let c' {val = v} = ") (subject before) (sum_text before) rest
    ∙ ap (λ x. name (before + 1) ++ (codes " c = let c' {val = v} = " ++ (subject before ++ x))) (sum_is before rest)

type_is : (before : ℕ) (rest : List ℕ) → type_line before ++ rest ≡ type_text before rest
unfolding type_line
type_is before rest = append_assoc (name (before + 1)) (codes " : Cell -> Cell\n") rest

function_is : (before : ℕ) (rest : List ℕ) → function before ++ rest ≡ type_text before (body_text before rest)
unfolding function
function_is before rest = append_assoc (type_line before) (body_line before) rest ∙ ap (λ x. type_line before ++ x) (body_is before rest) ∙ type_is before (body_text before rest)

body_divided : (before from : ℕ) (rest : List ℕ) → before < 4096
    → Divided (cursor (10 ∷ body_text before rest) (type_row before) from) (body_tokens before) (cursor (10 ∷ rest) (body_row before) (reach before + (48 + length (decimal (before + 1)))))
body_divided before from rest h =
    let end = codes "in c' {val = v * 3 +" ++ 32 ∷ (decimal (before + 1) ++ 125 ∷ 10 ∷ rest) in
    one_by_one (head_tokens before) (subject_tokens before ++ end_tokens before) _ _ _ (head_divided before from (subject before ++ 32 ∷ end) h)
    (one_by_one (subject_tokens before) (end_tokens before) _ _ _ (subject_divided before end h) (end_divided before rest h))

-- behind the line before it, and up to its last line feed
pub function_divided : (before from : ℕ) (rest : List ℕ) → before < 4096
    → Divided (cursor (10 ∷ (function before ++ rest)) (before * 2 + 1) from) (function_tokens before) (cursor (10 ∷ rest) (body_row before) (reach before + (48 + length (decimal (before + 1)))))
function_divided before from rest h =
    let end = cursor (10 ∷ rest) (body_row before) (reach before + (48 + length (decimal (before + 1)))) in
    subst (λ (x : List ℕ). Divided (cursor (10 ∷ x) (before * 2 + 1) from) (function_tokens before) end) (sym (function_is before rest))
    (one_by_one (type_tokens before) (body_tokens before) _ _ end (type_divided before from (body_text before rest) h) (body_divided before (width before + 16) rest h))
