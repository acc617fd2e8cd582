-- Numbers: their values digit by digit, and the number at the front of bytes.
use Rattle.std.proofs.Common.{◌≡◌, ℕ, ◌+◌, ◌*◌, ◌^◌, ◌<◌, ◌≤◌, Bool, true, false, List, [], ◌∷◌, ◌++◌, length, take, drop, get_or, Option, None, refl, sym, ap, ◌∙◌, subst, arith, add-one, one-add, drop-cons, append_assoc, length-append}
use Rattle.std.specs.Prelude.{◌==◌, ◌&&◌, ⊤}
use Rattle.std.specs.List.{prefix_len}
use Rattle.std.proofs.lemmas.Bool.Decides.{nat_tests}
use Rattle.std.proofs.lemmas.List.{append-nil, take-append-drop, length-take-le}
use Rattle.std.proofs.Math.Nat.{le-mul_of_pos_right}
use Rattle.std.proofs.Math.Seq.{take-append_seam, drop-append_seam}
use Rattle.cg_base.specs.Bytes.{digit, Each, Starts}
use Rattle.cg_base.specs.Numbers.{word64}
use Rattle.cg_base.proofs.Spans.{either_way, front_passes}
use Rattle.cg_lexer.specs.declared.number.Base.{Base}
use Rattle.cg_lexer.specs.declared.number.Base.TheVariants.{Decimal, Hexadecimal, Octal, Binary}
use Rattle.cg_lexer.specs.Bytes.{digit_value, digit_of}
use Rattle.cg_lexer.specs.Numbers.{base_size, base_mark, number_from, value_of, IsNumber}
use Rattle.cg_lexer.specs.Front.{number_base, length_in, number_length, number_value}
use Rattle.cg_base.proofs.NumberLaws.{no_word}

-- ---- values

size_some : (base : Base) → 0 < base_size base
size_some Decimal = omega arith
size_some Hexadecimal = omega arith
size_some Octal = omega arith
size_some Binary = omega arith

-- further digits make no smaller number
number_from-grows : (base n : ℕ) (digits : List ℕ) → 0 < base → n ≤ number_from base n digits
number_from-grows base n [] some = omega arith
number_from-grows base n (b ∷ digits) some =
    omega (arith, number_from-grows base (n * base + digit_value b) digits some, le-mul_of_pos_right {m = base} n some)

number_from-drop : (base : ℕ) (digits : List ℕ) (i n : ℕ) → i < length digits → number_from base n (drop i digits) ≡ number_from base (n * base + digit_value (get_or digits i 0)) (drop (i + 1) digits)
number_from-drop base digits i n h = rw (add-one) (ap (number_from base n) (drop-cons digits i 0 h))

-- where a front is too large already, so is the whole
pub too_large : (base : Base) (digits : List ℕ) (i n size : ℕ) → size ≡ base_size base → i < length digits → number_from (base_size base) n (drop i digits) ≡ number_from (base_size base) 0 digits → word64 (n * size + digit_value (get_or digits i 0)) ≡ None → None ≡ value_of base digits
too_large base digits i n size s h is e =
    let next = n * base_size base + digit_value (get_or digits i 0) in
    let none : word64 next ≡ None = ap (λ m. word64 (n * m + digit_value (get_or digits i 0))) (sym s) ∙ e in
    let large : 2 ^ 64 ≤ number_from (base_size base) 0 digits = omega (arith, is, no_word next none, number_from-drop (base_size base) digits i n h, number_from-grows (base_size base) next (drop (i + 1) digits) (size_some base)) in
    above (number_from (base_size base) 0 digits) large
  where
    above : (m : ℕ) → 2 ^ 64 ≤ m → None ≡ word64 m
    above m large = grind (arith, nat_tests)

-- ---- the base of a number

pub decimal_digit : (b : ℕ) → digit_of 10 b ≡ digit b
decimal_digit b = go (digit b) refl
  where
    go : (x : Bool) → digit b ≡ x → digit_of 10 b ≡ x
    go true h = grind (arith, nat_tests)
    go false h = grind (arith, nat_tests)

-- where the second byte is a decimal digit there is no mark
second_decimal : (a b : ℕ) (bytes : List ℕ) → digit_of 10 b ≡ true → number_base (a ∷ b ∷ bytes) ≡ Decimal
second_decimal a b [] h = refl
second_decimal a b (c ∷ bytes) h =
    let x : (b == 120) ≡ false = grind (arith, nat_tests, decimal_digit) in
    let o : (b == 111) ≡ false = grind (arith, nat_tests, decimal_digit) in
    let y : (b == 98) ≡ false = grind (arith, nat_tests, decimal_digit) in
    rw (x, o, y) refl

decimal_base : (digits : List ℕ) → Each (digit_of 10) digits → number_base digits ≡ Decimal
decimal_base [] h = refl
decimal_base (a ∷ []) h = refl
decimal_base (a ∷ b ∷ digits) h = second_decimal a b digits h.1.0

-- a base with a mark is found by the mark and a digit
abbrev IsMarked : Base → Type 0
IsMarked Decimal = ⊥
IsMarked Hexadecimal = ⊤
IsMarked Octal = ⊤
IsMarked Binary = ⊤

marked_base : (base : Base) (digits rest : List ℕ) → IsMarked base → Starts (digit_of (base_size base)) digits → number_base (base_mark base ++ (digits ++ rest)) ≡ base
marked_base Decimal digits rest m h = absurd m
marked_base base [] rest m h = absurd h
marked_base Hexadecimal (d ∷ digits) rest m h = rw h refl
marked_base Octal (d ∷ digits) rest m h = rw h refl
marked_base Binary (d ∷ digits) rest m h = rw h refl

base_of_text : (base : Base) (digits : List ℕ) → Starts (digit_of (base_size base)) digits → Each (digit_of (base_size base)) digits → number_base (base_mark base ++ digits) ≡ base
base_of_text Decimal digits s h = decimal_base digits h
base_of_text Hexadecimal digits s h = ap (λ x. number_base (base_mark Hexadecimal ++ x)) (sym (append-nil digits)) ∙ marked_base Hexadecimal digits [] tt s
base_of_text Octal digits s h = ap (λ x. number_base (base_mark Octal ++ x)) (sym (append-nil digits)) ∙ marked_base Octal digits [] tt s
base_of_text Binary digits s h = ap (λ x. number_base (base_mark Binary ++ x)) (sym (append-nil digits)) ∙ marked_base Binary digits [] tt s

-- ---- a number that stands in front is found

-- the value of a number is the one of its text
pub value_is : (text : List ℕ) (value : Option ℕ) → IsNumber text value → value ≡ number_value text
value_is text value n =
    let base = n.0 in
    let digits = n.1 in
    let found : number_base text ≡ base = ap number_base n.2 ∙ base_of_text base digits n.3 n.4 in
    let left : drop (length (base_mark base)) text ≡ digits = ap (drop (length (base_mark base))) n.2 ∙ drop-append_seam (base_mark base) digits in
    n.5 ∙ ap (value_of base) (sym left) ∙ ap (λ (b : Base). value_of b (drop (length (base_mark b)) text)) (sym found)

starts_decimal : (digits rest : List ℕ) → Starts (digit_of 10) digits → Starts digit (digits ++ rest)
starts_decimal [] rest h = absurd h
starts_decimal (b ∷ digits) rest h = sym (decimal_digit b) ∙ h

-- it begins with a decimal digit
pub number_starts : (text : List ℕ) (value : Option ℕ) → IsNumber text value → Starts digit text
number_starts text value n = subst (Starts digit) (sym n.2) (of_base n.0 n.1 n.3)
  where
    of_base : (base : Base) (digits : List ℕ) → Starts (digit_of (base_size base)) digits → Starts digit (base_mark base ++ digits)
    of_base Decimal [] h = absurd h
    of_base Decimal (b ∷ digits) h = sym (decimal_digit b) ∙ h
    of_base Hexadecimal digits h = refl
    of_base Octal digits h = refl
    of_base Binary digits h = refl

-- bytes that pass stand within the longest front that passes
pub spans_within : (p : ℕ → Bool) (xs rest : List ℕ) → Each p xs → length xs ≤ prefix_len p (xs ++ rest)
spans_within p [] rest h = omega arith
spans_within p (x ∷ xs) rest h = rw h.0 (omega (arith, spans_within p xs rest h.1))

length_marked : (base : Base) (digits rest : List ℕ) → IsMarked base → Starts (digit_of (base_size base)) digits → Each (digit_of (base_size base)) digits → length (base_mark base ++ digits) ≤ number_length (base_mark base ++ (digits ++ rest))
length_marked base digits rest m s h =
    let found : number_base (base_mark base ++ (digits ++ rest)) ≡ base = marked_base base digits rest m s in
    let p = digit_of (base_size base) in
    let left : drop (length (base_mark base)) (base_mark base ++ (digits ++ rest)) ≡ digits ++ rest = drop-append_seam (base_mark base) (digits ++ rest) in
    let long : number_length (base_mark base ++ (digits ++ rest)) ≡ length (base_mark base) + prefix_len p (digits ++ rest) = ap (λ (b : Base). length_in b (base_mark base ++ (digits ++ rest))) found ∙ ap (λ x. length (base_mark base) + prefix_len p x) left in
    omega (arith, long, length-append (base_mark base) digits, spans_within p digits rest h)

one_digit : (base : Base) (d : ℕ) (rest : List ℕ) → digit_of 10 d ≡ true → 1 ≤ length_in base (d ∷ rest)
one_digit Decimal d rest h = rw h (omega arith)
one_digit Hexadecimal d rest h = omega arith
one_digit Octal d rest h = omega arith
one_digit Binary d rest h = omega arith

length_decimal : (digits rest : List ℕ) → Starts (digit_of 10) digits → Each (digit_of 10) digits → length digits ≤ number_length (digits ++ rest)
length_decimal [] rest s h = omega arith
length_decimal (d ∷ []) rest s h = one_digit (number_base (d ∷ rest)) d rest s
length_decimal (d ∷ e ∷ digits) rest s h =
    let found : number_base (d ∷ e ∷ (digits ++ rest)) ≡ Decimal = second_decimal d e (digits ++ rest) h.1.0 in
    let long : number_length (d ∷ e ∷ (digits ++ rest)) ≡ 0 + prefix_len (digit_of 10) (d ∷ e ∷ (digits ++ rest)) = ap (λ (b : Base). length_in b (d ∷ e ∷ (digits ++ rest))) found in
    omega (arith, long, spans_within (digit_of 10) (d ∷ e ∷ digits) rest h)

pub number_within : (text rest : List ℕ) (value : Option ℕ) → IsNumber text value → length text ≤ number_length (text ++ rest)
number_within text rest value n = let P : List ℕ → Type 0 = λ x. length x ≤ number_length (x ++ rest) in subst P (sym n.2) (of_base n.0 n.1 n.3 n.4)
  where
    of_base : (base : Base) (digits : List ℕ) → Starts (digit_of (base_size base)) digits → Each (digit_of (base_size base)) digits → length (base_mark base ++ digits) ≤ number_length ((base_mark base ++ digits) ++ rest)
    of_base Decimal digits s h = length_decimal digits rest s h
    of_base Hexadecimal digits s h = length_marked Hexadecimal digits rest tt s h
    of_base Octal digits s h = length_marked Octal digits rest tt s h
    of_base Binary digits s h = length_marked Binary digits rest tt s h

-- ---- what is found in front is a number

-- what the base that is found says of the bytes
abbrev Follows : Base → List ℕ → Type 0
Follows base bytes = (digits : List ℕ) × (bytes ≡ base_mark base ++ digits) × Starts (digit_of (base_size base)) digits

marked : (a b c : ℕ) (bytes : List ℕ) (base : Base) (letter : ℕ) → base_mark base ≡ 48 ∷ letter ∷ [] → (b == letter && (a == 48 && digit_of (base_size base) c)) ≡ true → Follows base (a ∷ b ∷ c ∷ bytes)
marked a b c bytes base letter m h =
    let first : a ≡ 48 = grind (arith, nat_tests) in
    let second : b ≡ letter = grind (arith, nat_tests) in
    let third : digit_of (base_size base) c ≡ true = and_right _ _ (and_right _ _ h) in
    (c ∷ bytes, (λ i. first i ∷ second i ∷ c ∷ bytes) ∙ ap (λ x. x ++ (c ∷ bytes)) (sym m), third)
  where
    and_right : (x y : Bool) → (x && y) ≡ true → y ≡ true
    and_right true y h = h
    and_right false y h = cc

follows : (bytes : List ℕ) → Starts digit bytes → Follows (number_base bytes) bytes
follows [] h = absurd h
follows (a ∷ []) h = (a ∷ [], refl, decimal_digit a ∙ h)
follows (a ∷ b ∷ []) h = (a ∷ b ∷ [], refl, decimal_digit a ∙ h)
follows (a ∷ b ∷ c ∷ bytes) h =
    let Q : Base → Type 0 = λ base. Follows base (a ∷ b ∷ c ∷ bytes) in
    either_way Q (b == 120 && (a == 48 && digit_of 16 c)) Hexadecimal _ (marked a b c bytes Hexadecimal 120 refl) (λ _.
    either_way Q (b == 111 && (a == 48 && digit_of 8 c)) Octal _ (marked a b c bytes Octal 111 refl) (λ _.
    either_way Q (b == 98 && (a == 48 && digit_of 2 c)) Binary Decimal (marked a b c bytes Binary 98 refl) (λ _.
    (a ∷ b ∷ c ∷ bytes, refl, decimal_digit a ∙ h))))

-- the first bytes, as many as a text has
pub take_front : (bytes text rest : List ℕ) (n : ℕ) → bytes ≡ text ++ rest → n ≡ length text → (take n bytes ≡ text) × (n ≤ length bytes)
take_front bytes text rest n e long = ((λ i. take (long i) (e i)) ∙ take-append_seam text rest, omega (arith, ap length e, length-append text rest))

starts_span : (p : ℕ → Bool) (xs : List ℕ) → Starts p xs → Starts p (take (prefix_len p xs) xs)
starts_span p [] h = absurd h
starts_span p (x ∷ xs) h = rw (h, one-add) h

number_in : (base : Base) (bytes : List ℕ) → Follows base bytes → (length_in base bytes ≤ length bytes) × IsNumber (take (length_in base bytes) bytes) (value_of base (take (prefix_len (digit_of (base_size base)) (drop (length (base_mark base)) bytes)) (drop (length (base_mark base)) bytes)))
number_in base bytes f =
    let p = digit_of (base_size base) in
    let mark = base_mark base in
    let digits = f.0 in
    let left : drop (length mark) bytes ≡ digits = ap (drop (length mark)) f.1 ∙ drop-append_seam mark digits in
    let here : take (prefix_len p (drop (length mark) bytes)) (drop (length mark) bytes) ≡ take (prefix_len p digits) digits = ap (λ x. take (prefix_len p x) x) left in
    let front = take (prefix_len p digits) digits in
    let passes = front_passes p digits in
    let long : length front ≡ prefix_len p digits = length-take-le (prefix_len p digits) digits passes.2 in
    let parts : bytes ≡ (mark ++ front) ++ drop (prefix_len p digits) digits = f.1 ∙ ap (λ x. mark ++ x) (sym (take-append-drop (prefix_len p digits) digits)) ∙ sym (append_assoc mark front (drop (prefix_len p digits) digits)) in
    let n : length_in base bytes ≡ length (mark ++ front) = omega (arith, ap (prefix_len p) left, long, length-append mark front) in
    let t = take_front bytes (mark ++ front) (drop (prefix_len p digits) digits) (length_in base bytes) parts n in
    (t.1, (base, front, t.0, starts_span p digits f.2, passes.0, ap (value_of base) here))

pub number_there : (bytes : List ℕ) → Starts digit bytes → (number_length bytes ≤ length bytes) × (value : Option ℕ) × IsNumber (take (number_length bytes) bytes) value
number_there bytes h = let n = number_in (number_base bytes) bytes (follows bytes h) in (n.0, _, n.1)
