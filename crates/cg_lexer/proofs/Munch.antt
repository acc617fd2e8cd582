-- What is found at the front is the longest text of a token that stands there.
use Rattle.std.proofs.Common.{◌≡◌, ℕ, ◌+◌, ◌<◌, ◌≤◌, Bool, true, false, List, [], ◌∷◌, ◌++◌, length, take, drop, codes, refl, sym, ap, ◌∙◌, subst, arith, one-add, rules, Option}
use Rattle.std.specs.Prelude.{◌==◌, ◌||◌, ◌&&◌, not}
use Rattle.std.specs.List.{prefix_len, list_any, AllByRecursion}
use Rattle.std.specs.Str.{bytes_eq}
use Rattle.std.proofs.lemmas.Bool.Decides.{nat_tests}
use Rattle.std.proofs.lemmas.Slice.Eq.{bytes_eq-Decides}
use Rattle.std.proofs.Math.Seq.{take-append_seam, drop-append_seam}
use Rattle.cg_lexer.specs.declared.token.TokenKind.{TokenKind}
use Rattle.cg_lexer.specs.declared.token.TokenKind.TheVariants.{Lower, Upper, Number, Word, Sign, End}
use Rattle.cg_base.specs.Bytes.{white, digit, Each, Starts}
use Rattle.cg_base.proofs.Spans.{either_way, front_passes}
use Rattle.cg_lexer.specs.Bytes.{small, large, part_of_name, dark, inline}
use Rattle.cg_lexer.specs.Numbers.{IsNumber}
use Rattle.cg_lexer.specs.Gaps.{opens, dashes}
use Rattle.cg_lexer.specs.Tokens.{words, is_word, short_signs, middle_signs, long_signs, is_sign, IsTextOf, IsLongest}
use Rattle.cg_lexer.specs.Front.{piece_length, letter, short, middle, long, short_length, middle_length, sign_length, number_length, number_value, token_length, kind_of}
use Rattle.cg_lexer.proofs.Numbers.{value_is, number_starts, number_within, number_there, spans_within}
use Rattle.cg_base.proofs.Truths.{either}

-- a text that is on a list has what each text of the list has
among : (P : List ℕ → Type 0) (texts : List (List ℕ)) (text : List ℕ) → AllByRecursion P texts → list_any (bytes_eq text) texts ≡ true → P text
among P [] text all e = absurd (cc)
among P (t ∷ texts) text all e = one (bytes_eq text t) refl e (among P texts text all.1)
  where
    one : (b : Bool) → bytes_eq text t ≡ b → (b || list_any (bytes_eq text) texts) ≡ true → (list_any (bytes_eq text) texts ≡ true → P text) → P text
    one true h k later = subst P (sym ((bytes_eq-Decides text t).0 h)) all.0
    one false h k later = later k

-- a sign is on one of the lists, or the wildcard
by_sign : (P : List ℕ → Type 0) (text : List ℕ) → is_sign text ≡ true → (list_any (bytes_eq text) short_signs ≡ true → P text) → (list_any (bytes_eq text) middle_signs ≡ true → P text) → (list_any (bytes_eq text) long_signs ≡ true → P text) → P (codes "_") → P text
by_sign P text h f g k w =
    either _ _ h (λ h. either _ _ h (λ h. either _ _ h f g) k) (λ h. subst P (sym ((bytes_eq-Decides text (codes "_")).0 h)) w)

-- ---- bytes of names and numbers

letter_dark : (b : ℕ) → letter b ≡ true → (dark b ≡ true) × (digit b ≡ false) × (part_of_name b ≡ true)
letter_dark b h = grind (arith, nat_tests)

digit_dark : (b : ℕ) → digit b ≡ true → (dark b ≡ true) × (letter b ≡ false)
digit_dark b h = grind (arith, nat_tests)

small_letter : (b : ℕ) → small b ≡ true → (letter b ≡ true) × (large b ≡ false)
small_letter b h = grind (arith, nat_tests)

large_letter : (b : ℕ) → large b ≡ true → letter b ≡ true
large_letter b h = grind (arith, nat_tests)

-- a text that begins like a name and goes on so
abbrev IsNamed : List ℕ → Type 0
IsNamed text = Starts letter text × Each part_of_name text

words_named : AllByRecursion IsNamed words
words_named = search rules

word_named : (text : List ℕ) → is_word text ≡ true → IsNamed text
word_named text e = among IsNamed words text words_named e

lower_named : (text : List ℕ) → IsTextOf Lower text → IsNamed text
lower_named [] h = absurd h.0
lower_named (b ∷ text) h = ((small_letter b h.0).0, h.1)

upper_named : (text : List ℕ) → IsTextOf Upper text → IsNamed text
upper_named [] h = absurd h.0
upper_named (b ∷ text) h = (large_letter b h.0, h.1)

-- ---- the kind of a text

lower_kind : (text : List ℕ) → IsTextOf Lower text → Lower ≡ kind_of text
lower_kind [] h = absurd h.0
lower_kind (b ∷ bytes) h = let l = small_letter b h.0 in rw ((letter_dark b l.0).1, h.2, l.1, h.3, h.0) refl

upper_kind : (text : List ℕ) → IsTextOf Upper text → Upper ≡ kind_of text
upper_kind [] h = absurd h.0
upper_kind (b ∷ bytes) h = let l = large_letter b h.0 in rw ((letter_dark b l).1, h.2, h.0) refl

word_kind : (text : List ℕ) → is_word text ≡ true → IsNamed text → Word ≡ kind_of text
word_kind [] e n = absurd n.0
word_kind (b ∷ bytes) e n = rw ((letter_dark b n.0).1, e) refl

number_kind : (value : Option ℕ) (text : List ℕ) → value ≡ number_value text → Starts digit text → Number value ≡ kind_of text
number_kind value [] e s = absurd s
number_kind value (b ∷ bytes) e s = ap Number e ∙ rw s refl

abbrev IsSigned : List ℕ → Type 0
IsSigned text = Sign ≡ kind_of text

short_kind : AllByRecursion IsSigned short_signs
short_kind = search rules

middle_kind : AllByRecursion IsSigned middle_signs
middle_kind = search rules

long_kind : AllByRecursion IsSigned long_signs
long_kind = search rules

-- a text is of one kind
pub kind_is : (kind : TokenKind) (text : List ℕ) → IsTextOf kind text → kind ≡ kind_of text
kind_is Lower text h = lower_kind text h
kind_is Upper text h = upper_kind text h
kind_is (Number value) text h = number_kind value text (value_is text value h) (number_starts text value h)
kind_is Word text h = word_kind text h (word_named text h)
kind_is Sign text h = by_sign IsSigned text h (among IsSigned short_signs text short_kind) (among IsSigned middle_signs text middle_kind) (among IsSigned long_signs text long_kind) refl
kind_is End text h = absurd h

-- ---- how a text begins

named_dark : (text : List ℕ) → Starts letter text → Starts dark text
named_dark [] h = absurd h
named_dark (b ∷ text) h = (letter_dark b h).0

number_dark : (text : List ℕ) → Starts digit text → Starts dark text
number_dark [] h = absurd h
number_dark (b ∷ text) h = (digit_dark b h).0

short_dark : AllByRecursion (Starts dark) short_signs
short_dark = search rules

middle_dark : AllByRecursion (Starts dark) middle_signs
middle_dark = search rules

long_dark : AllByRecursion (Starts dark) long_signs
long_dark = search rules

-- a token begins with no white space
pub text_dark : (kind : TokenKind) (text : List ℕ) → IsTextOf kind text → Starts dark text
text_dark Lower text h = named_dark text (lower_named text h).0
text_dark Upper text h = named_dark text (upper_named text h).0
text_dark (Number value) text h = number_dark text (number_starts text value h)
text_dark Word text h = named_dark text (word_named text h).0
text_dark Sign text h = by_sign (Starts dark) text h (among (Starts dark) short_signs text short_dark) (among (Starts dark) middle_signs text middle_dark) (among (Starts dark) long_signs text long_dark) refl
text_dark End text h = absurd h

-- and is not empty
pub some_text : (kind : TokenKind) (text : List ℕ) → IsTextOf kind text → 0 < length text
some_text kind text h = begun text (text_dark kind text h)
  where
    begun : (x : List ℕ) → Starts dark x → 0 < length x
    begun [] s = absurd s
    begun (b ∷ x) s = omega arith

-- ---- a text that stands in front is no longer than what is found

named_within : (text rest : List ℕ) → IsNamed text → length text ≤ token_length (text ++ rest)
named_within [] rest h = absurd h.0
named_within (b ∷ text) rest h =
    let n : token_length (b ∷ (text ++ rest)) ≡ prefix_len part_of_name (b ∷ (text ++ rest)) = rw h.0 refl in
    omega (arith, n, spans_within part_of_name (b ∷ text) rest h.1)

number_front : (text rest : List ℕ) (value : Option ℕ) → IsNumber text value → Starts digit text → length text ≤ token_length (text ++ rest)
number_front [] rest value h s = absurd s
number_front (b ∷ text) rest value h s = rw ((digit_dark b s).1, s) (number_within (b ∷ text) rest value h)

-- a byte that begins neither a name nor a number
abbrev other : ℕ → Bool
other b = not (letter b || digit b)

sign_front : (b : ℕ) (bytes : List ℕ) → other b ≡ true → token_length (b ∷ bytes) ≡ sign_length (b ∷ bytes)
sign_front b bytes h =
    let l : letter b ≡ false = grind arith in
    let d : digit b ≡ false = grind arith in
    rw (l, d) refl

abbrev IsShort : List ℕ → Type 0
IsShort text = (length text ≡ 1) × Starts other text

abbrev IsMiddle : List ℕ → Type 0
IsMiddle text = (length text ≡ 2) × Starts other text

abbrev IsLong : List ℕ → Type 0
IsLong text = (length text ≡ 3) × Starts other text

short_are : AllByRecursion IsShort short_signs
short_are = search rules

middle_are : AllByRecursion IsMiddle middle_signs
middle_are = search rules

long_are : AllByRecursion IsLong long_signs
long_are = search rules

short_some : (a : ℕ) → short a ≡ true → 1 ≤ short_length a
short_some a h = rw h (omega arith)

middle_some : (a b : ℕ) → short a ≡ true → 1 ≤ middle_length a b
middle_some a b h = either_way (λ (n : ℕ). 1 ≤ n) (middle a b) 2 (short_length a) (λ _. omega arith) (λ _. short_some a h)

short_front : (a : ℕ) (rest : List ℕ) → short a ≡ true → 1 ≤ sign_length (a ∷ rest)
short_front a [] h = short_some a h
short_front a (b ∷ []) h = middle_some a b h
short_front a (b ∷ c ∷ rest) h = either_way (λ (n : ℕ). 1 ≤ n) (long a b c) 3 (middle_length a b) (λ _. omega arith) (λ _. middle_some a b h)

middle_found : (a b : ℕ) → middle a b ≡ true → 2 ≤ middle_length a b
middle_found a b h = rw h (omega arith)

middle_front : (a b : ℕ) (rest : List ℕ) → middle a b ≡ true → 2 ≤ sign_length (a ∷ b ∷ rest)
middle_front a b [] h = middle_found a b h
middle_front a b (c ∷ rest) h = either_way (λ (n : ℕ). 2 ≤ n) (long a b c) 3 (middle_length a b) (λ _. omega arith) (λ _. middle_found a b h)

long_front : (a b c : ℕ) (rest : List ℕ) → long a b c ≡ true → 3 ≤ sign_length (a ∷ b ∷ c ∷ rest)
long_front a b c rest h = rw h (omega arith)

short_within : (text rest : List ℕ) → list_any (bytes_eq text) short_signs ≡ true → IsShort text → length text ≤ token_length (text ++ rest)
short_within [] rest h s = absurd s.1
short_within (a ∷ []) rest h s = rw (sign_front a rest s.1) (short_front a rest h)
short_within (a ∷ b ∷ text) rest h s = absurd (omega (arith, s.0))

middle_within : (text rest : List ℕ) → list_any (bytes_eq text) middle_signs ≡ true → IsMiddle text → length text ≤ token_length (text ++ rest)
middle_within [] rest h s = absurd s.1
middle_within (a ∷ []) rest h s = absurd (omega (arith, s.0))
middle_within (a ∷ b ∷ []) rest h s = rw (sign_front a (b ∷ rest) s.1) (middle_front a b rest h)
middle_within (a ∷ b ∷ c ∷ text) rest h s = absurd (omega (arith, s.0))

long_within : (text rest : List ℕ) → list_any (bytes_eq text) long_signs ≡ true → IsLong text → length text ≤ token_length (text ++ rest)
long_within [] rest h s = absurd s.1
long_within (a ∷ []) rest h s = absurd (omega (arith, s.0))
long_within (a ∷ b ∷ []) rest h s = absurd (omega (arith, s.0))
long_within (a ∷ b ∷ c ∷ []) rest h s = rw (sign_front a (b ∷ c ∷ rest) s.1) (long_front a b c rest h)
long_within (a ∷ b ∷ c ∷ d ∷ text) rest h s = absurd (omega (arith, s.0))

pub text_within : (kind : TokenKind) (text rest : List ℕ) → IsTextOf kind text → length text ≤ token_length (text ++ rest)
text_within Lower text rest h = named_within text rest (lower_named text h)
text_within Upper text rest h = named_within text rest (upper_named text h)
text_within (Number value) text rest h = number_front text rest value h (number_starts text value h)
text_within Word text rest h = named_within text rest (word_named text h)
text_within Sign text rest h =
    by_sign (λ x. length x ≤ token_length (x ++ rest)) text h
    (λ e. short_within text rest e (among IsShort short_signs text short_are e))
    (λ e. middle_within text rest e (among IsMiddle middle_signs text middle_are e))
    (λ e. long_within text rest e (among IsLong long_signs text long_are e))
    (named_within (codes "_") rest (refl, (refl, tt)))
text_within End text rest h = absurd h

-- ---- what is found stands there

-- as many bytes as these are a text of a token, if there are any
abbrev StandsIn : List ℕ → ℕ → Type 0
StandsIn bytes n = (n ≤ length bytes) × (0 < n → (kind : TokenKind) × IsTextOf kind (take n bytes))

named_stands : (b : ℕ) (bytes : List ℕ) → letter b ≡ true → Each part_of_name (b ∷ bytes) → (kind : TokenKind) × IsTextOf kind (b ∷ bytes)
named_stands b bytes h all =
    let text = b ∷ bytes in
    go (is_word text) (large b) (bytes_eq text (codes "_")) refl refl refl
  where
    go : (w l s : Bool) → is_word (b ∷ bytes) ≡ w → large b ≡ l → bytes_eq (b ∷ bytes) (codes "_") ≡ s → (kind : TokenKind) × IsTextOf kind (b ∷ bytes)
    go true l s p q r = (Word, p)
    go false true s p q r = (Upper, (q, all, p))
    go false false true p q r = (Sign, let P : List ℕ → Type 0 = λ x. is_sign x ≡ true in subst P (sym ((bytes_eq-Decides (b ∷ bytes) (codes "_")).0 r)) refl)
    go false false false p q r = (Lower, (let e : small b ≡ true = grind (arith, nat_tests) in e, all, p, r))

name_there : (b : ℕ) (bytes : List ℕ) → letter b ≡ true → StandsIn (b ∷ bytes) (prefix_len part_of_name (b ∷ bytes))
name_there b bytes h =
    let f = front_passes part_of_name bytes in
    let p = (letter_dark b h).2 in
    rw (p, one-add) (omega (arith, f.2), λ _. named_stands b (take (prefix_len part_of_name bytes) bytes) h (p, f.0))

or_first : (x y z w : Bool) → x ≡ true → (x || y || z || w) ≡ true
or_first x y z w h = rw h refl

or_second : (x y z w : Bool) → y ≡ true → (x || y || z || w) ≡ true
or_second true y z w h = refl
or_second false y z w h = rw h refl

or_third : (x y z w : Bool) → z ≡ true → (x || y || z || w) ≡ true
or_third true y z w h = refl
or_third false true z w h = refl
or_third false false z w h = rw h refl

none_there : (bytes : List ℕ) → StandsIn bytes 0
none_there bytes = (omega arith, λ some. absurd (omega arith))

short_there : (a : ℕ) (bytes : List ℕ) → StandsIn (a ∷ bytes) (short_length a)
short_there a bytes = either_way (StandsIn (a ∷ bytes)) (short a) 1 0 (λ h. (omega arith, λ _. (Sign, or_first _ _ _ _ h))) (λ _. none_there (a ∷ bytes))

middle_there : (a b : ℕ) (bytes : List ℕ) → StandsIn (a ∷ b ∷ bytes) (middle_length a b)
middle_there a b bytes = either_way (StandsIn (a ∷ b ∷ bytes)) (middle a b) 2 (short_length a) (λ h. (omega arith, λ _. (Sign, or_second _ _ _ _ h))) (λ _. short_there a (b ∷ bytes))

sign_there : (bytes : List ℕ) → StandsIn bytes (sign_length bytes)
sign_there [] = none_there []
sign_there (a ∷ []) = short_there a []
sign_there (a ∷ b ∷ []) = middle_there a b []
sign_there (a ∷ b ∷ c ∷ bytes) = either_way (StandsIn (a ∷ b ∷ c ∷ bytes)) (long a b c) 3 (middle_length a b) (λ h. (omega arith, λ _. (Sign, or_third (list_any (bytes_eq (a ∷ b ∷ c ∷ [])) short_signs) (list_any (bytes_eq (a ∷ b ∷ c ∷ [])) middle_signs) _ (bytes_eq (a ∷ b ∷ c ∷ []) (codes "_")) h))) (λ _. middle_there a b (c ∷ bytes))

pub stands : (bytes : List ℕ) → StandsIn bytes (token_length bytes)
stands [] = none_there []
stands (b ∷ bytes) =
    let Q : ℕ → Type 0 = StandsIn (b ∷ bytes) in
    either_way Q (letter b) (prefix_len part_of_name (b ∷ bytes)) _ (λ h. name_there b bytes h) (λ _.
    either_way Q (digit b) (number_length (b ∷ bytes)) (sign_length (b ∷ bytes)) (λ h. let n = number_there (b ∷ bytes) h in (n.0, λ _. (Number n.1, n.2))) (λ _. sign_there (b ∷ bytes)))

-- ---- one token

-- where a comment or white space is next, and where not
pub clear : (bytes : List ℕ) → Starts dark bytes → (opens bytes || dashes bytes) ≡ false → piece_length bytes ≡ 0
clear [] s h = refl
clear (b ∷ []) s h = let w : white b ≡ false = grind arith in rw w (either_way (λ (n : ℕ). n ≡ 0) (b == 45) 0 _ (λ _. refl) (λ _. either_way (λ (n : ℕ). n ≡ 0) (b == 123) 0 0 (λ _. refl) (λ _. refl)))
clear (b ∷ c ∷ bytes) s h =
    let w : white b ≡ false = grind arith in
    rw w
    (either_way (λ (n : ℕ). n ≡ 0) (b == 45) _ _
    (λ p. either_way (λ (n : ℕ). n ≡ 0) (c == 45) _ 0 (λ q. absurd (grind arith)) (λ _. refl))
    (λ _. either_way (λ (n : ℕ). n ≡ 0) (b == 123) _ 0
    (λ p. either_way (λ (n : ℕ). n ≡ 0) (c == 45) _ 0 (λ q. absurd (grind arith)) (λ _. refl))
    (λ _. refl)))

pub no_dashes : (bytes : List ℕ) → piece_length bytes ≡ 0 → dashes bytes ≡ false
no_dashes [] e = refl
no_dashes (b ∷ []) e = go (b == 45) refl
  where
    go : (x : Bool) → (b == 45) ≡ x → (x && false) ≡ false
    go true p = refl
    go false p = refl
no_dashes (b ∷ c ∷ bytes) e = go (b == 45) (c == 45) refl refl e
  where
    go : (x y : Bool) → (b == 45) ≡ x → (c == 45) ≡ y → piece_length (b ∷ c ∷ bytes) ≡ 0 → (x && (y && true)) ≡ false
    go false y p q e = refl
    go true false p q e = refl
    go true true p q e =
        let w : white b ≡ false = grind (arith, nat_tests) in
        let n : piece_length (b ∷ c ∷ bytes) ≡ 2 + prefix_len inline bytes = rw (w, p, q) refl in
        absurd (omega arith)

-- the longest text in front is one, and of one kind
pub one_front : (kind kind' : TokenKind) (text text' rest rest' : List ℕ) → IsTextOf kind text → IsLongest text rest → IsTextOf kind' text' → IsLongest text' rest'
    → text ++ rest ≡ text' ++ rest' → (kind ≡ kind') × (text ≡ text') × (rest ≡ rest')
one_front kind kind' text text' rest rest' f l f' l' e =
    let n : length text ≡ length text' = omega (arith, l.longest kind' text' rest' f' e, l'.longest kind text rest f (sym e)) in
    let same : text ≡ text' = sym (take-append_seam text rest) ∙ (λ i. take (n i) (e i)) ∙ take-append_seam text' rest' in
    (kind_is kind text f ∙ ap kind_of same ∙ sym (kind_is kind' text' f'), same, sym (drop-append_seam text rest) ∙ (λ i. drop (n i) (e i)) ∙ drop-append_seam text' rest')
