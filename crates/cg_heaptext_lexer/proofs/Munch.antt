-- What is found at the front stands there, and where nothing is found no token stands.
use Rattle.std.proofs.Common.{◌≡◌, ℕ, ◌≤◌, Bool, true, false, List, [], ◌∷◌, ◌++◌, length, take, drop, codes, refl, sym, ap, ◌∙◌, subst, arith, one-add}
use Rattle.std.specs.Prelude.{◌==◌}
use Rattle.std.specs.List.{prefix_len, list_any, AllByRecursion}
use Rattle.std.specs.Str.{bytes_eq}
use Rattle.std.proofs.lemmas.Bool.{false≢true}
use Rattle.std.proofs.lemmas.Bool.Decides.{nat_tests}
use Rattle.cg_base.specs.Bytes.{digit, Starts}
use Rattle.cg_base.proofs.Spans.{either_way, front_passes, spans}
use Rattle.cg_base.proofs.Sequences.{is_name}
use Rattle.cg_base.proofs.Truths.{either}
use Rattle.cg_lexer.specs.Bytes.{small, large, part_of_name}
use Rattle.cg_heaptext_def.specs.Tokens.{signs, is_sign, Token, number, lower, upper, sign, token_text, IsToken, Ends}
use Rattle.cg_heaptext_lexer.specs.declared.front.Found.{Found}
use Rattle.cg_heaptext_lexer.specs.declared.token.TokenKind.{TokenKind}
use Rattle.cg_heaptext_lexer.specs.declared.token.TokenKind.TheVariants.{Number, Lower, Upper, Sign, Unknown, End}
use Rattle.cg_heaptext_lexer.specs.Front.{found_of, short_found, sign_found, found}

-- ---- bytes

small_no_digit : (b : ℕ) → small b ≡ true → digit b ≡ false
small_no_digit b h = grind (arith, nat_tests)

large_no_digit : (b : ℕ) → large b ≡ true → digit b ≡ false
large_no_digit b h = grind (arith, nat_tests)

large_no_small : (b : ℕ) → large b ≡ true → small b ≡ false
large_no_small b h = grind (arith, nat_tests)

small_part : (b : ℕ) → small b ≡ true → part_of_name b ≡ true
small_part b h = rw h refl

large_part : (b : ℕ) → large b ≡ true → part_of_name b ≡ true
large_part b h = grind (arith, nat_tests)

-- ---- a token that stands in front is found

abbrev pub kind_of : Token → TokenKind
kind_of (number x) = Number
kind_of (lower x) = Lower
kind_of (upper x) = Upper
kind_of (sign x) = Sign

-- a text that is on a list has what each text of the list has
pub among : (P : List ℕ → Type 0) (texts : List (List ℕ)) (text : List ℕ) → AllByRecursion P texts → list_any (bytes_eq text) texts ≡ true → P text
among P [] text all e = absurd (cc)
among P (t ∷ texts) text all e = either (bytes_eq text t) (list_any (bytes_eq text) texts) e (λ here. subst P (sym (is_name text t here)) all.0) (among P texts text all.1)

-- a sign is found, whatever follows it
abbrev IsFound : List ℕ → Type 0
IsFound x = (rest : List ℕ) → found (x ++ rest) ≡ found_of Sign (length x)

-- a byte that begins neither a number, nor a name, nor a longer sign
abbrev IsShort : ℕ → Type 0
IsShort b = (digit b ≡ false) × (small b ≡ false) × (large b ≡ false) × ((b == 35) ≡ false) × (is_sign (b ∷ []) ≡ true)

short_found_is : (b : ℕ) → is_sign (b ∷ []) ≡ true → short_found b ≡ found_of Sign 1
short_found_is b h = rw h refl

sign_found_is : (b c : ℕ) (rest : List ℕ) → (b == 35) ≡ false → sign_found (b ∷ c ∷ rest) ≡ short_found b
sign_found_is b c rest h = rw h refl

-- what begins neither a number nor a name
abbrev IsOther : ℕ → Type 0
IsOther b = (digit b ≡ false) × (small b ≡ false) × (large b ≡ false)

other_found : (b : ℕ) (bytes : List ℕ) → IsOther b → found (b ∷ bytes) ≡ sign_found (b ∷ bytes)
other_found b bytes o = rw (o.0, o.1, o.2) refl

short_is : (b : ℕ) → IsOther b → (b == 35) ≡ false → is_sign (b ∷ []) ≡ true → IsFound (b ∷ [])
short_is b o h is [] = other_found b [] o ∙ short_found_is b is
short_is b o h is (c ∷ rest) = other_found b (c ∷ rest) o ∙ sign_found_is b c rest h ∙ short_found_is b is

long_is : IsFound (codes "#{")
long_is rest = refl

each_found : AllByRecursion IsFound signs
each_found =
    let at = short_is 64 (refl, refl, refl) refl refl in
    let equals = short_is 61 (refl, refl, refl) refl refl in
    let comma = short_is 44 (refl, refl, refl) refl refl in
    let begin = short_is 123 (refl, refl, refl) refl refl in
    let end' = short_is 125 (refl, refl, refl) refl refl in
    let bracket = short_is 91 (refl, refl, refl) refl refl in
    let bracket' = short_is 93 (refl, refl, refl) refl refl in
    let angle = short_is 60 (refl, refl, refl) refl refl in
    let angle' = short_is 62 (refl, refl, refl) refl refl in
    let paren = short_is 40 (refl, refl, refl) refl refl in
    let paren' = short_is 41 (refl, refl, refl) refl refl in
    (at, (equals, (comma, (begin, (end', (long_is, (bracket, (bracket', (angle, (angle', (paren, (paren', tt))))))))))))

digit_first : (b : ℕ) (bytes : List ℕ) → digit b ≡ true → found (b ∷ bytes) ≡ found_of Number (prefix_len digit (b ∷ bytes))
digit_first b bytes h = rw h refl

small_first : (b : ℕ) (bytes : List ℕ) → small b ≡ true → found (b ∷ bytes) ≡ found_of Lower (prefix_len part_of_name (b ∷ bytes))
small_first b bytes h = rw (small_no_digit b h, h) refl

large_first : (b : ℕ) (bytes : List ℕ) → large b ≡ true → found (b ∷ bytes) ≡ found_of Upper (prefix_len part_of_name (b ∷ bytes))
large_first b bytes h = rw (large_no_digit b h, large_no_small b h, h) refl

found_number : (x rest : List ℕ) → IsToken (number x) → Ends (number x) rest → found (x ++ rest) ≡ found_of Number (length x)
found_number [] rest h e = absurd h.0
found_number (b ∷ x) rest h e = digit_first b (x ++ rest) h.0 ∙ ap (found_of Number) (spans digit (b ∷ x) rest h.1 e)

found_lower : (x rest : List ℕ) → IsToken (lower x) → Ends (lower x) rest → found (x ++ rest) ≡ found_of Lower (length x)
found_lower [] rest h e = absurd h.0
found_lower (b ∷ x) rest h e = small_first b (x ++ rest) h.0 ∙ ap (found_of Lower) (spans part_of_name (b ∷ x) rest h.1 e)

found_upper : (x rest : List ℕ) → IsToken (upper x) → Ends (upper x) rest → found (x ++ rest) ≡ found_of Upper (length x)
found_upper [] rest h e = absurd h.0
found_upper (b ∷ x) rest h e = large_first b (x ++ rest) h.0 ∙ ap (found_of Upper) (spans part_of_name (b ∷ x) rest h.1 e)

pub found_is : (t : Token) (rest : List ℕ) → IsToken t → Ends t rest → found (token_text t ++ rest) ≡ found_of (kind_of t) (length (token_text t))
found_is (number x) rest h e = found_number x rest h e
found_is (lower x) rest h e = found_lower x rest h e
found_is (upper x) rest h e = found_upper x rest h e
found_is (sign x) rest h e = among IsFound signs x each_found h rest

-- ---- what is found stands in front

-- no token begins here
abbrev pub NoToken : List ℕ → Type 0
NoToken bytes = (t : Token) (rest : List ℕ) → IsToken t → Ends t rest → bytes ≡ token_text t ++ rest → ⊥

-- a token stands in front of the rest
abbrev pub IsRead : Token → List ℕ → Type 0
IsRead t rest = IsToken t × Ends t rest

-- what a kind says of a text and of the rest
abbrev pub Means : TokenKind → List ℕ → List ℕ → Type 0
Means Number text rest = IsRead (number text) rest
Means Lower text rest = IsRead (lower text) rest
Means Upper text rest = IsRead (upper text) rest
Means Sign text rest = IsRead (sign text) rest
Means Unknown text rest = (text ≡ []) × (rest ≡ [] → ⊥) × NoToken rest
Means End text rest = (text ≡ []) × (rest ≡ [])

-- what was found is within the bytes, and is what its kind says
pub record IsFront (bytes : List ℕ) (f : Found) : Type 0 where
  pub within : f.len ≤ length bytes
  pub means : Means f.kind (take f.len bytes) (drop f.len bytes)

starts_front : (p q : ℕ → Bool) (b : ℕ) (bytes : List ℕ) → p b ≡ true → q b ≡ true → Starts q (take (prefix_len p (b ∷ bytes)) (b ∷ bytes))
starts_front p q b bytes h k = rw (h, one-add) k

number_front : (b : ℕ) (bytes : List ℕ) → digit b ≡ true → IsFront (b ∷ bytes) (found_of Number (prefix_len digit (b ∷ bytes)))
number_front b bytes h = let f = front_passes digit (b ∷ bytes) in record { within = f.2; means = ((starts_front digit digit b bytes h h, f.0), f.1) }

lower_front : (b : ℕ) (bytes : List ℕ) → small b ≡ true → IsFront (b ∷ bytes) (found_of Lower (prefix_len part_of_name (b ∷ bytes)))
lower_front b bytes h = let f = front_passes part_of_name (b ∷ bytes) in record { within = f.2; means = ((starts_front part_of_name small b bytes (small_part b h) h, f.0), f.1) }

upper_front : (b : ℕ) (bytes : List ℕ) → large b ≡ true → IsFront (b ∷ bytes) (found_of Upper (prefix_len part_of_name (b ∷ bytes)))
upper_front b bytes h = let f = front_passes part_of_name (b ∷ bytes) in record { within = f.2; means = ((starts_front part_of_name large b bytes (large_part b h) h, f.0), f.1) }

no_end : (b : ℕ) (bytes : List ℕ) → b ∷ bytes ≡ [] → ⊥
no_end b bytes e = cc

-- no token is found as what begins none
abbrev is_unknown : TokenKind → Bool
is_unknown Number = false
is_unknown Lower = false
is_unknown Upper = false
is_unknown Sign = false
is_unknown Unknown = true
is_unknown End = false

known : (t : Token) → is_unknown (kind_of t) ≡ false
known (number x) = refl
known (lower x) = refl
known (upper x) = refl
known (sign x) = refl

no_unknown : (t : Token) (n m : ℕ) → found_of (kind_of t) n ≡ found_of Unknown m → ⊥
no_unknown t n m e = false≢true (sym (known t) ∙ ap (λ (f : Found). is_unknown f.kind) e)

unknown_front : (b : ℕ) (bytes : List ℕ) → found (b ∷ bytes) ≡ found_of Unknown 0 → IsFront (b ∷ bytes) (found_of Unknown 0)
unknown_front b bytes h = record {
  within = omega arith;
  means = (refl, no_end b bytes, λ t rest is ends e. no_unknown t _ 0 (sym (found_is t rest is ends) ∙ ap found (sym e) ∙ h));
}

short_front : (b : ℕ) (bytes : List ℕ) → IsOther b → sign_found (b ∷ bytes) ≡ short_found b → IsFront (b ∷ bytes) (short_found b)
short_front b bytes o e = either_way (λ f. short_found b ≡ f → IsFront (b ∷ bytes) f) (is_sign (b ∷ [])) (found_of Sign 1) (found_of Unknown 0)
    (λ h _. record { within = omega arith; means = (h, tt) })
    (λ h k. unknown_front b bytes (other_found b bytes o ∙ e ∙ k))
    refl

sign_front : (b : ℕ) (bytes : List ℕ) → IsOther b → IsFront (b ∷ bytes) (sign_found (b ∷ bytes))
sign_front b [] o = short_front b [] o refl
sign_front b (c ∷ bytes) o = either_way (λ f. sign_found (b ∷ c ∷ bytes) ≡ f → IsFront (b ∷ c ∷ bytes) f) (bytes_eq (b ∷ c ∷ []) (codes "#{")) (found_of Sign 2) (short_found b)
    (λ h _. record { within = omega arith; means = (subst (λ x. is_sign x ≡ true) (sym (is_name (b ∷ c ∷ []) (codes "#{") h)) refl, tt) })
    (λ h k. short_front b (c ∷ bytes) o k)
    refl

front_there : (bytes : List ℕ) → IsFront bytes (found bytes)
front_there [] = record { within = omega arith; means = (refl, refl) }
front_there (b ∷ bytes) =
    let Q : Found → Type 0 = IsFront (b ∷ bytes) in
    either_way Q (digit b) (found_of Number (prefix_len digit (b ∷ bytes))) _ (number_front b bytes) (λ no_digit.
    either_way Q (small b) (found_of Lower (prefix_len part_of_name (b ∷ bytes))) _ (lower_front b bytes) (λ no_small.
    either_way Q (large b) (found_of Upper (prefix_len part_of_name (b ∷ bytes))) (sign_found (b ∷ bytes)) (upper_front b bytes) (λ no_large.
    sign_front b bytes (no_digit, no_small, no_large))))

pub front_of : (bytes : List ℕ) (f : Found) → f ≡ found bytes → IsFront bytes f
front_of bytes f e = subst (IsFront bytes) (sym e) (front_there bytes)

-- ---- one token

-- a token's text is at the front, as long as what is found
pub one_text : (t u : Token) (r q : List ℕ) → IsToken t → Ends t r → IsToken u → Ends u q → token_text t ++ r ≡ token_text u ++ q → (kind_of t ≡ kind_of u) × (length (token_text t) ≡ length (token_text u))
one_text t u r q h e k d is =
    let same : found_of (kind_of t) (length (token_text t)) ≡ found_of (kind_of u) (length (token_text u)) = sym (found_is t r h e) ∙ ap found is ∙ found_is u q k d in
    (ap (λ (f : Found). f.kind) same, ap (λ (f : Found). f.len) same)
