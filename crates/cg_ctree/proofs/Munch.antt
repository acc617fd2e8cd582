-- What stands at the front of a text is one token at most.
use Rattle.std.proofs.Common.{◌≡◌, ℕ, Bool, true, false, List, [], ◌∷◌, ◌++◌, length, take, drop, codes, refl, sym, ap, ◌∙◌, subst, arith, rules, append_assoc}
use Rattle.std.specs.Prelude.{◌==◌, ◌||◌, if◌then◌else◌}
use Rattle.std.specs.List.{prefix_len, list_any, AllByRecursion}
use Rattle.std.specs.Str.{bytes_eq}
use Rattle.std.proofs.lemmas.Bool.Decides.{nat_tests}
use Rattle.std.proofs.lemmas.Slice.Eq.{bytes_eq-Decides}
use Rattle.std.proofs.Math.Seq.{take-append_seam, drop-append_seam}
use Rattle.cg_base.proofs.Spans.{spans}
use Rattle.cg_base.specs.Bytes.{white, digit, Each, Starts, Stops}
use Rattle.cg_ctree.specs.Tokens.{letter, part_of_name, words, is_word, long_signs, short_signs, is_sign, first_line, second_line, Token, name, word, plain, literal, sign, line, token_text, IsToken, goes_on, Ends}
use Rattle.cg_base.proofs.Truths.{either}

-- ---- the token at the front, as a function

abbrev pub named : List ℕ → Token
named x = if is_word x then word x else name x

abbrev number : List ℕ → List ℕ → Token
number x rest = if bytes_eq (take 3 rest) (codes "ull") then literal x else plain x

abbrev include_line : List ℕ → Token
include_line x = if bytes_eq (take 19 x) first_line then line first_line else line second_line

abbrev signed : List ℕ → Token
signed x = if list_any (bytes_eq (take 2 x)) long_signs then sign (take 2 x) else sign (take 1 x)

abbrev pub front : List ℕ → Token
front [] = sign []
front (b ∷ bytes) =
    if letter b then named (take (prefix_len part_of_name (b ∷ bytes)) (b ∷ bytes))
    else if digit b then number (take (prefix_len digit (b ∷ bytes)) (b ∷ bytes)) (drop (prefix_len digit (b ∷ bytes)) (b ∷ bytes))
    else if b == 35 then include_line (b ∷ bytes)
    else signed (b ∷ bytes)

-- ---- spans

span_taken : (p : ℕ → Bool) (xs rest : List ℕ) → Each p xs → Stops p rest → take (prefix_len p (xs ++ rest)) (xs ++ rest) ≡ xs
span_taken p xs rest h s = ap (λ n. take n (xs ++ rest)) (spans p xs rest h s) ∙ take-append_seam xs rest

span_left : (p : ℕ → Bool) (xs rest : List ℕ) → Each p xs → Stops p rest → drop (prefix_len p (xs ++ rest)) (xs ++ rest) ≡ rest
span_left p xs rest h s = ap (λ n. drop n (xs ++ rest)) (spans p xs rest h s) ∙ drop-append_seam xs rest

-- a text that is on a list has what each text of the list has
pub among : (P : List ℕ → Type 0) (texts : List (List ℕ)) (text : List ℕ) → AllByRecursion P texts → list_any (bytes_eq text) texts ≡ true → P text
among P [] text all e = absurd (cc)
among P (t ∷ texts) text all e = one (bytes_eq text t) refl e (among P texts text all.1)
  where
    one : (b : Bool) → bytes_eq text t ≡ b → (b || list_any (bytes_eq text) texts) ≡ true → (list_any (bytes_eq text) texts ≡ true → P text) → P text
    one true h k later = subst P (sym ((bytes_eq-Decides text t).0 h)) all.0
    one false h k later = later k

-- ---- names, words, numbers

-- a text that begins like a name and goes on so
abbrev pub IsNamed : List ℕ → Type 0
IsNamed text = Starts letter text × Each part_of_name text

pub words_named : AllByRecursion IsNamed words
words_named = search rules

digit_no_letter : (b : ℕ) → digit b ≡ true → letter b ≡ false
digit_no_letter b h = grind (arith, nat_tests)

front_letter : (b : ℕ) (bytes : List ℕ) → letter b ≡ true → front (b ∷ bytes) ≡ named (take (prefix_len part_of_name (b ∷ bytes)) (b ∷ bytes))
front_letter b bytes h = rw h refl

front_digit : (b : ℕ) (bytes : List ℕ) → digit b ≡ true → front (b ∷ bytes) ≡ number (take (prefix_len digit (b ∷ bytes)) (b ∷ bytes)) (drop (prefix_len digit (b ∷ bytes)) (b ∷ bytes))
front_digit b bytes h = rw (digit_no_letter b h, h) refl

front_named : (x rest : List ℕ) → IsNamed x → Stops part_of_name rest → front (x ++ rest) ≡ named x
front_named [] rest h s = absurd h.0
front_named (b ∷ x) rest h s = front_letter b (x ++ rest) h.0 ∙ ap named (span_taken part_of_name (b ∷ x) rest h.1 s)

front_number : (x rest : List ℕ) → Starts digit x → Each digit x → Stops digit rest → front (x ++ rest) ≡ number x rest
front_number [] rest h all s = absurd h
front_number (b ∷ x) rest h all s = front_digit b (x ++ rest) h ∙ (λ i. number (span_taken digit (b ∷ x) rest all s i) (span_left digit (b ∷ x) rest all s i))

-- ---- signs

pub either_false : (a b : Bool) → (a || b) ≡ false → b ≡ false
either_false true b e = absurd (cc)
either_false false b e = e

signed_short : (c : ℕ) → list_any (bytes_eq (c ∷ [])) long_signs ≡ false → (rest : List ℕ) → goes_on (c ∷ []) rest ≡ false → signed (c ∷ rest) ≡ sign (c ∷ [])
signed_short c h [] e = rw h refl
signed_short c h (b ∷ rest) e = let no : list_any (bytes_eq (c ∷ b ∷ [])) long_signs ≡ false = either_false _ _ e in rw no refl

short_found : (c : ℕ) → letter c ≡ false → digit c ≡ false → (c == 35) ≡ false → list_any (bytes_eq (c ∷ [])) long_signs ≡ false
    → (rest : List ℕ) → goes_on (c ∷ []) rest ≡ false → front (c ∷ rest) ≡ sign (c ∷ [])
short_found c l d s h rest e = rw l (rw d (rw s (signed_short c h rest e)))

abbrev SignFound : List ℕ → Type 0
SignFound x = (rest : List ℕ) → goes_on x rest ≡ false → front (x ++ rest) ≡ sign x

short_signs_found : AllByRecursion SignFound short_signs
short_signs_found = (
  λ rest e. short_found 123 refl refl refl refl rest e,
  (
    λ rest e. short_found 125 refl refl refl refl rest e,
    (
      λ rest e. short_found 40 refl refl refl refl rest e,
      (
        λ rest e. short_found 41 refl refl refl refl rest e,
        (
          λ rest e. short_found 59 refl refl refl refl rest e,
          (
            λ rest e. short_found 44 refl refl refl refl rest e,
            (
              λ rest e. short_found 58 refl refl refl refl rest e,
              (
                λ rest e. short_found 46 refl refl refl refl rest e,
                (
                  λ rest e. short_found 61 refl refl refl refl rest e,
                  (
                    λ rest e. short_found 126 refl refl refl refl rest e,
                    (
                      λ rest e. short_found 43 refl refl refl refl rest e,
                      (
                        λ rest e. short_found 45 refl refl refl refl rest e,
                        (
                          λ rest e. short_found 42 refl refl refl refl rest e,
                          (
                            λ rest e. short_found 47 refl refl refl refl rest e,
                            (
                              λ rest e. short_found 37 refl refl refl refl rest e,
                              (
                                λ rest e. short_found 38 refl refl refl refl rest e,
                                (
                                  λ rest e. short_found 124 refl refl refl refl rest e,
                                  (
                                    λ rest e. short_found 94 refl refl refl refl rest e,
                                    (
                                      λ rest e. short_found 60 refl refl refl refl rest e,
                                      (
                                        λ rest e. short_found 62 refl refl refl refl rest e,
                                        tt,
                                      ),
                                    ),
                                  ),
                                ),
                              ),
                            ),
                          ),
                        ),
                      ),
                    ),
                  ),
                ),
              ),
            ),
          ),
        ),
      ),
    ),
  ),
)

long_signs_found : AllByRecursion SignFound long_signs
long_signs_found = (
  λ rest e. refl,
  (
    λ rest e. refl,
    (
      λ rest e. refl,
      (
        λ rest e. refl,
        (
          λ rest e. refl,
          (
            λ rest e. refl,
            (
              λ rest e. refl,
              tt,
            ),
          ),
        ),
      ),
    ),
  ),
)

sign_found : (x : List ℕ) → is_sign x ≡ true → SignFound x
sign_found x e = either _ _ e (among SignFound short_signs x short_signs_found) (among SignFound long_signs x long_signs_found)

-- ---- the two lines

line_found : (x : List ℕ) → (bytes_eq x first_line || bytes_eq x second_line) ≡ true → (rest : List ℕ) → front (x ++ rest) ≡ line x
line_found x e rest =
    let P : List ℕ → Type 0 = λ y. front (y ++ rest) ≡ line y in
    either _ _ e (λ a. subst P (sym ((bytes_eq-Decides x first_line).0 a)) refl) (λ b. subst P (sym ((bytes_eq-Decides x second_line).0 b)) refl)

-- the token that stands at the front is the one that is found there
pub found : (t : Token) (rest : List ℕ) → IsToken t → Ends t rest → front (token_text t ++ rest) ≡ t
found (name x) rest h e = front_named x rest (h.0, h.1) e ∙ rw h.2 refl
found (word x) rest h e = front_named x rest (among IsNamed words x words_named h) e ∙ rw h refl
found (plain x) rest h e = front_number x rest h.0 h.1 e.0 ∙ rw e.1 refl
found (literal x) rest h e = ap front (append_assoc x (codes "ull") rest) ∙ front_number x (codes "ull" ++ rest) h.0 h.1 refl
found (sign x) rest h e = sign_found x h rest e
found (line x) rest h e = line_found x h rest

-- so one token stands there, and one text is left
pub one_front : (t u : Token) (r q : List ℕ) → IsToken t → Ends t r → IsToken u → Ends u q → token_text t ++ r ≡ token_text u ++ q → (t ≡ u) × (r ≡ q)
one_front t u r q h e k f same =
    let is : t ≡ u = sym (found t r h e) ∙ ap front same ∙ found u q k f in
    (is, sym (drop-append_seam (token_text t) r) ∙ (λ i. drop (length (token_text (is i))) (same i)) ∙ drop-append_seam (token_text u) q)

-- ---- no token begins like what stands between tokens

-- no byte of white space is next, and no comment
abbrev pub IsClear : List ℕ → Type 0
IsClear bytes = Stops white bytes × (bytes_eq (take 2 bytes) (codes "/*") ≡ false)
