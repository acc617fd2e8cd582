-- What is found at the front stands there, and where nothing is found no token stands.
use Rattle.std.proofs.Common.{◌≡◌, ℕ, ◌+◌, ◌≤◌, Bool, true, false, List, [], ◌∷◌, ◌++◌, length, take, drop, codes, refl, sym, ap, ◌∙◌, subst, arith, append_assoc, length-append, one-add, rules}
use Rattle.std.specs.Prelude.{◌==◌, ◌||◌, ◌&&◌, nat_eq, if◌then◌else◌}
use Rattle.std.specs.List.{prefix_len, list_any, starts_with, AllByRecursion}
use Rattle.std.specs.Str.{bytes_eq}
use Rattle.std.proofs.lemmas.Bool.{false_from_ne_true, false≢true}
use Rattle.std.proofs.lemmas.Bool.Decides.{nat_tests, Decides-eqb}
use Rattle.std.proofs.lemmas.Slice.Eq.{starts_is}
use Rattle.std.proofs.lemmas.List.{take-append-drop, length-take-le}
use Rattle.std.proofs.Math.Seq.{take-append_seam}
use Rattle.cg_base.specs.Bytes.{digit, Starts}
use Rattle.cg_base.proofs.Spans.{either_way, front_passes}
use Rattle.cg_ctree.specs.Tokens.{letter, part_of_name, is_word, short_signs, long_signs, is_sign, first_line, second_line, Token, name, word, plain, literal, sign, line, token_text, IsToken, goes_on, Ends}
use Rattle.cg_ctree.proofs.Munch.{among, either_false, front, found as front_found}
use Rattle.cg_ctree.proofs.Division.{token_clear}
use Rattle.cg_cread_lexer.specs.declared.front.Found.{Found}
use Rattle.cg_cread_lexer.specs.declared.token.TokenKind.{TokenKind}
use Rattle.cg_cread_lexer.specs.declared.token.TokenKind.TheVariants.{Name, Word, Plain, Literal, Sign, Line, Unknown, End}
use Rattle.cg_cread_lexer.specs.Front.{whole_found, name_found, number_found, line_found, short_found, sign_found, found}
use Rattle.cg_cread_lexer.proofs.Gaps.{begins_same}
use Rattle.cg_base.proofs.Truths.{either_false as or_false, or_true as or_right}

-- no token begins here
abbrev pub NoToken : List ℕ → Type 0
NoToken bytes = (t : Token) (rest : List ℕ) → IsToken t → Ends t rest → bytes ≡ token_text t ++ rest → ⊥

-- a token stands in these bytes, and the rest follows it
abbrev pub IsRead : Token → List ℕ → List ℕ → Type 0
IsRead t taken rest = IsToken t × Ends t rest × (taken ≡ token_text t)

-- what a kind says of a text, of the bytes that it takes and of the rest
abbrev pub Means : TokenKind → List ℕ → List ℕ → List ℕ → Type 0
Means Name text taken rest = IsRead (name text) taken rest
Means Word text taken rest = IsRead (word text) taken rest
Means Plain text taken rest = IsRead (plain text) taken rest
Means Literal text taken rest = IsRead (literal text) taken rest
Means Sign text taken rest = IsRead (sign text) taken rest
Means Line text taken rest = IsRead (line text) taken rest
Means Unknown text taken rest = (taken ≡ []) × (rest ≡ [] → ⊥) × NoToken rest
Means End text taken rest = (taken ≡ []) × (rest ≡ [])

-- what was found is within the bytes, and is what its kind says
pub record IsFront (bytes : List ℕ) (f : Found) : Type 0 where
  pub text_within : f.len ≤ length bytes
  pub within : f.taken ≤ length bytes
  pub means : Means f.kind (take f.len bytes) (take f.taken bytes) (drop f.taken bytes)

-- ---- names, words and numbers

letter_part : (b : ℕ) → letter b ≡ true → part_of_name b ≡ true
letter_part b h = rw h refl

starts_front : (p q : ℕ → Bool) (b : ℕ) (bytes : List ℕ) → p b ≡ true → q b ≡ true → Starts q (take (prefix_len p (b ∷ bytes)) (b ∷ bytes))
starts_front p q b bytes h k = rw (h, one-add) k

name_front : (b : ℕ) (bytes : List ℕ) → letter b ≡ true → IsFront (b ∷ bytes) (name_found (b ∷ bytes))
name_front b bytes h =
    let xs = b ∷ bytes in
    let n = prefix_len part_of_name xs in
    let f = front_passes part_of_name xs in
    let s : Starts letter (take n xs) = starts_front part_of_name letter b bytes (letter_part b h) h in
    either_way (λ (k : TokenKind). IsFront xs (whole_found k n)) (is_word (take n xs)) Word Name
    (λ w. record { text_within = f.2; within = f.2; means = (w, f.1, refl) })
    (λ w. record { text_within = f.2; within = f.2; means = ((s, f.0, w), f.1, refl) })

-- what bytes that begin with a text are
begins_with : (bytes text : List ℕ) → starts_with nat_eq bytes text ≡ true → bytes ≡ text ++ drop (length text) bytes
begins_with bytes text h = (starts_is Decides-eqb bytes text (starts_with nat_eq bytes text) refl).0 h

-- bytes that go on with a text
taken_more : (bytes text : List ℕ) (n : ℕ) → n ≤ length bytes → drop n bytes ≡ text ++ drop (length text) (drop n bytes) → (n + length text ≤ length bytes) × (take (n + length text) bytes ≡ take n bytes ++ text)
taken_more bytes text n lt h =
    let tail = drop (length text) (drop n bytes) in
    let parts : bytes ≡ (take n bytes ++ text) ++ tail = sym (take-append-drop n bytes) ∙ ap (λ x. take n bytes ++ x) h ∙ sym (append_assoc (take n bytes) text tail) in
    let long : length (take n bytes ++ text) ≡ n + length text = omega (arith, length-append (take n bytes) text, length-take-le n bytes lt) in
    (omega (arith, ap length parts, length-append (take n bytes ++ text) tail, long), (λ i. take (sym long i) (parts i)) ∙ take-append_seam (take n bytes ++ text) tail)

number_front : (b : ℕ) (bytes : List ℕ) → digit b ≡ true → IsFront (b ∷ bytes) (number_found (b ∷ bytes))
number_front b bytes h =
    let xs = b ∷ bytes in
    let n = prefix_len digit xs in
    let f = front_passes digit xs in
    let s : Starts digit (take n xs) = starts_front digit digit b bytes h h in
    either_way (IsFront xs) (starts_with nat_eq (drop n xs) (codes "ull")) (record { kind = Literal; len = n; taken = n + 3 }) (whole_found Plain n)
    (λ w.
    let m = taken_more xs (codes "ull") n f.2 (begins_with (drop n xs) (codes "ull") w) in
    record { text_within = f.2; within = m.0; means = ((s, f.0), tt, m.1) })
    (λ w. record { text_within = f.2; within = f.2; means = ((s, f.0), (f.1, begins_same (take 3 (drop n xs)) (codes "ull") ∙ w), refl) })

-- ---- include lines

no_end : (b : ℕ) (bytes : List ℕ) → b ∷ bytes ≡ [] → ⊥
no_end b bytes e = cc

unknown_front : (b : ℕ) (bytes : List ℕ) → NoToken (b ∷ bytes) → IsFront (b ∷ bytes) (whole_found Unknown 0)
unknown_front b bytes none = record { text_within = omega arith; within = omega arith; means = (refl, no_end b bytes, none) }

-- a whole text in front
text_front : (bytes text : List ℕ) → starts_with nat_eq bytes text ≡ true → (length text ≤ length bytes) × (take (length text) bytes ≡ text)
text_front bytes text h =
    let parts = begins_with bytes text h in
    (omega (arith, ap length parts, length-append text (drop (length text) bytes)), ap (take (length text)) parts ∙ take-append_seam text (drop (length text) bytes))

begun : (bytes text rest : List ℕ) → bytes ≡ text ++ rest → starts_with nat_eq bytes text ≡ true
begun bytes text rest e = (starts_is Decides-eqb bytes text (starts_with nat_eq bytes text) refl).1 rest e

line_read : (bytes text : List ℕ) → IsToken (line text) → starts_with nat_eq bytes text ≡ true → length text ≡ 19 → IsFront bytes (whole_found Line 19)
line_read bytes text is h n =
    let f = text_front bytes text h in
    let same : take 19 bytes ≡ text = ap (λ m. take m bytes) (sym n) ∙ f.1 in
    record { text_within = omega (arith, f.0); within = omega (arith, f.0); means = (subst (λ (x : List ℕ). IsToken (line x)) (sym same) is, tt, refl) }

-- where a token stands, it is the one that cg_ctree finds
front_is : (bytes : List ℕ) (t : Token) (rest : List ℕ) → IsToken t → Ends t rest → bytes ≡ token_text t ++ rest → front bytes ≡ t
front_is bytes t rest h e is = ap front is ∙ front_found t rest h e

no_line : (bytes : List ℕ) → starts_with nat_eq (35 ∷ bytes) first_line ≡ false → starts_with nat_eq (35 ∷ bytes) second_line ≡ false → NoToken (35 ∷ bytes)
no_line bytes a b t rest h e is =
    let f : front (35 ∷ bytes) ≡ t = front_is (35 ∷ bytes) t rest h e is in
    either_way (λ (u : Token). u ≡ t → ⊥) (bytes_eq (take 19 (35 ∷ bytes)) first_line) (line first_line) (line second_line)
    (λ _ q. let yes = begun (35 ∷ bytes) first_line rest (is ∙ ap (λ u. token_text u ++ rest) (sym q)) in absurd (cc))
    (λ _ q. let yes = begun (35 ∷ bytes) second_line rest (is ∙ ap (λ u. token_text u ++ rest) (sym q)) in absurd (cc))
    f

line_front : (bytes : List ℕ) → IsFront (35 ∷ bytes) (line_found (35 ∷ bytes))
line_front bytes = by_lines (starts_with nat_eq (35 ∷ bytes) first_line) (starts_with nat_eq (35 ∷ bytes) second_line) refl refl
  where
    by_lines : (a b : Bool) → starts_with nat_eq (35 ∷ bytes) first_line ≡ a → starts_with nat_eq (35 ∷ bytes) second_line ≡ b → IsFront (35 ∷ bytes) (if a || b then whole_found Line 19 else whole_found Unknown 0)
    by_lines true b h k = line_read (35 ∷ bytes) first_line refl h refl
    by_lines false true h k = line_read (35 ∷ bytes) second_line refl k refl
    by_lines false false h k = unknown_front 35 bytes (no_line bytes h k)

-- ---- signs

-- no sign of two bytes has another length
abbrev IsPair : List ℕ → Type 0
IsPair text = length text ≡ 2

pairs : AllByRecursion IsPair (codes "/*" ∷ long_signs)
pairs = search rules

no_pair : (text : List ℕ) → (length text ≡ 2 → ⊥) → list_any (bytes_eq text) (codes "/*" ∷ long_signs) ≡ false
no_pair text h = false_from_ne_true _ (λ e. h (among IsPair (codes "/*" ∷ long_signs) text pairs e))

pair_ends : (b c : ℕ) (rest : List ℕ) → goes_on (b ∷ c ∷ []) rest ≡ false
pair_ends b c [] = refl
pair_ends b c (d ∷ rest) = no_pair (b ∷ c ∷ d ∷ []) (λ e. absurd (omega arith))

-- a byte that begins neither a name, nor a number, nor an include line
abbrev IsOther : ℕ → Type 0
IsOther b = (letter b ≡ false) × (digit b ≡ false) × ((b == 35) ≡ false)

other_front : (b : ℕ) (bytes : List ℕ) → IsOther b → list_any (bytes_eq (take 2 (b ∷ bytes))) long_signs ≡ false → front (b ∷ bytes) ≡ sign (b ∷ [])
other_front b bytes h alone = rw (h.0, h.1, h.2, alone) refl

no_sign : (b : ℕ) (bytes : List ℕ) → IsOther b → list_any (bytes_eq (take 2 (b ∷ bytes))) long_signs ≡ false → list_any (bytes_eq (b ∷ [])) short_signs ≡ false → NoToken (b ∷ bytes)
no_sign b bytes o alone short t rest h e is =
    let f : sign (b ∷ []) ≡ t = sym (other_front b bytes o alone) ∙ front_is (b ∷ bytes) t rest h e is in
    let yes : is_sign (b ∷ []) ≡ true = subst IsToken (sym f) h in
    let long : list_any (bytes_eq (b ∷ [])) long_signs ≡ false = either_false _ _ (no_pair (b ∷ []) (λ e. absurd (omega arith))) in
    absurd (false≢true (sym (or_false _ _ short long) ∙ yes))

no_token_in_comment : (bytes : List ℕ) → NoToken (47 ∷ 42 ∷ bytes)
no_token_in_comment bytes t rest h e is =
    let clear : bytes_eq (take 2 (47 ∷ 42 ∷ bytes)) (codes "/*") ≡ false = subst (λ (x : List ℕ). bytes_eq (take 2 x) (codes "/*") ≡ false) (sym is) (token_clear t rest h e).1 in
    absurd (cc)

short_read : (b : ℕ) (rest : List ℕ) → list_any (bytes_eq (b ∷ [])) short_signs ≡ true → goes_on (b ∷ []) rest ≡ false → IsFront (b ∷ rest) (whole_found Sign 1)
short_read b rest h e =
    let is : is_sign (b ∷ []) ≡ true = rw h refl in
    record { text_within = omega arith; within = omega arith; means = (is, e, refl) }

short_front : (b : ℕ) (bytes : List ℕ) → IsOther b → list_any (bytes_eq (take 2 (b ∷ bytes))) long_signs ≡ false → goes_on (b ∷ []) bytes ≡ false → IsFront (b ∷ bytes) (short_found b)
short_front b bytes o alone e = either_way (IsFront (b ∷ bytes)) (list_any (bytes_eq (b ∷ [])) short_signs) (whole_found Sign 1) (whole_found Unknown 0)
    (λ h. short_read b bytes h e)
    (λ h. unknown_front b bytes (no_sign b bytes o alone h))

long_read : (b c : ℕ) (rest : List ℕ) → list_any (bytes_eq (b ∷ c ∷ [])) long_signs ≡ true → IsFront (b ∷ c ∷ rest) (whole_found Sign 2)
long_read b c rest h = record { text_within = omega arith; within = omega arith; means = (or_right _ _ h, pair_ends b c rest, refl) }

and_more : (a b : Bool) → (a && b) ≡ false → (a && (b && true)) ≡ false
and_more true true h = h
and_more true false h = h
and_more false b h = h

comment_front : (b c : ℕ) (bytes : List ℕ) → (b == 47 && c == 42) ≡ true → IsFront (b ∷ c ∷ bytes) (whole_found Unknown 0)
comment_front b c bytes h =
    let slash : 47 ≡ b = grind (arith, nat_tests) in
    let star : 42 ≡ c = grind (arith, nat_tests) in
    subst (λ (x : List ℕ). IsFront x (whole_found Unknown 0)) (λ i. slash i ∷ star i ∷ bytes) (unknown_front 47 (42 ∷ bytes) (no_token_in_comment bytes))

sign_front : (b : ℕ) (bytes : List ℕ) → IsOther b → IsFront (b ∷ bytes) (sign_found (b ∷ bytes))
sign_front b [] o = short_front b [] o (either_false _ _ (no_pair (b ∷ []) (λ e. absurd (omega arith)))) refl
sign_front b (c ∷ bytes) o =
    let Q : Found → Type 0 = IsFront (b ∷ c ∷ bytes) in
    either_way Q (b == 47 && c == 42) (whole_found Unknown 0) _ (comment_front b c bytes) (λ slash.
    either_way Q (list_any (bytes_eq (b ∷ c ∷ [])) long_signs) (whole_found Sign 2) (short_found b) (long_read b c bytes) (λ alone.
    let ends : goes_on (b ∷ []) (c ∷ bytes) ≡ false = or_false _ _ (and_more _ _ slash) alone in
    short_front b (c ∷ bytes) o alone ends))

-- ---- the token at the front

front_there : (bytes : List ℕ) → IsFront bytes (found bytes)
front_there [] = record { text_within = omega arith; within = omega arith; means = (refl, refl) }
front_there (b ∷ bytes) =
    let Q : Found → Type 0 = IsFront (b ∷ bytes) in
    either_way Q (letter b) (name_found (b ∷ bytes)) _ (name_front b bytes) (λ no_letter.
    either_way Q (digit b) (number_found (b ∷ bytes)) _ (number_front b bytes) (λ no_digit.
    either_way Q (b == 35) (line_found (b ∷ bytes)) (sign_found (b ∷ bytes))
    (λ h. let hash : 35 ≡ b = grind (arith, nat_tests) in subst (λ (x : ℕ). IsFront (x ∷ bytes) (line_found (x ∷ bytes))) hash (line_front bytes))
    (λ no_line. sign_front b bytes (no_letter, no_digit, no_line))))

pub front_of : (bytes : List ℕ) (f : Found) → f ≡ found bytes → IsFront bytes f
front_of bytes f e = subst (IsFront bytes) (sym e) (front_there bytes)
