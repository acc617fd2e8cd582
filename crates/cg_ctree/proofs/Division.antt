-- A C text is divided into one list of tokens at most.
use Rattle.std.proofs.Common.{◌≡◌, ℕ, true, false, List, [], ◌∷◌, ◌++◌, take, codes, refl, sym, ap, ◌∙◌, subst, arith, append_assoc}
use Rattle.std.specs.Prelude.{◌||◌}
use Rattle.std.specs.List.{AllByRecursion}
use Rattle.std.specs.Str.{bytes_eq}
use Rattle.std.proofs.lemmas.Bool.Decides.{nat_tests}
use Rattle.std.proofs.lemmas.Bool.{false_from_ne_true}
use Rattle.std.proofs.lemmas.Slice.Eq.{bytes_eq-Decides}
use Rattle.std.proofs.lemmas.List.{append-nil}
use Rattle.cg_base.specs.Bytes.{white, digit, Starts, Stops}
use Rattle.cg_ctree.specs.Tokens.{letter, words, short_signs, long_signs, is_sign, first_line, second_line, Token, name, word, plain, literal, sign, line, token_text, IsToken, goes_on, Ends, Piece, blank, comment, piece_text, closes, IsPiece, gap_text, has_line_feed, Lexeme, Takes, Divides, Lexes}
use Rattle.cg_ctree.proofs.Munch.{IsClear, IsNamed, among, words_named, either_false, front, found, one_front}
use Rattle.cg_base.proofs.Truths.{either, either_first as first_false}
use Rattle.cg_base.proofs.Counts.{digit_dark}

-- ---- what stands between tokens

pub first_same : (a b : ℕ) (x y : List ℕ) → a ∷ x ≡ b ∷ y → a ≡ b
first_same a b x y e = cc

pub rest_same : (a b : ℕ) (x y : List ℕ) → a ∷ x ≡ b ∷ y → x ≡ y
rest_same a b x y e = cc

-- a comment's inside and what follows it, where both end at the first `*/`
pub one_comment : (i j r q : List ℕ) → closes i ≡ false → closes j ≡ false → i ++ (42 ∷ 47 ∷ r) ≡ j ++ (42 ∷ 47 ∷ q) → (i ≡ j) × (r ≡ q)
one_comment [] [] r q h k e = (refl, rest_same 47 47 r q (rest_same 42 42 (47 ∷ r) (47 ∷ q) e))
one_comment [] (y ∷ []) r q h k e = absurd (omega (arith, first_same 47 42 r (47 ∷ q) (rest_same 42 y (47 ∷ r) (42 ∷ 47 ∷ q) e)))
one_comment [] (y ∷ z ∷ j) r q h k e =
    let a : 42 ≡ y = first_same 42 y (47 ∷ r) (z ∷ j ++ (42 ∷ 47 ∷ q)) e in
    let b : 47 ≡ z = first_same 47 z r (j ++ (42 ∷ 47 ∷ q)) (rest_same 42 y (47 ∷ r) (z ∷ j ++ (42 ∷ 47 ∷ q)) e) in
    let bad : closes (42 ∷ 47 ∷ j) ≡ false = subst (λ x. closes (42 ∷ x ∷ j) ≡ false) (sym b) (subst (λ x. closes (x ∷ z ∷ j) ≡ false) (sym a) k) in
    absurd (cc)
one_comment (x ∷ []) [] r q h k e = absurd (omega (arith, first_same 42 47 (47 ∷ r) q (rest_same x 42 (42 ∷ 47 ∷ r) (47 ∷ q) e)))
one_comment (x ∷ z ∷ i) [] r q h k e =
    let a : x ≡ 42 = first_same x 42 (z ∷ i ++ (42 ∷ 47 ∷ r)) (47 ∷ q) e in
    let b : z ≡ 47 = first_same z 47 (i ++ (42 ∷ 47 ∷ r)) q (rest_same x 42 (z ∷ i ++ (42 ∷ 47 ∷ r)) (47 ∷ q) e) in
    let bad : closes (42 ∷ 47 ∷ i) ≡ false = subst (λ y. closes (42 ∷ y ∷ i) ≡ false) b (subst (λ y. closes (y ∷ z ∷ i) ≡ false) a h) in
    absurd (cc)
one_comment (x ∷ i) (y ∷ j) r q h k e =
    let more = one_comment i j r q (either_false _ _ h) (either_false _ _ k) (rest_same x y (i ++ (42 ∷ 47 ∷ r)) (j ++ (42 ∷ 47 ∷ q)) e) in
    let same : x ≡ y = first_same x y (i ++ (42 ∷ 47 ∷ r)) (j ++ (42 ∷ 47 ∷ q)) e in
    ((λ k. same k ∷ more.0 k), more.1)

-- the text of a gap that begins with a comment, and what follows it
abbrev behind_comment : List ℕ → List Piece → List ℕ → List ℕ
behind_comment i g r = 47 ∷ 42 ∷ (i ++ (42 ∷ 47 ∷ (gap_text g ++ r)))

comment_text : (i : List ℕ) (g : List Piece) (r : List ℕ) → gap_text (comment i ∷ g) ++ r ≡ behind_comment i g r
comment_text i g r = grind (arith, append_assoc)

pub white_no_slash : (b : ℕ) → white b ≡ true → b ≡ 47 → ⊥
white_no_slash b h e = let no : white 47 ≡ true = subst (λ x. white x ≡ true) e h in absurd (cc)

-- what follows clear bytes is no gap
pub clear_blank : (r x : List ℕ) (b : ℕ) → IsClear r → white b ≡ true → r ≡ b ∷ x → ⊥
clear_blank r x b c h e = let no : Stops white (b ∷ x) = subst (Stops white) e c.0 in absurd (cc)

pub clear_comment : (r x : List ℕ) → IsClear r → r ≡ 47 ∷ 42 ∷ x → ⊥
clear_comment r x c e = let no : bytes_eq (take 2 (47 ∷ 42 ∷ x)) (codes "/*") ≡ false = subst (λ y. bytes_eq (take 2 y) (codes "/*") ≡ false) e c.1 in absurd (cc)

pub one_gap : (g h : List Piece) (r q : List ℕ) → AllByRecursion IsPiece g → AllByRecursion IsPiece h → IsClear r → IsClear q → gap_text g ++ r ≡ gap_text h ++ q → (gap_text g ≡ gap_text h) × (r ≡ q)
one_gap [] [] r q a b c d e = (refl, e)
one_gap [] (blank y ∷ h) r q a b c d e = absurd (clear_blank r (gap_text h ++ q) y c b.0 e)
one_gap [] (comment j ∷ h) r q a b c d e = absurd (clear_comment r (j ++ (42 ∷ 47 ∷ (gap_text h ++ q))) c (e ∙ comment_text j h q))
one_gap (blank x ∷ g) [] r q a b c d e = absurd (clear_blank q (gap_text g ++ r) x d a.0 (sym e))
one_gap (comment i ∷ g) [] r q a b c d e = absurd (clear_comment q (i ++ (42 ∷ 47 ∷ (gap_text g ++ r))) d (sym e ∙ comment_text i g r))
one_gap (blank x ∷ g) (blank y ∷ h) r q a b c d e =
    let same : x ≡ y = first_same x y (gap_text g ++ r) (gap_text h ++ q) e in
    let more = one_gap g h r q a.1 b.1 c d (rest_same x y (gap_text g ++ r) (gap_text h ++ q) e) in
    ((λ k. same k ∷ more.0 k), more.1)
one_gap (blank x ∷ g) (comment j ∷ h) r q a b c d e =
    absurd (white_no_slash x a.0 (first_same x 47 (gap_text g ++ r) (42 ∷ (j ++ (42 ∷ 47 ∷ (gap_text h ++ q)))) (e ∙ comment_text j h q)))
one_gap (comment i ∷ g) (blank y ∷ h) r q a b c d e =
    absurd (white_no_slash y b.0 (first_same y 47 (gap_text h ++ q) (42 ∷ (i ++ (42 ∷ 47 ∷ (gap_text g ++ r)))) (sym e ∙ comment_text i g r)))
one_gap (comment i ∷ g) (comment j ∷ h) r q a b c d e =
    let whole : behind_comment i g r ≡ behind_comment j h q = sym (comment_text i g r) ∙ e ∙ comment_text j h q in
    let inner : i ++ (42 ∷ 47 ∷ (gap_text g ++ r)) ≡ j ++ (42 ∷ 47 ∷ (gap_text h ++ q)) = rest_same 42 42 _ _ (rest_same 47 47 _ _ whole) in
    let one = one_comment i j (gap_text g ++ r) (gap_text h ++ q) a.0 b.0 inner in
    let more = one_gap g h r q a.1 b.1 c d one.1 in
    ((λ k. piece_text (comment (one.0 k)) ++ more.0 k), more.1)

-- ---- a token begins clear

letter_dark : (b : ℕ) → letter b ≡ true → white b ≡ false
letter_dark b h = grind (arith, nat_tests)

-- what begins with no slash is no comment
no_slash : (b : ℕ) (x : List ℕ) → (b ≡ 47 → ⊥) → bytes_eq (take 2 (b ∷ x)) (codes "/*") ≡ false
no_slash b x h = false_from_ne_true _ (λ e. h (first_same b 47 (take 1 x) (42 ∷ []) ((bytes_eq-Decides (take 2 (b ∷ x)) (codes "/*")).0 e)))

letter_no_slash : (b : ℕ) → letter b ≡ true → b ≡ 47 → ⊥
letter_no_slash b h e = let no : letter 47 ≡ true = subst (λ x. letter x ≡ true) e h in absurd (cc)

digit_no_slash : (b : ℕ) → digit b ≡ true → b ≡ 47 → ⊥
digit_no_slash b h e = let no : digit 47 ≡ true = subst (λ x. digit x ≡ true) e h in absurd (cc)

clear_letter : (x rest : List ℕ) → Starts letter x → IsClear (x ++ rest)
clear_letter [] rest h = absurd h
clear_letter (b ∷ x) rest h = (letter_dark b h, no_slash b (x ++ rest) (letter_no_slash b h))

clear_digit : (x rest : List ℕ) → Starts digit x → IsClear (x ++ rest)
clear_digit [] rest h = absurd h
clear_digit (b ∷ x) rest h = (digit_dark b h, no_slash b (x ++ rest) (digit_no_slash b h))

abbrev IsClearSign : List ℕ → Type 0
IsClearSign x = (rest : List ℕ) → goes_on x rest ≡ false → IsClear (x ++ rest)

clear_slash : IsClearSign (codes "/")
clear_slash [] e = (refl, refl)
clear_slash (b ∷ rest) e = (refl, first_false _ _ e)

short_signs_clear : AllByRecursion IsClearSign short_signs
short_signs_clear = (
  λ rest e. (refl, no_slash 123 rest (λ h. absurd (omega (arith, h)))),
  (
    λ rest e. (refl, no_slash 125 rest (λ h. absurd (omega (arith, h)))),
    (
      λ rest e. (refl, no_slash 40 rest (λ h. absurd (omega (arith, h)))),
      (
        λ rest e. (refl, no_slash 41 rest (λ h. absurd (omega (arith, h)))),
        (
          λ rest e. (refl, no_slash 59 rest (λ h. absurd (omega (arith, h)))),
          (
            λ rest e. (refl, no_slash 44 rest (λ h. absurd (omega (arith, h)))),
            (
              λ rest e. (refl, no_slash 58 rest (λ h. absurd (omega (arith, h)))),
              (
                λ rest e. (refl, no_slash 46 rest (λ h. absurd (omega (arith, h)))),
                (
                  λ rest e. (refl, no_slash 61 rest (λ h. absurd (omega (arith, h)))),
                  (
                    λ rest e. (refl, no_slash 126 rest (λ h. absurd (omega (arith, h)))),
                    (
                      λ rest e. (refl, no_slash 43 rest (λ h. absurd (omega (arith, h)))),
                      (
                        λ rest e. (refl, no_slash 45 rest (λ h. absurd (omega (arith, h)))),
                        (
                          λ rest e. (refl, no_slash 42 rest (λ h. absurd (omega (arith, h)))),
                          (
                            clear_slash,
                            (
                              λ rest e. (refl, no_slash 37 rest (λ h. absurd (omega (arith, h)))),
                              (
                                λ rest e. (refl, no_slash 38 rest (λ h. absurd (omega (arith, h)))),
                                (
                                  λ rest e. (refl, no_slash 124 rest (λ h. absurd (omega (arith, h)))),
                                  (
                                    λ rest e. (refl, no_slash 94 rest (λ h. absurd (omega (arith, h)))),
                                    (
                                      λ rest e. (refl, no_slash 60 rest (λ h. absurd (omega (arith, h)))),
                                      (
                                        λ rest e. (refl, no_slash 62 rest (λ h. absurd (omega (arith, h)))),
                                        tt,
                                      ),
                                    ),
                                  ),
                                ),
                              ),
                            ),
                          ),
                        ),
                      ),
                    ),
                  ),
                ),
              ),
            ),
          ),
        ),
      ),
    ),
  ),
)

long_signs_clear : AllByRecursion IsClearSign long_signs
long_signs_clear = (
  λ rest e. (refl, refl),
  (
    λ rest e. (refl, refl),
    (
      λ rest e. (refl, refl),
      (
        λ rest e. (refl, refl),
        (
          λ rest e. (refl, refl),
          (
            λ rest e. (refl, refl),
            (
              λ rest e. (refl, refl),
              tt,
            ),
          ),
        ),
      ),
    ),
  ),
)

sign_clear : (x : List ℕ) → is_sign x ≡ true → IsClearSign x
sign_clear x e = either _ _ e (among IsClearSign short_signs x short_signs_clear) (among IsClearSign long_signs x long_signs_clear)

line_clear : (x : List ℕ) → (bytes_eq x first_line || bytes_eq x second_line) ≡ true → (rest : List ℕ) → IsClear (x ++ rest)
line_clear x e rest =
    let P : List ℕ → Type 0 = λ y. IsClear (y ++ rest) in
    either _ _ e (λ a. subst P (sym ((bytes_eq-Decides x first_line).0 a)) (refl, refl)) (λ b. subst P (sym ((bytes_eq-Decides x second_line).0 b)) (refl, refl))

pub token_clear : (t : Token) (rest : List ℕ) → IsToken t → Ends t rest → IsClear (token_text t ++ rest)
token_clear (name x) rest h e = clear_letter x rest h.0
token_clear (word x) rest h e = clear_letter x rest (among IsNamed words x words_named h).0
token_clear (plain x) rest h e = clear_digit x rest h.0
token_clear (literal x) rest h e = subst IsClear (sym (append_assoc x (codes "ull") rest)) (clear_digit x (codes "ull" ++ rest) h.0)
token_clear (sign x) rest h e = sign_clear x h rest e
token_clear (line x) rest h e = line_clear x h rest

-- ---- one token, and one list of tokens

taken_clear : (bytes rest : List ℕ) (t : Lexeme) → Takes bytes t rest → IsClear (token_text t.token ++ rest)
taken_clear bytes rest t k = token_clear t.token rest k.fits k.ends

pub one_token : (bytes a b : List ℕ) (t u : Lexeme) → Takes bytes t a → Takes bytes u b → (t ≡ u) × (a ≡ b)
one_token bytes a b t u k l =
    let g = one_gap k.gap l.gap (token_text t.token ++ a) (token_text u.token ++ b) k.space l.space (taken_clear bytes a t k) (taken_clear bytes b u l) (sym k.parts ∙ l.parts) in
    let f = one_front t.token u.token a b k.fits k.ends l.fits l.ends g.1 in
    let p : t.later ≡ u.later = k.stands ∙ ap has_line_feed g.0 ∙ sym l.stands in
    ((λ i. record { token = f.0 i; later = p i }), f.1)

no_empty_token : (t : Token) (rest : List ℕ) → IsToken t → Ends t rest → [] ≡ token_text t ++ rest → ⊥
no_empty_token t rest h e q =
    let is : t ≡ sign [] = sym (found t rest h e) ∙ ap front (sym q) in
    let no : is_sign [] ≡ true = subst IsToken is h in
    absurd (cc)

-- where only a gap is left no token stands
pub none_at_end : (bytes rest : List ℕ) (last : List Piece) (t : Lexeme) → AllByRecursion IsPiece last → bytes ≡ gap_text last → Takes bytes t rest → ⊥
none_at_end bytes rest last t all e k =
    let same : gap_text last ++ [] ≡ gap_text k.gap ++ (token_text t.token ++ rest) = append-nil (gap_text last) ∙ sym e ∙ k.parts in
    let g = one_gap last k.gap [] (token_text t.token ++ rest) all k.space (tt, refl) (taken_clear bytes rest t k) same in
    no_empty_token t.token rest k.fits k.ends g.1

divides_once : (bytes : List ℕ) (x y : List Piece) (ts us : List Lexeme) → AllByRecursion IsPiece x → AllByRecursion IsPiece y → Divides bytes ts (gap_text x) → Divides bytes us (gap_text y) → ts ≡ us
divides_once bytes x y [] [] a b d e = refl
divides_once bytes x y [] (u ∷ us) a b d e = absurd (none_at_end bytes e.0 x u a d e.1)
divides_once bytes x y (t ∷ ts) [] a b d e = absurd (none_at_end bytes d.0 y t b e d.1)
divides_once bytes x y (t ∷ ts) (u ∷ us) a b d e =
    let one = one_token bytes d.0 e.0 t u d.1 e.1 in
    let rest : ts ≡ us = divides_once d.0 x y ts us a b d.2 (subst (λ (m : List ℕ). Divides m us (gap_text y)) (sym one.1) e.2) in
    (λ i. one.0 i ∷ rest i)

pub one_division : (bytes : List ℕ) (ts us : List Lexeme) → Lexes bytes ts → Lexes bytes us → ts ≡ us
one_division bytes ts us l m = divides_once bytes l.0 m.0 ts us l.1 m.1 l.2 m.2
