-- What stands before a token: the longest front of white space and closed comments, and it alone.
use Rattle.std.proofs.Common.{◌≡◌, ℕ, suc, ◌+◌, ◌-◌, ◌<◌, ◌≤◌, true, false, List, [], ◌∷◌, ◌++◌, length, take, drop, get_or, codes, refl, sym, ap, ◌∙◌, subst, arith, append_assoc, length-append, add-one, drop-cons}
use Rattle.std.specs.Prelude.{◌==◌, nat_eq, nat_lt}
use Rattle.std.specs.List.{AllByRecursion, starts_with}
use Rattle.std.specs.Str.{bytes_eq}
use Rattle.std.proofs.lemmas.Bool.Decides.{nat_tests, same_from_decides}
use Rattle.std.proofs.lemmas.Slice.Eq.{bytes_eq-Decides}
use Rattle.std.proofs.lemmas.List.{append-nil, take-append-drop, length-take-le, length-drop, drop-drop}
use Rattle.std.proofs.Math.Seq.{take-length}
use Rattle.cg_base.specs.Bytes.{white}
use Rattle.cg_base.proofs.Spans.{either_way}
use Rattle.cg_ctree.specs.Tokens.{Piece, blank, comment, piece_text, closes, IsPiece, gap_text}
use Rattle.cg_ctree.proofs.Munch.{IsClear, either_false}
use Rattle.cg_ctree.proofs.Division.{first_same, rest_same, one_comment, white_no_slash, clear_blank, clear_comment}
use Rattle.cg_cread_lexer.specs.Front.{inside_length, closed_length, comment_length, piece_length, IsSpace}
use Rattle.cg_base.proofs.Truths.{either_first as first_false, either_false as or_false, and_false}

-- all that follows some bytes
pub tail_whole : (bytes : List ℕ) (n : ℕ) → take (length bytes - n) (drop n bytes) ≡ drop n bytes
tail_whole bytes n = ap (λ m. take m (drop n bytes)) (sym (length-drop n bytes)) ∙ take-length (drop n bytes)

-- ---- the inside of a comment

-- whether bytes begin with a text, asked either way round
pub begins_same : (x y : List ℕ) → bytes_eq x y ≡ bytes_eq y x
begins_same x y =
    let a = bytes_eq-Decides x y in
    let b = bytes_eq-Decides y x in
    same_from_decides _ (bytes_eq y x) a (λ e. sym (b.0 e), λ e. b.1 (sym e))

inside_later : (b : ℕ) (bytes : List ℕ) → starts_with nat_eq (b ∷ bytes) (codes "*/") ≡ false → inside_length (b ∷ bytes) ≡ suc (inside_length bytes)
inside_later b bytes h = rw (sym (begins_same (codes "*/") (take 2 (b ∷ bytes))) ∙ h) refl

-- the next byte is inside
pub inside_more : (bytes : List ℕ) (i : ℕ) → i < length bytes → starts_with nat_eq (drop i bytes) (codes "*/") ≡ false → inside_length (drop i bytes) ≡ suc (inside_length (drop (i + 1) bytes))
inside_more bytes i lt h =
    let within : suc i ≤ length bytes = omega arith in
    let e : drop i bytes ≡ get_or bytes i 0 ∷ drop (i + 1) bytes = rw add-one (drop-cons bytes i 0 within) in
    ap inside_length e ∙ inside_later (get_or bytes i 0) (drop (i + 1) bytes) (subst (λ (x : List ℕ). starts_with nat_eq x (codes "*/") ≡ false) e h)

-- where bytes don't begin with `*/`, no front of them does
front_open : (b : ℕ) (xs ys : List ℕ) → bytes_eq (take 2 (b ∷ (xs ++ ys))) (codes "*/") ≡ false → bytes_eq (take 2 (b ∷ xs)) (codes "*/") ≡ false
front_open b [] ys h = and_false (b == 42)
front_open b (x ∷ xs) ys h = h

-- the bytes end where the first `*/` stands
abbrev IsInside : List ℕ → ℕ → Type 0
IsInside bytes n = (bytes ≡ take n bytes ++ (42 ∷ 47 ∷ drop (suc (suc n)) bytes)) × (closes (take n bytes) ≡ false)

begins : (b : ℕ) (bytes : List ℕ) → bytes_eq (take 2 (b ∷ bytes)) (codes "*/") ≡ true → b ∷ bytes ≡ 42 ∷ 47 ∷ drop 1 bytes
begins b bytes h = sym (take-append-drop 2 (b ∷ bytes)) ∙ ap (λ x. x ++ drop 2 (b ∷ bytes)) ((bytes_eq-Decides (take 2 (b ∷ bytes)) (codes "*/")).0 h)

inside_ends : (bytes : List ℕ) → inside_length bytes < length bytes → IsInside bytes (inside_length bytes)
inside_ends [] lt = absurd (omega arith)
inside_ends (b ∷ bytes) lt = either_way (λ (n : ℕ). n < length (b ∷ bytes) → IsInside (b ∷ bytes) n) (bytes_eq (take 2 (b ∷ bytes)) (codes "*/")) 0 (suc (inside_length bytes))
    (λ h _. (begins b bytes h, refl))
    (λ h less.
    let r = inside_ends bytes (omega arith) in
    let n = inside_length bytes in
    let whole : take n bytes ++ drop n bytes ≡ bytes = take-append-drop n bytes in
    let here : bytes_eq (take 2 (b ∷ take n bytes)) (codes "*/") ≡ false = front_open b (take n bytes) (drop n bytes) (subst (λ (x : List ℕ). bytes_eq (take 2 (b ∷ x)) (codes "*/") ≡ false) (sym whole) h) in
    (ap (λ x. b ∷ x) r.0, or_false _ _ here r.1))
    lt

-- a comment ends where its `*/` stands
pub inside_spans : (inside more : List ℕ) → closes inside ≡ false → inside_length (inside ++ (42 ∷ 47 ∷ more)) ≡ length inside
inside_spans [] more h = refl
inside_spans (x ∷ []) more h = rw (and_false (x == 42)) refl
inside_spans (x ∷ y ∷ inside) more h =
    let here : bytes_eq (x ∷ y ∷ []) (codes "*/") ≡ false = first_false _ _ h in
    rw here (ap suc (inside_spans (y ∷ inside) more (either_false _ _ h)))

-- ---- a piece

-- as many bytes as these are a piece
abbrev IsPieceOf : List ℕ → ℕ → Type 0
IsPieceOf bytes n = (p : Piece) × IsPiece p × (bytes ≡ piece_text p ++ drop n bytes) × (n ≡ length (piece_text p))

comment_parts : (inside : List ℕ) (n : ℕ) → IsInside inside n → 47 ∷ 42 ∷ inside ≡ piece_text (comment (take n inside)) ++ drop (suc (suc n)) inside
comment_parts inside n h = ap (λ x. 47 ∷ 42 ∷ x) (h.0 ∙ sym (append_assoc (take n inside) (codes "*/") (drop (suc (suc n)) inside)))

comment_long : (inside : List ℕ) (n : ℕ) → n < length inside → n + 4 ≡ length (piece_text (comment (take n inside)))
comment_long inside n lt = omega (arith, length-append (take n inside) (codes "*/"), length-take-le n inside (omega arith))

closed_piece : (inside : List ℕ) → 0 < closed_length inside → IsPieceOf (47 ∷ 42 ∷ inside) (closed_length inside)
closed_piece inside some = either_way (λ (n : ℕ). 0 < n → IsPieceOf (47 ∷ 42 ∷ inside) n) (nat_lt (inside_length inside) (length inside)) (inside_length inside + 4) 0
    (λ h _.
    let n = inside_length inside in
    let lt : n < length inside = grind (arith, nat_tests) in
    let i = inside_ends inside lt in
    let four : n + 4 ≡ suc (suc (suc (suc n))) = omega arith in
    (comment (take n inside), i.1, comment_parts inside n i ∙ ap (λ m. piece_text (comment (take n inside)) ++ drop m (47 ∷ 42 ∷ inside)) (sym four), comment_long inside n lt))
    (λ _ no. absurd (omega arith))
    some

comment_piece : (b : ℕ) (bytes : List ℕ) → (b == 47) ≡ true → 0 < comment_length bytes → IsPieceOf (b ∷ bytes) (comment_length bytes)
comment_piece b [] e some = absurd (omega arith)
comment_piece b (c ∷ inside) e some = either_way (λ (n : ℕ). 0 < n → IsPieceOf (b ∷ c ∷ inside) n) (c == 42) (closed_length inside) 0
    (λ h more.
    let slash : 47 ≡ b = grind (arith, nat_tests) in
    let star : 42 ≡ c = grind (arith, nat_tests) in
    subst (λ (x : List ℕ). IsPieceOf x (closed_length inside)) (λ i. slash i ∷ star i ∷ inside) (closed_piece inside more))
    (λ _ no. absurd (omega arith))
    some

-- what is found in front is a piece
piece_there : (bytes : List ℕ) → 0 < piece_length bytes → IsPieceOf bytes (piece_length bytes)
piece_there [] some = absurd (omega arith)
piece_there (b ∷ bytes) some =
    let Q : ℕ → Type 0 = λ n. 0 < n → IsPieceOf (b ∷ bytes) n in
    either_way Q (white b) 1 _ (λ h _. (blank b, h, refl, refl)) (λ _.
    either_way Q (b == 47) (comment_length bytes) 0 (comment_piece b bytes) (λ _ no. absurd (omega arith)))
    some

gap_text-push : (g : List Piece) (p : Piece) → gap_text (g ++ p ∷ []) ≡ gap_text g ++ piece_text p
gap_text-push [] p = append-nil (piece_text p)
gap_text-push (s ∷ g) p = ap (λ x. piece_text s ++ x) (gap_text-push g p) ∙ sym (append_assoc (piece_text s) (gap_text g) (piece_text p))

all_push : (g : List Piece) (p : Piece) → AllByRecursion IsPiece g → IsPiece p → AllByRecursion IsPiece (g ++ p ∷ [])
all_push [] p a h = (h, tt)
all_push (s ∷ g) p a h = (a.0, all_push g p a.1 h)

-- a piece more
pub space_more : (bytes : List ℕ) (n m : ℕ) → IsSpace bytes n → m ≡ piece_length (drop n bytes) → (m ≡ 0 → ⊥) → IsSpace bytes (n + m)
space_more bytes n m s e some =
    let k : IsPieceOf (drop n bytes) m = subst (λ (x : ℕ). IsPieceOf (drop n bytes) x) (sym e) (piece_there (drop n bytes) (omega arith)) in
    let text : gap_text (s.pieces ++ k.0 ∷ []) ≡ gap_text s.pieces ++ piece_text k.0 = gap_text-push s.pieces k.0 in
    let behind : drop m (drop n bytes) ≡ drop (n + m) bytes = drop-drop m n bytes in
    let tail : drop n bytes ≡ piece_text k.0 ++ drop (n + m) bytes = k.2 ∙ ap (λ x. piece_text k.0 ++ x) behind in
    record {
      pieces = s.pieces ++ k.0 ∷ [];
      parts = s.parts ∙ ap (λ x. gap_text s.pieces ++ x) tail ∙ sym (append_assoc (gap_text s.pieces) (piece_text k.0) (drop (n + m) bytes)) ∙ ap (λ x. x ++ drop (n + m) bytes) (sym text);
      long = omega (arith, s.long, k.3, length-append (gap_text s.pieces) (piece_text k.0), ap length text);
      space = all_push s.pieces k.0 s.space k.1;
    }

-- no piece begins here
abbrev pub NoPiece : List ℕ → Type 0
NoPiece bytes = (p : Piece) (more : List ℕ) → IsPiece p → bytes ≡ piece_text p ++ more → ⊥

-- a piece that stands in front is found
piece_positive : (p : Piece) (more : List ℕ) → IsPiece p → piece_length (piece_text p ++ more) ≡ 0 → ⊥
piece_positive (blank b) more h e = let one : piece_length (b ∷ more) ≡ 1 = rw h refl in absurd (omega arith)
piece_positive (comment j) more h e =
    let is : (j ++ codes "*/") ++ more ≡ j ++ (42 ∷ 47 ∷ more) = append_assoc j (codes "*/") more in
    let n : inside_length ((j ++ codes "*/") ++ more) ≡ length j = ap inside_length is ∙ inside_spans j more h in
    let l : length ((j ++ codes "*/") ++ more) ≡ length j + suc (suc (length more)) = ap length is ∙ length-append j (42 ∷ 47 ∷ more) in
    let lt : nat_lt (inside_length ((j ++ codes "*/") ++ more)) (length ((j ++ codes "*/") ++ more)) ≡ true = grind (arith, nat_tests) in
    let some : piece_length (piece_text (comment j) ++ more) ≡ inside_length ((j ++ codes "*/") ++ more) + 4 = rw lt refl in
    omega arith

pub no_piece : (bytes : List ℕ) → piece_length bytes ≡ 0 → NoPiece bytes
no_piece bytes e p more h is = piece_positive p more h (ap piece_length (sym is) ∙ e)

-- where a token stands no piece begins
pub clear_no_piece : (bytes : List ℕ) → IsClear bytes → NoPiece bytes
clear_no_piece bytes c (blank b) more h is = clear_blank bytes more b c h is
clear_no_piece bytes c (comment j) more h is = clear_comment bytes ((j ++ codes "*/") ++ more) c is

-- ---- one gap

-- one piece stands in front
one_piece : (p s : Piece) (r q : List ℕ) → IsPiece p → IsPiece s → piece_text p ++ r ≡ piece_text s ++ q → (piece_text p ≡ piece_text s) × (r ≡ q)
one_piece (blank x) (blank y) r q h k e = let same : x ≡ y = first_same x y r q e in ((λ i. same i ∷ []), rest_same x y r q e)
one_piece (blank x) (comment j) r q h k e = absurd (white_no_slash x h (first_same x 47 r (42 ∷ ((j ++ codes "*/") ++ q)) e))
one_piece (comment i) (blank y) r q h k e = absurd (white_no_slash y k (first_same y 47 q (42 ∷ ((i ++ codes "*/") ++ r)) (sym e)))
one_piece (comment i) (comment j) r q h k e =
    let inner : (i ++ codes "*/") ++ r ≡ (j ++ codes "*/") ++ q = rest_same 42 42 _ _ (rest_same 47 47 _ _ e) in
    let one = one_comment i j r q h k (sym (append_assoc i (codes "*/") r) ∙ inner ∙ append_assoc j (codes "*/") q) in
    ((λ k. piece_text (comment (one.0 k))), one.1)

pub one_gap : (g h : List Piece) (r q : List ℕ) → AllByRecursion IsPiece g → AllByRecursion IsPiece h → NoPiece r → NoPiece q → gap_text g ++ r ≡ gap_text h ++ q → (gap_text g ≡ gap_text h) × (r ≡ q)
one_gap [] [] r q a b c d e = (refl, e)
one_gap [] (s ∷ h) r q a b c d e = absurd (c s (gap_text h ++ q) b.0 (e ∙ append_assoc (piece_text s) (gap_text h) q))
one_gap (p ∷ g) [] r q a b c d e = absurd (d p (gap_text g ++ r) a.0 (sym e ∙ append_assoc (piece_text p) (gap_text g) r))
one_gap (p ∷ g) (s ∷ h) r q a b c d e =
    let one = one_piece p s (gap_text g ++ r) (gap_text h ++ q) a.0 b.0 (sym (append_assoc (piece_text p) (gap_text g) r) ∙ e ∙ append_assoc (piece_text s) (gap_text h) q) in
    let more = one_gap g h r q a.1 b.1 c d one.1 in
    ((λ k. one.0 k ++ more.0 k), more.1)
