-- What stands before a token: the longest front of white space and closed comments, and it alone.
use Rattle.std.proofs.Common.{◌≡◌, ℕ, suc, ◌+◌, ◌-◌, ◌<◌, ◌≤◌, Bool, true, false, List, [], ◌∷◌, ◌++◌, length, take, drop, codes, refl, sym, ap, ◌∙◌, subst, arith, append_assoc, length-append}
use Rattle.std.specs.Prelude.{◌==◌, ◌||◌, nat_le, if◌then◌else◌}
use Rattle.std.specs.List.{AllByRecursion, prefix_len, flat_map}
use Rattle.std.specs.Str.{bytes_eq}
use Rattle.std.proofs.lemmas.Bool.Decides.{nat_tests}
use Rattle.std.proofs.lemmas.Slice.Eq.{bytes_eq-Decides}
use Rattle.std.proofs.lemmas.List.{append-nil, take-append-drop, length-take-le, length-drop, drop-drop}
use Rattle.std.proofs.Math.Seq.{take-length, take-append_seam, drop-append_seam}
use Rattle.cg_base.specs.Bytes.{white}
use Rattle.cg_base.proofs.Spans.{either_way, spans, front_passes}
use Rattle.cg_lexer.specs.Bytes.{inline}
use Rattle.cg_lexer.specs.Gaps.{opens, closes, Inside, nothing, byte, nested, inside_text, closed_text, IsInside, Piece, blank, line, block, piece_text, gap_text, IsPiece, IsGap}
use Rattle.cg_lexer.specs.Front.{closing, closed_length, block_length, line_length, piece_length, IsSpaced}
use Rattle.cg_base.proofs.Truths.{either_false}

-- all that follows some bytes
pub tail_whole : (bytes : List ℕ) (n : ℕ) → take (length bytes - n) (drop n bytes) ≡ drop n bytes
tail_whole bytes n = ap (λ m. take m (drop n bytes)) (sym (length-drop n bytes)) ∙ take-length (drop n bytes)

-- ---- the inside of a block comment is found

-- a byte that begins no mark before what is inside begins none before the end either
passed : (b n : ℕ) (text rest : List ℕ) → (opens (b ∷ (text ++ codes "-}")) || closes (b ∷ (text ++ codes "-}"))) ≡ false
    → closing n (b ∷ (text ++ (45 ∷ 125 ∷ rest))) ≡ 1 + closing n (text ++ (45 ∷ 125 ∷ rest))
passed b n [] rest h = go (opens (b ∷ codes "-}")) (closes (b ∷ codes "-}")) refl refl h
  where
    go : (x y : Bool) → opens (b ∷ codes "-}") ≡ x → closes (b ∷ codes "-}") ≡ y → (x || y) ≡ false → closing n (b ∷ (45 ∷ 125 ∷ rest)) ≡ 1 + closing n (45 ∷ 125 ∷ rest)
    go false false p q k = rw (p, q) refl
    go true y p q k = absurd (cc)
    go false true p q k = absurd (cc)
passed b n (c ∷ text) rest h = go (opens (b ∷ c ∷ [])) (closes (b ∷ c ∷ [])) refl refl h
  where
    go : (x y : Bool) → opens (b ∷ c ∷ []) ≡ x → closes (b ∷ c ∷ []) ≡ y → (x || y) ≡ false → closing n (b ∷ (c ∷ text ++ (45 ∷ 125 ∷ rest))) ≡ 1 + closing n (c ∷ text ++ (45 ∷ 125 ∷ rest))
    go false false p q k = rw (p, q) refl
    go true y p q k = absurd (cc)
    go false true p q k = absurd (cc)

-- an end inside another comment
one_closed : (n : ℕ) (bytes : List ℕ) → closing (suc n) (45 ∷ 125 ∷ bytes) ≡ 2 + closing n bytes
one_closed n bytes =
    let some : (suc n == 0) ≡ false = grind (arith, nat_tests) in
    let less : suc n - 1 ≡ n = omega arith in
    rw (some, less) refl

-- an inside is passed, whatever follows its end
inside_passed : (i : Inside) (n : ℕ) (rest : List ℕ) → IsInside i → closing n (inside_text i ++ (45 ∷ 125 ∷ rest)) ≡ length (inside_text i) + closing n (45 ∷ 125 ∷ rest)
inside_passed nothing n rest h = omega arith
inside_passed (byte b more) n rest h = omega (arith, passed b n (inside_text more) rest h.0, inside_passed more n rest h.1)
inside_passed (nested inner more) n rest h =
    let x = inside_text inner in
    let y = inside_text more in
    let split : (x ++ (45 ∷ 125 ∷ y)) ++ (45 ∷ 125 ∷ rest) ≡ x ++ (45 ∷ 125 ∷ (y ++ (45 ∷ 125 ∷ rest))) = append_assoc x (45 ∷ 125 ∷ y) (45 ∷ 125 ∷ rest) in
    let a : closing (suc n) ((x ++ (45 ∷ 125 ∷ y)) ++ (45 ∷ 125 ∷ rest)) ≡ length x + (2 + closing n (y ++ (45 ∷ 125 ∷ rest))) = ap (closing (suc n)) split ∙ inside_passed inner (suc n) (y ++ (45 ∷ 125 ∷ rest)) h.0 ∙ ap (λ m. length x + m) (one_closed n (y ++ (45 ∷ 125 ∷ rest))) in
    omega (arith, a, inside_passed more n rest h.1, length-append x (45 ∷ 125 ∷ y))

-- ---- a mark or a byte more

pub opens_more : (bytes : List ℕ) (n : ℕ) → opens bytes ≡ true → (closing n bytes ≡ 2 + closing (n + 1) (drop 2 bytes)) × (2 ≤ length bytes)
opens_more [] n h = absurd (cc)
opens_more (b ∷ []) n h = absurd (grind (arith, nat_tests))
opens_more (b ∷ c ∷ bytes) n h = let one : suc n ≡ n + 1 = omega arith in (rw h (ap (λ m. 2 + closing m bytes) one), omega arith)

pub closes_last : (bytes : List ℕ) → opens bytes ≡ false → closes bytes ≡ true → (closing 0 bytes ≡ 2) × (2 ≤ length bytes)
closes_last [] o h = absurd (cc)
closes_last (b ∷ []) o h = absurd (grind (arith, nat_tests))
closes_last (b ∷ c ∷ bytes) o h = (rw (o, h) refl, omega arith)

pub closes_more : (bytes : List ℕ) (n : ℕ) → opens bytes ≡ false → closes bytes ≡ true → (n ≡ 0 → ⊥) → (closing n bytes ≡ 2 + closing (n - 1) (drop 2 bytes)) × (2 ≤ length bytes)
closes_more [] n o h some = absurd (cc)
closes_more (b ∷ []) n o h some = absurd (grind (arith, nat_tests))
closes_more (b ∷ c ∷ bytes) n o h some = let no : (n == 0) ≡ false = grind (arith, nat_tests) in (rw (o, h, no) refl, omega arith)

pub byte_more : (bytes : List ℕ) (n : ℕ) → opens bytes ≡ false → closes bytes ≡ false → 0 < length bytes → closing n bytes ≡ 1 + closing n (drop 1 bytes)
byte_more [] n o h some = absurd (omega arith)
byte_more (b ∷ []) n o h some = refl
byte_more (b ∷ c ∷ bytes) n o h some = rw (o, h) refl

-- ---- what is found is an inside

abbrev ends_text : List Inside → List ℕ
ends_text more = flat_map closed_text more

-- behind these bytes as many comments end as are open, one more than this number
record Ends (n : ℕ) (bytes : List ℕ) (k : ℕ) : Type 0 where
  pub here : Inside
  pub more : List Inside
  pub rest : List ℕ
  pub count : length more ≡ n
  pub inside : IsInside here
  pub insides : AllByRecursion IsInside more
  pub parts : bytes ≡ closed_text here ++ (ends_text more ++ rest)
  pub long : k ≡ length (closed_text here ++ ends_text more)

mark_is : (b c : ℕ) (text : List ℕ) → bytes_eq (b ∷ c ∷ []) text ≡ true → (bytes : List ℕ) → b ∷ c ∷ bytes ≡ text ++ bytes
mark_is b c text h bytes = ap (λ x. x ++ bytes) ((bytes_eq-Decides (b ∷ c ∷ []) text).0 h)

opened : (n k : ℕ) (b c : ℕ) (bytes : List ℕ) → opens (b ∷ c ∷ bytes) ≡ true → Ends (suc n) bytes k → Ends n (b ∷ c ∷ bytes) (2 + k)
opened n k b c bytes h e = go e.more e.count e.insides e.parts e.long
  where
    go : (more : List Inside) → length more ≡ suc n → AllByRecursion IsInside more → bytes ≡ closed_text e.here ++ (ends_text more ++ e.rest) → k ≡ length (closed_text e.here ++ ends_text more) → Ends n (b ∷ c ∷ bytes) (2 + k)
    go [] count all parts long = absurd (omega arith)
    go (j ∷ more) count all parts long =
        let x = inside_text e.here in
        let y = inside_text j in
        let t = ends_text more in
        let same : closed_text e.here ++ ((closed_text j ++ t) ++ e.rest) ≡ ((x ++ (45 ∷ 125 ∷ y)) ++ codes "-}") ++ (t ++ e.rest) = grind (arith, append_assoc) in
        let same' : closed_text e.here ++ (closed_text j ++ t) ≡ ((x ++ (45 ∷ 125 ∷ y)) ++ codes "-}") ++ t = grind (arith, append_assoc) in
        record {
          here = nested e.here j;
          more = more;
          rest = e.rest;
          count = omega arith;
          inside = (e.inside, all.0);
          insides = all.1;
          parts = mark_is b c (codes "{-") h bytes ∙ ap (λ z. 123 ∷ 45 ∷ z) (parts ∙ same);
          long = omega (arith, long, ap length same');
        }

closed_last : (b c : ℕ) (bytes : List ℕ) → closes (b ∷ c ∷ bytes) ≡ true → Ends 0 (b ∷ c ∷ bytes) 2
closed_last b c bytes h = record { here = nothing; more = []; rest = bytes; count = refl; inside = tt; insides = tt; parts = mark_is b c (codes "-}") h bytes; long = refl }

closed_one : (n k : ℕ) (b c : ℕ) (bytes : List ℕ) → closes (b ∷ c ∷ bytes) ≡ true → (n == 0) ≡ false → Ends (n - 1) bytes k → Ends n (b ∷ c ∷ bytes) (2 + k)
closed_one n k b c bytes h some e = record {
  here = nothing;
  more = e.here ∷ e.more;
  rest = e.rest;
  count = grind (arith, nat_tests, e.count);
  inside = tt;
  insides = (e.inside, e.insides);
  parts = mark_is b c (codes "-}") h bytes ∙ ap (λ z. 45 ∷ 125 ∷ z) (e.parts ∙ sym (append_assoc (closed_text e.here) (ends_text e.more) e.rest));
  long = omega (arith, e.long);
}

-- the first two bytes of what begins so
two_same : (b c : ℕ) (bytes text rest : List ℕ) → c ∷ bytes ≡ text ++ (45 ∷ 125 ∷ rest) → take 2 (b ∷ (text ++ codes "-}")) ≡ b ∷ c ∷ []
two_same b c bytes [] rest e = cc
two_same b c bytes (d ∷ text) rest e = cc

passed_one : (n k : ℕ) (b c : ℕ) (bytes : List ℕ) → opens (b ∷ c ∷ bytes) ≡ false → closes (b ∷ c ∷ bytes) ≡ false → Ends n (c ∷ bytes) k → Ends n (b ∷ c ∷ bytes) (1 + k)
passed_one n k b c bytes o s e =
    let x = inside_text e.here in
    let t = ends_text e.more in
    let split : c ∷ bytes ≡ x ++ (45 ∷ 125 ∷ (t ++ e.rest)) = e.parts ∙ append_assoc x (codes "-}") (t ++ e.rest) in
    let two : take 2 (b ∷ (x ++ codes "-}")) ≡ b ∷ c ∷ [] = two_same b c bytes x (t ++ e.rest) split in
    record {
      here = byte b e.here;
      more = e.more;
      rest = e.rest;
      count = e.count;
      inside = (either_false _ _ (ap (λ z. bytes_eq z (codes "{-")) two ∙ o) (ap (λ z. bytes_eq z (codes "-}")) two ∙ s), e.inside);
      insides = e.insides;
      parts = ap (λ z. b ∷ z) e.parts;
      long = omega (arith, e.long);
    }

ends_there : (bytes : List ℕ) (n : ℕ) → closing n bytes ≤ length bytes → Ends n bytes (closing n bytes)
ends_there [] n le = absurd (omega arith)
ends_there (b ∷ []) n le = absurd (omega arith)
ends_there (b ∷ c ∷ bytes) n le =
    let Q : ℕ → Type 0 = λ k. k ≤ length (b ∷ c ∷ bytes) → Ends n (b ∷ c ∷ bytes) k in
    either_way Q (opens (b ∷ c ∷ bytes)) (2 + closing (suc n) bytes) _ (λ o less. opened n (closing (suc n) bytes) b c bytes o (ends_there bytes (suc n) (omega arith))) (λ o.
    either_way Q (closes (b ∷ c ∷ bytes)) (if n == 0 then 2 else 2 + closing (n - 1) bytes) _ (λ s.
    either_way Q (n == 0) 2 (2 + closing (n - 1) bytes)
    (λ z less. let zero : 0 ≡ n = grind (arith, nat_tests) in subst (λ (m : ℕ). Ends m (b ∷ c ∷ bytes) 2) zero (closed_last b c bytes s))
    (λ z less. closed_one n (closing (n - 1) bytes) b c bytes s z (ends_there bytes (n - 1) (omega arith))))
    (λ s less. passed_one n (closing n (c ∷ bytes)) b c bytes o s (ends_there (c ∷ bytes) n (omega arith))))
    le

-- ---- a piece is found

-- a piece that stands in front is found
pub piece_found : (p : Piece) (rest : List ℕ) → IsPiece p rest → piece_length (piece_text p ++ rest) ≡ length (piece_text p)
piece_found (blank b) rest h = rw h refl
piece_found (line text) rest h = omega (arith, spans inline text rest h.0 h.1)
piece_found (block inside) rest h =
    let x = inside_text inside in
    let is : closed_text inside ++ rest ≡ x ++ (45 ∷ 125 ∷ rest) = append_assoc x (codes "-}") rest in
    let n : closing 0 (closed_text inside ++ rest) ≡ length x + 2 = ap (closing 0) is ∙ inside_passed inside 0 rest h in
    let l : length (closed_text inside ++ rest) ≡ length x + (2 + length rest) = omega (arith, ap length is, length-append x (45 ∷ 125 ∷ rest)) in
    let m : length (closed_text inside) ≡ length x + 2 = length-append x (codes "-}") in
    let le : nat_le (closing 0 (closed_text inside ++ rest)) (length (closed_text inside ++ rest)) ≡ true = grind (arith, nat_tests) in
    rw le (omega arith)

-- no piece is empty
piece_some : (p : Piece) → 0 < length (piece_text p)
piece_some (blank b) = omega arith
piece_some (line text) = omega arith
piece_some (block inside) = omega arith

-- ---- what is found is a piece

-- as many bytes as these are a piece
abbrev pub IsPieceOf : List ℕ → ℕ → Type 0
IsPieceOf bytes n = (p : Piece) × IsPiece p (drop n bytes) × (bytes ≡ piece_text p ++ drop n bytes) × (n ≡ length (piece_text p))

-- a piece with what follows it
piece_of : (p : Piece) (bytes rest : List ℕ) (n : ℕ) → IsPiece p rest → bytes ≡ piece_text p ++ rest → n ≡ length (piece_text p) → IsPieceOf bytes n
piece_of p bytes rest n h parts long =
    let is : drop n bytes ≡ rest = (λ i. drop (long i) (parts i)) ∙ drop-append_seam (piece_text p) rest in
    (p, subst (IsPiece p) (sym is) h, parts ∙ ap (λ x. piece_text p ++ x) (sym is), long)

abbrev pub FindsPiece : List ℕ → ℕ → Type 0
FindsPiece bytes n = 0 < n → IsPieceOf bytes n

line_there : (b : ℕ) (bytes : List ℕ) → (b == 45) ≡ true → FindsPiece (b ∷ bytes) (line_length bytes)
line_there b [] e some = absurd (omega arith)
line_there b (c ∷ bytes) e some = either_way (FindsPiece (b ∷ c ∷ bytes)) (c == 45) (2 + prefix_len inline bytes) 0
    (λ h _.
    let n = prefix_len inline bytes in
    let f = front_passes inline bytes in
    let first : b ≡ 45 = grind (arith, nat_tests) in
    let second : c ≡ 45 = grind (arith, nat_tests) in
    let text : bytes ≡ take n bytes ++ drop n bytes = sym (take-append-drop n bytes) in
    let long : n ≡ length (take n bytes) = sym (length-take-le n bytes f.2) in
    piece_of (line (take n bytes)) (b ∷ c ∷ bytes) (drop n bytes) (2 + n) (f.0, f.1) (λ i. first i ∷ second i ∷ text i) (omega arith))
    (λ _ no. absurd (omega arith))
    some

closed_there : (b c : ℕ) (bytes : List ℕ) → b ≡ 123 → c ≡ 45 → FindsPiece (b ∷ c ∷ bytes) (closed_length bytes)
closed_there b c bytes first second some = either_way (FindsPiece (b ∷ c ∷ bytes)) (nat_le (closing 0 bytes) (length bytes)) (2 + closing 0 bytes) 0
    (λ h _.
    let le : closing 0 bytes ≤ length bytes = grind (arith, nat_tests) in
    let e = ends_there bytes 0 le in
    alone e.more e.count e.here e.rest e.parts e.long e.inside)
    (λ _ no. absurd (omega arith))
    some
  where
    alone : (more : List Inside) → length more ≡ 0 → (here : Inside) (rest : List ℕ) → bytes ≡ closed_text here ++ (ends_text more ++ rest) → closing 0 bytes ≡ length (closed_text here ++ ends_text more) → IsInside here → IsPieceOf (b ∷ c ∷ bytes) (2 + closing 0 bytes)
    alone [] count here rest parts long h =
        let n : closing 0 bytes ≡ length (closed_text here) = long ∙ ap length (append-nil (closed_text here)) in
        piece_of (block here) (b ∷ c ∷ bytes) rest (2 + closing 0 bytes) h (λ i. first i ∷ second i ∷ parts i) (omega arith)
    alone (j ∷ more) count here rest parts long h = absurd (omega arith)

block_there : (b : ℕ) (bytes : List ℕ) → (b == 123) ≡ true → FindsPiece (b ∷ bytes) (block_length bytes)
block_there b [] e some = absurd (omega arith)
block_there b (c ∷ bytes) e some = either_way (FindsPiece (b ∷ c ∷ bytes)) (c == 45) (closed_length bytes) 0
    (λ h. closed_there b c bytes (grind (arith, nat_tests)) (grind (arith, nat_tests)))
    (λ _ no. absurd (omega arith))
    some

-- what is found in front is a piece
pub piece_there : (bytes : List ℕ) → FindsPiece bytes (piece_length bytes)
piece_there [] some = absurd (omega arith)
piece_there (b ∷ bytes) some =
    let Q : ℕ → Type 0 = FindsPiece (b ∷ bytes) in
    either_way Q (white b) 1 _ (λ h _. piece_of (blank b) (b ∷ bytes) bytes 1 h refl refl) (λ _.
    either_way Q (b == 45) (line_length bytes) _ (line_there b bytes) (λ _.
    either_way Q (b == 123) (block_length bytes) 0 (block_there b bytes) (λ _ no. absurd (omega arith))))
    some

-- ---- a gap

gap_text-push : (g : List Piece) (p : Piece) → gap_text (g ++ p ∷ []) ≡ gap_text g ++ piece_text p
gap_text-push [] p = append-nil (piece_text p)
gap_text-push (s ∷ g) p = ap (λ x. piece_text s ++ x) (gap_text-push g p) ∙ sym (append_assoc (piece_text s) (gap_text g) (piece_text p))

IsGap-push : (g : List Piece) (p : Piece) (rest : List ℕ) → IsGap g (piece_text p ++ rest) → IsPiece p rest → IsGap (g ++ p ∷ []) rest
IsGap-push [] p rest a h = (h, tt)
IsGap-push (s ∷ g) p rest a h =
    let same : gap_text g ++ (piece_text p ++ rest) ≡ gap_text (g ++ p ∷ []) ++ rest = sym (append_assoc (gap_text g) (piece_text p) rest) ∙ ap (λ x. x ++ rest) (sym (gap_text-push g p)) in
    (subst (IsPiece s) same a.0, IsGap-push g p rest a.1 h)

-- a piece more
pub space_more : (bytes : List ℕ) (n m : ℕ) → IsSpaced bytes n → m ≡ piece_length (drop n bytes) → (m ≡ 0 → ⊥) → IsSpaced bytes (n + m)
space_more bytes n m s e some =
    let k : IsPieceOf (drop n bytes) m = subst (λ (x : ℕ). IsPieceOf (drop n bytes) x) (sym e) (piece_there (drop n bytes) (omega arith)) in
    let text : gap_text (s.pieces ++ k.0 ∷ []) ≡ gap_text s.pieces ++ piece_text k.0 = gap_text-push s.pieces k.0 in
    let behind : drop m (drop n bytes) ≡ drop (n + m) bytes = drop-drop m n bytes in
    let tail : drop n bytes ≡ piece_text k.0 ++ drop (n + m) bytes = k.2 ∙ ap (λ x. piece_text k.0 ++ x) behind in
    record {
      pieces = s.pieces ++ k.0 ∷ [];
      parts = s.parts ∙ ap (λ x. gap_text s.pieces ++ x) tail ∙ sym (append_assoc (gap_text s.pieces) (piece_text k.0) (drop (n + m) bytes)) ∙ ap (λ x. x ++ drop (n + m) bytes) (sym text);
      long = omega (arith, s.long, k.3, length-append (gap_text s.pieces) (piece_text k.0), ap length text);
      space = IsGap-push s.pieces k.0 (drop (n + m) bytes) (subst (IsGap s.pieces) tail s.space) (subst (IsPiece k.0) behind k.1);
    }

-- ---- one gap

-- one piece stands in front
one_piece : (p s : Piece) (r q : List ℕ) → IsPiece p r → IsPiece s q → piece_text p ++ r ≡ piece_text s ++ q → (piece_text p ≡ piece_text s) × (r ≡ q)
one_piece p s r q h k e =
    let n : length (piece_text p) ≡ length (piece_text s) = sym (piece_found p r h) ∙ ap piece_length e ∙ piece_found s q k in (
      sym (take-append_seam (piece_text p) r) ∙ (λ i. take (n i) (e i)) ∙ take-append_seam (piece_text s) q,
      sym (drop-append_seam (piece_text p) r) ∙ (λ i. drop (n i) (e i)) ∙ drop-append_seam (piece_text s) q,
    )

-- bytes in front of which a piece stands are found to have one
pub piece_stands : (p : Piece) (bytes rest : List ℕ) → IsPiece p rest → bytes ≡ piece_text p ++ rest → piece_length bytes ≡ 0 → ⊥
piece_stands p bytes rest h e none = omega (arith, piece_some p, piece_found p rest h, ap piece_length e)

-- one gap stands in front of bytes that begin with no piece
pub one_gap : (g h : List Piece) (r q : List ℕ) → IsGap g r → IsGap h q → piece_length r ≡ 0 → piece_length q ≡ 0 → gap_text g ++ r ≡ gap_text h ++ q → (gap_text g ≡ gap_text h) × (r ≡ q)
one_gap [] [] r q a b c d e = (refl, e)
one_gap [] (s ∷ h) r q a b c d e = absurd (piece_stands s r (gap_text h ++ q) b.0 (e ∙ append_assoc (piece_text s) (gap_text h) q) c)
one_gap (p ∷ g) [] r q a b c d e = absurd (piece_stands p q (gap_text g ++ r) a.0 (sym e ∙ append_assoc (piece_text p) (gap_text g) r) d)
one_gap (p ∷ g) (s ∷ h) r q a b c d e =
    let one = one_piece p s (gap_text g ++ r) (gap_text h ++ q) a.0 b.0 (sym (append_assoc (piece_text p) (gap_text g) r) ∙ e ∙ append_assoc (piece_text s) (gap_text h) q) in
    let more = one_gap g h r q a.1 b.1 c d one.1 in
    ((λ k. one.0 k ++ more.0 k), more.1)
