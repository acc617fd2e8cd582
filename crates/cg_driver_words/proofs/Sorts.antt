-- What a word is to clap, and to the definition.
use Rattle.std.proofs.Common.{◌≡◌, ◌∙◌, ℕ, Bool, cond, true, false, true≢false, refl, sym, ap, subst, List, [], ◌∷◌, ◌++◌, Option, Some, None, is_some, slice_get, codes, IsUtf8, chars, ◌==◌, ◌&&◌, encode_utf8_all, length, suc, arith, not, take, drop, ◌+◌, String}
use Rattle.std.specs.Prelude.{⊤, unwrap_or}
use Rattle.std.specs.declared.alloc.Global.{Global}
use Rattle.std.specs.List.{list_any, prefix_len}
use Rattle.std.specs.Str.{bytes_eq}
use Rattle.std.proofs.lemmas.Bool.Decides.{nat_tests}
use Rattle.std.proofs.lemmas.Slice.Eq.{bytes_eq-Decides}
use Rattle.std.proofs.lemmas.Str.{encodes-chars, IsUtf8-past_char, IsUtf8-string_bytes}
use Rattle.clap.specs.Words.{Text}
use Rattle.clap.specs.Lexer.{long_of, short_of, name_and_value}
use Rattle.cg_driver_words.specs.Words.{texts, is_option, past, asks, attached}

-- ---- to clap

data Form : Text → Type 0 where
  dashed : (w : Text) → bytes_eq w (codes "--") ≡ true → Form w
  longer : (w : Text) (q : Text × Option Text) (t : Text) → bytes_eq w (codes "--") ≡ false → is_option w ≡ true → long_of w ≡ Some q
      → w ≡ 45 ∷ 45 ∷ t → q ≡ name_and_value t → Form w
  shorter : (w : Text) (x : ℕ) (xs : Text) → bytes_eq w (codes "--") ≡ false → is_option w ≡ true → long_of w ≡ None → short_of w ≡ Some (x ∷ xs)
      → w ≡ 45 ∷ x ∷ xs → Form w
  bare : (w : Text) → bytes_eq w (codes "--") ≡ false → is_option w ≡ false → long_of w ≡ None → short_of w ≡ None → Form w

one_byte : (b : ℕ) (x : Bool) → (b == 45) ≡ x → Form (b ∷ [])
one_byte b true e = bare (b ∷ []) (rw e refl) refl (rw e refl) (rw e refl)
one_byte b false e = bare (b ∷ []) (rw e refl) refl (rw e refl) (rw e refl)

two_hyphens : (b c : ℕ) (t : Text) → (b == 45) ≡ true → (c == 45) ≡ true → b ∷ c ∷ t ≡ 45 ∷ 45 ∷ t
two_hyphens b c t e f =
    let x : b ≡ 45 = grind (arith, nat_tests) in
    let y : c ≡ 45 = grind (arith, nat_tests) in
    rw (x, y) refl

hyphens : (b c : ℕ) (rest : Text) → (b == 45) ≡ true → (c == 45) ≡ true → Form (b ∷ c ∷ rest)
hyphens b c [] e f = dashed (b ∷ c ∷ []) (rw (e, f) refl)
hyphens b c (x ∷ xs) e f = longer (b ∷ c ∷ x ∷ xs) (name_and_value (x ∷ xs)) (x ∷ xs) (rw (e, f) refl) (rw e refl) (rw (e, f) refl) (two_hyphens b c (x ∷ xs) e f) refl

hyphen : (b c : ℕ) (rest : Text) (y : Bool) → (b == 45) ≡ true → (c == 45) ≡ y → Form (b ∷ c ∷ rest)
hyphen b c rest true e f = hyphens b c rest e f
hyphen b c rest false e f = shorter (b ∷ c ∷ rest) c rest (rw (e, f) refl) (rw e refl) (rw (e, f) refl) (rw (e, f) refl) (ap (λ x. x ∷ c ∷ rest) (grind (arith, nat_tests)))

two_bytes : (b c : ℕ) (rest : Text) (x : Bool) → (b == 45) ≡ x → Form (b ∷ c ∷ rest)
two_bytes b c rest true e = hyphen b c rest (c == 45) e refl
two_bytes b c rest false e = bare (b ∷ c ∷ rest) (rw e refl) (rw e refl) (rw e refl) (rw e refl)

form_of : (w : Text) → Form w
form_of [] = bare [] refl refl refl refl
form_of (b ∷ []) = one_byte b (b == 45) refl
form_of (b ∷ c ∷ rest) = two_bytes b c rest (b == 45) refl

-- ---- to both

-- `--`; the word `--steps`, or `--steps=N`, of a command that has steps; another word `--name`; a word `-name`; another
pub data Sort (has_steps : Bool) : Text → Type 0 where
  dashes : (w : Text) → bytes_eq w (codes "--") ≡ true → is_option w ≡ true → Sort has_steps w
  steps : has_steps ≡ true → Sort has_steps (codes "--steps")
  steps_is : (w v : Text) → has_steps ≡ true → bytes_eq w (codes "--") ≡ false → asks has_steps w ≡ false → is_option w ≡ true → attached has_steps w ≡ Some v
      → long_of w ≡ Some (codes "steps", Some v) → Sort has_steps w
  other : (w : Text) (q : Text × Option Text) → bytes_eq w (codes "--") ≡ false → asks has_steps w ≡ false → is_option w ≡ true → attached has_steps w ≡ None
      → long_of w ≡ Some q → (has_steps && bytes_eq (codes "steps") q.0) ≡ false → Sort has_steps w
  short : (w : Text) (x : ℕ) (xs : Text) → bytes_eq w (codes "--") ≡ false → asks has_steps w ≡ false → is_option w ≡ true → attached has_steps w ≡ None
      → long_of w ≡ None → short_of w ≡ Some (x ∷ xs) → w ≡ 45 ∷ x ∷ xs → Sort has_steps w
  plain : (w : Text) → bytes_eq w (codes "--") ≡ false → asks has_steps w ≡ false → is_option w ≡ false → long_of w ≡ None → short_of w ≡ None → Sort has_steps w

-- the text of a name and a value
abbrev tail : Option Text → Text
tail None = []
tail (Some v) = 61 ∷ v

one_more : (x : ℕ) (xs : Text) (n m k : ℕ) → m ≡ suc n → k ≡ suc (n + 1)
    → xs ≡ take n xs ++ tail (cond (list_any (λ z. z == 61) xs) (Some (drop (n + 1) xs)) None)
    → x ∷ xs ≡ take m (x ∷ xs) ++ tail (cond (list_any (λ z. z == 61) xs) (Some (drop k (x ∷ xs))) None)
one_more x xs n m k a b ih = rw (a, b) (ap (λ l. x ∷ l) ih)

rebuilt : (t : Text) → t ≡ (name_and_value t).0 ++ tail (name_and_value t).1
rebuilt [] = refl
rebuilt (x ∷ xs) = go (x == 61) refl (rebuilt xs)
  where
    go : (y : Bool) → (x == 61) ≡ y → xs ≡ (name_and_value xs).0 ++ tail (name_and_value xs).1 → x ∷ xs ≡ (name_and_value (x ∷ xs)).0 ++ tail (name_and_value (x ∷ xs)).1
    go true e ih = let is : x ≡ 61 = grind (arith, nat_tests) in rw e (ap (λ z. z ∷ xs) is)
    go false e ih = let n = prefix_len (λ z. not (z == 61)) xs in rw e (one_more x xs n (1 + n) ((1 + n) + 1) (omega arith) (omega arith) ih)

past_is : (p w v : Text) → past p w ≡ Some v → w ≡ p ++ v
past_is [] w v e = ap (λ o. unwrap_or o w) e
past_is (x ∷ p) [] v e = absurd (true≢false (sym (ap is_some e)))
past_is (x ∷ p) (b ∷ w) v e = go (x == b) refl e (past_is p w v)
  where
    go : (y : Bool) → (x == b) ≡ y → cond y (past p w) None ≡ Some v → (past p w ≡ Some v → w ≡ p ++ v) → b ∷ w ≡ x ∷ (p ++ v)
    go true f g ih = let is : x ≡ b = grind (arith, nat_tests) in rw is (ap (λ l. b ∷ l) (ih g))
    go false f g ih = absurd (true≢false (sym (ap is_some g)))

-- a word `--name` is the option only as `--steps` or `--steps=N`
other_name : (w t : Text) (q : Text × Option Text) → w ≡ 45 ∷ 45 ∷ t → q ≡ name_and_value t → bytes_eq w (codes "--steps") ≡ false → past (codes "--steps=") w ≡ None
    → (y : Bool) → bytes_eq (codes "steps") q.0 ≡ y → y ≡ false
other_name w t q is eq i b false e = refl
other_name w t q is eq i b true e =
    let name : codes "steps" ≡ q.0 = (bytes_eq-Decides (codes "steps") q.0).0 e in
    let whole : w ≡ 45 ∷ 45 ∷ (codes "steps" ++ tail q.1) = is ∙ ap (λ l. 45 ∷ 45 ∷ l) (rebuilt t ∙ ap (λ (z : Text × Option Text). z.0 ++ tail z.1) (sym eq) ∙ ap (λ l. l ++ tail q.1) (sym name)) in
    absurd (go q.1 whole)
  where
    go : (o : Option Text) → w ≡ 45 ∷ 45 ∷ (codes "steps" ++ tail o) → ⊥
    go None f = true≢false (sym (ap (λ l. bytes_eq l (codes "--steps")) f) ∙ i)
    go (Some v) f = true≢false (ap is_some (sym (ap (past (codes "--steps=")) f) ∙ b))

dashes_is : (w : Text) → bytes_eq w (codes "--") ≡ true → is_option w ≡ true
dashes_is w d = ap is_option ((bytes_eq-Decides w (codes "--")).0 d)

without_steps : (w : Text) → Form w → Sort false w
without_steps _ (dashed w d) = dashes w d (dashes_is w d)
without_steps _ (longer w q t d o l is eq) = other w q d refl o refl l refl
without_steps _ (shorter w x xs d o l sh is) = short w x xs d refl o refl l sh is
without_steps _ (bare w d o l sh) = plain w d refl o l sh

beside_steps : (w : Text) → Form w → bytes_eq w (codes "--steps") ≡ false → past (codes "--steps=") w ≡ None → Sort true w
beside_steps _ (dashed w d) i b = dashes w d (dashes_is w d)
beside_steps _ (longer w q t d o l is eq) i b = other w q d i o b l (other_name w t q is eq i b (bytes_eq (codes "steps") q.0) refl)
beside_steps _ (shorter w x xs d o l sh is) i b = short w x xs d i o b l sh is
beside_steps _ (bare w d o l sh) i b = plain w d i o l sh

apart : (w : Text) (y : Bool) → bytes_eq w (codes "--steps") ≡ y → past (codes "--steps=") w ≡ None → Sort true w
apart w true e b = subst (Sort true) (sym ((bytes_eq-Decides w (codes "--steps")).0 e)) (steps refl)
apart w false e b = beside_steps w (form_of w) e b

divide : (w : Text) (o : Option Text) → past (codes "--steps=") w ≡ o → Sort true w
divide w None e = apart w (bytes_eq w (codes "--steps")) refl e
divide w (Some v) e = subst (Sort true) (sym (past_is (codes "--steps=") w v e)) (steps_is (codes "--steps=" ++ v) v refl refl refl refl refl refl)

pub sort_of : (has_steps : Bool) (w : Text) → Sort has_steps w
sort_of true w = divide w (past (codes "--steps=") w) refl
sort_of false w = without_steps w (form_of w)

-- ---- texts

pub first_char : (x : ℕ) (xs : Text) → IsUtf8 (45 ∷ x ∷ xs) → (y : ℕ) × (slice_get (chars (x ∷ xs)) 0 ≡ Some y)
unfolding lib.Utf8.encode
first_char x xs u = go (chars (x ∷ xs)) (encodes-chars (x ∷ xs) (IsUtf8-past_char (45 ∷ x ∷ xs) (x ∷ xs) 45 u refl))
  where
    go : (cs : List ℕ) → encode_utf8_all cs ≡ x ∷ xs → (y : ℕ) × (slice_get cs 0 ≡ Some y)
    go [] e = let bad : 0 ≡ suc (length xs) = ap length e in absurd (omega arith)
    go (y ∷ ys) e = (y, refl)

abbrev pub AllUtf8 : List Text → Type 0
AllUtf8 [] = ⊤
AllUtf8 (w ∷ ws) = IsUtf8 w × AllUtf8 ws

pub utf8_words : (words : List (String Global)) → AllUtf8 (texts words)
utf8_words [] = tt
utf8_words (w ∷ rest) = (IsUtf8-string_bytes w, utf8_words rest)
