-- Positions that are put in: lists of them as tests, and what settling a derivation at some of them does to it, once and again.
use Rattle.std.proofs.Common.{◌≡◌, ℕ, zero, suc, ◌<◌, ◌≤◌, Bool, true, false, ◌&&◌, ◌||◌, not, cond, Option, List, [], ◌∷◌, ◌++◌, length, map, ⊎_elim, slice_set, refl, sym, ap, ◌∙◌, arith}
use Rattle.std.proofs.lemmas.List.{length-map}
use Rattle.cg_base.specs.declared.place.Place.{Place}
use Rattle.cg_core.specs.declared.derivation.Mark.{Mark}
use Rattle.cg_core.specs.declared.derivation.Mark.TheVariants.{Right}
use Rattle.cg_core.specs.Derivations as trees
use Rattle.cg_core.specs.Derivations.{Derivation, Derivations, derivation}
use Rattle.cg_check_uses.specs.Marks.{keep_all, settle, settle_behind, settled, raised, kept_beside, kept_seen, kept_new}
use Rattle.cg_check_uses.specs.Uses.{table, pairs, flag_at, is_seen}
use Rattle.cg_check_uses.specs.declared.entry.Use.{Use}
use Rattle.cg_base.proofs.Truths.{either_bool as bool_is}

-- one position is another, which computes
abbrev alike : ℕ → ℕ → Bool
alike zero zero = true
alike zero (suc j) = false
alike (suc i) zero = false
alike (suc i) (suc j) = alike i j

alike_is : (i j : ℕ) → alike i j ≡ true → i ≡ j
alike_is zero zero h = refl
alike_is zero (suc j) h = absurd (cc)
alike_is (suc i) zero h = absurd (cc)
alike_is (suc i) (suc j) h = ap suc (alike_is i j h)

-- a list of positions as a test
abbrev pub is_in : List ℕ → ℕ → Bool
is_in [] i = false
is_in (j ∷ js) i = alike i j || is_in js i

-- marks, and a derivation, with what a test asks for put in
abbrev pub keep_by : (ℕ → Bool) → List Mark → List Mark
keep_by k [] = []
keep_by k (m ∷ ms) = cond (k zero) Right m ∷ keep_by (λ i. k (suc i)) ms

abbrev mutual
  pub settle_by : (ℕ → Bool) → Derivation → Derivation
  settle_by k (derivation node strings parts) = derivation node (map (keep_by k) strings) (settle_behind_by k (length strings) parts)

  pub settle_behind_by : (ℕ → Bool) → ℕ → Derivations → Derivations
  settle_behind_by k n trees.done = trees.done
  settle_behind_by k zero (trees.part d ds) = trees.part (settle_by k d) (settle_behind_by k zero ds)
  settle_behind_by k (suc n) (trees.part d ds) = trees.part d (settle_behind_by k n ds)

map_same : {A B : Type 0} (f g : A → B) → ((x : A) → f x ≡ g x) → (xs : List A) → map f xs ≡ map g xs
map_same f g h [] = refl
map_same f g h (x ∷ xs) = ap (λ y. y ∷ map f xs) (h x) ∙ ap (λ ys. g x ∷ ys) (map_same f g h xs)

map_twice : {A : Type 0} (f g h : A → A) → ((x : A) → f (g x) ≡ h x) → (xs : List A) → map f (map g xs) ≡ map h xs
map_twice f g h e [] = refl
map_twice f g h e (x ∷ xs) = ap (λ y. y ∷ map f (map g xs)) (e x) ∙ ap (λ ys. h x ∷ ys) (map_twice f g h e xs)

map_none : {A : Type 0} (f : A → A) → ((x : A) → f x ≡ x) → (xs : List A) → map f xs ≡ xs
map_none f h [] = refl
map_none f h (x ∷ xs) = ap (λ y. y ∷ map f xs) (h x) ∙ ap (λ ys. x ∷ ys) (map_none f h xs)

-- ---- marks

keep_set : (i : ℕ) (k : ℕ → Bool) (ms : List Mark) → keep_by k (slice_set ms i Right) ≡ keep_by (λ j. alike j i || k j) ms
keep_set i k [] = refl
keep_set zero k (m ∷ ms) = ap (λ x. x ∷ keep_by (λ i. k (suc i)) ms) (go (k zero))
  where
    go : (q : Bool) → cond q Right Right ≡ Right
    go true = refl
    go false = refl
keep_set (suc i) k (m ∷ ms) = ap (λ xs. cond (k zero) Right m ∷ xs) (keep_set i (λ j. k (suc j)) ms)

keep_none : (ms : List Mark) → keep_by (λ i. false) ms ≡ ms
keep_none [] = refl
keep_none (m ∷ ms) = ap (λ xs. m ∷ xs) (keep_none ms)

keep_is : (kept : List ℕ) (ms : List Mark) → keep_all kept ms ≡ keep_by (is_in kept) ms
keep_is [] ms = sym (keep_none ms)
keep_is (i ∷ kept) ms = keep_is kept (slice_set ms i Right) ∙ keep_set i (is_in kept) ms

keep_twice : (k l : ℕ → Bool) (ms : List Mark) → keep_by k (keep_by l ms) ≡ keep_by (λ i. k i || l i) ms
keep_twice k l [] = refl
keep_twice k l (m ∷ ms) =
    ap (λ x. x ∷ keep_by (λ i. k (suc i)) (keep_by (λ i. l (suc i)) ms)) (go (k zero) (l zero))
    ∙ ap (λ xs. cond (k zero || l zero) Right m ∷ xs) (keep_twice (λ i. k (suc i)) (λ i. l (suc i)) ms)
  where
    go : (p q : Bool) → cond p Right (cond q Right m) ≡ cond (p || q) Right m
    go true q = refl
    go false q = refl

-- ---- derivations

mutual
  settle_is : (kept : List ℕ) (d : Derivation) → settle kept d ≡ settle_by (is_in kept) d
  settle_is kept (derivation node strings parts) =
      ap (λ ms. derivation node ms (settle_behind kept (length strings) parts)) (map_same (keep_all kept) (keep_by (is_in kept)) (keep_is kept) strings)
      ∙ ap (derivation node (map (keep_by (is_in kept)) strings)) (behind_is kept (length strings) parts)

  behind_is : (kept : List ℕ) (n : ℕ) (ds : Derivations) → settle_behind kept n ds ≡ settle_behind_by (is_in kept) n ds
  behind_is kept n trees.done = refl
  behind_is kept zero (trees.part d ds) =
      ap (λ d. trees.part d (settle_behind kept zero ds)) (settle_is kept d) ∙ ap (trees.part (settle_by (is_in kept) d)) (behind_is kept zero ds)
  behind_is kept (suc n) (trees.part d ds) = ap (trees.part d) (behind_is kept n ds)

mutual
  pub settle_none : (d : Derivation) → settle_by (λ i. false) d ≡ d
  settle_none (derivation node strings parts) =
      ap (λ ms. derivation node ms (settle_behind_by (λ i. false) (length strings) parts)) (map_none (keep_by (λ i. false)) keep_none strings)
      ∙ ap (derivation node strings) (behind_none (length strings) parts)

  behind_none : (n : ℕ) (ds : Derivations) → settle_behind_by (λ i. false) n ds ≡ ds
  behind_none n trees.done = refl
  behind_none zero (trees.part d ds) =
      ap (λ d. trees.part d (settle_behind_by (λ i. false) zero ds)) (settle_none d) ∙ ap (trees.part d) (behind_none zero ds)
  behind_none (suc n) (trees.part d ds) = ap (trees.part d) (behind_none n ds)

pub settled_is : (kept : List ℕ) (d : Derivation) → settled kept d ≡ settle_by (is_in kept) d
settled_is [] d = sym (settle_none d)
settled_is (i ∷ kept) d = settle_is (i ∷ kept) d

mutual
  pub settle_twice : (k l : ℕ → Bool) (d : Derivation) → settle_by k (settle_by l d) ≡ settle_by (λ i. k i || l i) d
  settle_twice k l (derivation node strings parts) =
      ap (λ ms. derivation node ms (settle_behind_by k (length (map (keep_by l) strings)) (settle_behind_by l (length strings) parts)))
      (map_twice (keep_by k) (keep_by l) (keep_by (λ i. k i || l i)) (keep_twice k l) strings)
      ∙ ap (λ n. derivation node (map (keep_by (λ i. k i || l i)) strings) (settle_behind_by k n (settle_behind_by l (length strings) parts))) (length-map strings (keep_by l))
      ∙ ap (derivation node (map (keep_by (λ i. k i || l i)) strings)) (behind_twice k l (length strings) parts)

  behind_twice : (k l : ℕ → Bool) (n : ℕ) (ds : Derivations) → settle_behind_by k n (settle_behind_by l n ds) ≡ settle_behind_by (λ i. k i || l i) n ds
  behind_twice k l n trees.done = refl
  behind_twice k l zero (trees.part d ds) =
      ap (λ d. trees.part d (settle_behind_by k zero (settle_behind_by l zero ds))) (settle_twice k l d)
      ∙ ap (trees.part (settle_by (λ i. k i || l i) d)) (behind_twice k l zero ds)
  behind_twice k l (suc n) (trees.part d ds) = ap (trees.part d) (behind_twice k l n ds)

-- settled twice
pub settle_settled : (k : ℕ → Bool) (kept : List ℕ) (d : Derivation) → settle_by k (settled kept d) ≡ settle_by (λ i. k i || is_in kept i) d
settle_settled k kept d = ap (settle_by k) (settled_is kept d) ∙ settle_twice k (is_in kept) d

-- ---- the lists of the pass as tests

pub in_append : (xs ys : List ℕ) (i : ℕ) → is_in (xs ++ ys) i ≡ (is_in xs i || is_in ys i)
in_append [] ys i = refl
in_append (x ∷ xs) ys i = go (alike i x) (in_append xs ys i)
  where
    go : (q : Bool) → is_in (xs ++ ys) i ≡ (is_in xs i || is_in ys i) → (q || is_in (xs ++ ys) i) ≡ ((q || is_in xs i) || is_in ys i)
    go true h = refl
    go false h = h

raised_first : (n : ℕ) (bs : List Bool) → is_in (raised (suc n) bs) zero ≡ false
raised_first n [] = refl
raised_first n (b ∷ bs) = go b (raised_first (suc n) bs)
  where
    go : (b : Bool) → is_in (raised (suc (suc n)) bs) zero ≡ false → is_in (cond b (suc n ∷ raised (suc (suc n)) bs) (raised (suc (suc n)) bs)) zero ≡ false
    go true h = h
    go false h = h

raised_later : (n : ℕ) (bs : List Bool) (i : ℕ) → is_in (raised (suc n) bs) (suc i) ≡ is_in (raised n bs) i
raised_later n [] i = refl
raised_later n (b ∷ bs) i = go b (raised_later (suc n) bs i)
  where
    go : (b : Bool) → is_in (raised (suc (suc n)) bs) (suc i) ≡ is_in (raised (suc n) bs) i
        → is_in (cond b (suc n ∷ raised (suc (suc n)) bs) (raised (suc (suc n)) bs)) (suc i) ≡ is_in (cond b (n ∷ raised (suc n) bs) (raised (suc n) bs)) i
    go true h = ap (λ q. alike i n || q) h
    go false h = h

raised_is : (bs : List Bool) (i : ℕ) → is_in (raised 0 bs) i ≡ flag_at bs i
raised_is [] i = refl
raised_is (true ∷ bs) zero = refl
raised_is (false ∷ bs) zero = raised_first 0 bs
raised_is (true ∷ bs) (suc i) = raised_later 0 bs i ∙ raised_is bs i
raised_is (false ∷ bs) (suc i) = raised_later 0 bs i ∙ raised_is bs i

beside_at : (n : ℕ) (x y : ℕ → Use) (i : ℕ) → i < n → flag_at (pairs (λ u v. not u.touched && v.touched) (table n x) (table n y)) i ≡ (not (x i).touched && (y i).touched)
beside_at zero x y i h = absurd (omega arith)
beside_at (suc n) x y zero h = refl
beside_at (suc n) x y (suc i) h = beside_at n (λ i. x (suc i)) (λ i. y (suc i)) i (omega arith)

beside_past : (n : ℕ) (x y : ℕ → Use) (i : ℕ) → n ≤ i → flag_at (pairs (λ u v. not u.touched && v.touched) (table n x) (table n y)) i ≡ false
beside_past zero x y i h = refl
beside_past (suc n) x y zero h = absurd (omega arith)
beside_past (suc n) x y (suc i) h = beside_past n (λ i. x (suc i)) (λ i. y (suc i)) i (omega arith)

unseen_at : (n : ℕ) (s : ℕ → Option Place) (x : ℕ → Use) (i : ℕ) → i < n
    → flag_at (pairs (λ s u. is_seen s && not u.touched) (table n s) (table n x)) i ≡ (is_seen (s i) && not (x i).touched)
unseen_at zero s x i h = absurd (omega arith)
unseen_at (suc n) s x zero h = refl
unseen_at (suc n) s x (suc i) h = unseen_at n (λ i. s (suc i)) (λ i. x (suc i)) i (omega arith)

unseen_past : (n : ℕ) (s : ℕ → Option Place) (x : ℕ → Use) (i : ℕ) → n ≤ i → flag_at (pairs (λ s u. is_seen s && not u.touched) (table n s) (table n x)) i ≡ false
unseen_past zero s x i h = refl
unseen_past (suc n) s x zero h = absurd (omega arith)
unseen_past (suc n) s x (suc i) h = unseen_past n (λ i. s (suc i)) (λ i. x (suc i)) i (omega arith)

pub in_beside : (n : ℕ) (x y : ℕ → Use) (i : ℕ) → i < n → is_in (kept_beside (table n x) (table n y)) i ≡ (not (x i).touched && (y i).touched)
in_beside n x y i h = raised_is _ i ∙ beside_at n x y i h

pub past_beside : (n : ℕ) (x y : ℕ → Use) (i : ℕ) → n ≤ i → is_in (kept_beside (table n x) (table n y)) i ≡ false
past_beside n x y i h = raised_is _ i ∙ beside_past n x y i h

pub in_seen : (n : ℕ) (s : ℕ → Option Place) (x : ℕ → Use) (i : ℕ) → i < n → is_in (kept_seen (table n s) (table n x)) i ≡ (is_seen (s i) && not (x i).touched)
in_seen n s x i h = raised_is _ i ∙ unseen_at n s x i h

pub past_seen : (n : ℕ) (s : ℕ → Option Place) (x : ℕ → Use) (i : ℕ) → n ≤ i → is_in (kept_seen (table n s) (table n x)) i ≡ false
past_seen n s x i h = raised_is _ i ∙ unseen_past n s x i h

same_position : (n : ℕ) → alike n n ≡ true
same_position zero = refl
same_position (suc n) = same_position n

pub in_new : (n : ℕ) (u : Use) → is_in (kept_new n u) n ≡ not u.touched
in_new n u = go u.touched
  where
    go : (t : Bool) → is_in (cond t [] (n ∷ [])) n ≡ not t
    go true = refl
    go false = ap (λ q. q || false) (same_position n)

pub apart_new : (n : ℕ) (u : Use) (i : ℕ) → (i ≡ n → ⊥) → is_in (kept_new n u) i ≡ false
apart_new n u i h = go u.touched (⊎_elim (λ e. absurd (h (alike_is i n e))) (λ e. e) (bool_is (alike i n)))
  where
    go : (t : Bool) → alike i n ≡ false → is_in (cond t [] (n ∷ [])) i ≡ false
    go true e = refl
    go false e = ap (λ q. q || false) e
