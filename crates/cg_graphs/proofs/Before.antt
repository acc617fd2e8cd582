-- In a graph without circles each node stands in the order once, behind all that it mentions.
use Rattle.std.proofs.Common.{◌≡◌, ◌⊎◌, inl, inr, ⊎_elim, cond, nat_eq, ℕ, zero, suc, List, [], ◌∷◌, ◌++◌, length, take, ◌+◌, ◌<◌, ◌≤◌, Some, refl, sym, ap, subst, ◌∙◌, arith, length-append}
use Rattle.std.specs.List.{Contains, slice_get, filter, flat_map, range_with_len}
use Rattle.std.proofs.lemmas.Bool.{cases_eq}
use Rattle.std.proofs.lemmas.List.FromFn.{length-range_with_len}
use Rattle.cg_graphs.specs.Circles.{Mentions, Closed, NoCircle, IsOrder}
use Rattle.cg_graphs.proofs.Places.{mentioned_within}
use Rattle.cg_graphs.specs.Ranks.{rank, in_order}
use Rattle.cg_graphs.proofs.OrderSteps.{rank_most}
use Rattle.cg_graphs.proofs.Standing.{In, in_contains, in_left, in_right, bucket, in_bucket, bucket_is, stands}
use Rattle.cg_graphs.proofs.Chains.{rank_falls}
use Rattle.cg_base.proofs.Counts.{is_equal, is_other as are_apart}

-- a place in two lists is in the first, or behind all of it
at_part : (xs ys : List ℕ) (k i : ℕ) → slice_get (xs ++ ys) k ≡ Some i → In xs i ⊎ ((l : ℕ) × (slice_get ys l ≡ Some i) × (take k (xs ++ ys) ≡ xs ++ take l ys))
at_part [] ys k i h = inr (k, h, refl)
at_part (x ∷ xs) ys zero i h = let e : x ≡ i = cc in inl (inl e)
at_part (x ∷ xs) ys (suc k) i h = ⊎_elim (λ s. inl (inr s)) (λ p. inr (p.0, p.1, ap (λ z. x ∷ z) p.2)) (at_part xs ys k i h)

same_length : (xs ys zs : List ℕ) → length ys ≡ length zs → length (xs ++ ys) ≡ length (xs ++ zs)
same_length xs ys zs e = length-append xs ys ∙ ap (λ n. length xs + n) e ∙ sym (length-append xs zs)

one_longer : (xs ys zs : List ℕ) → length ys ≡ suc (length zs) → length (xs ++ ys) ≡ suc (length (xs ++ zs))
one_longer xs ys zs e = omega (arith, e, length-append xs ys, length-append xs zs)

-- lists of elements by their weight: an element stands behind each that weighs less
module _ (f : ℕ → List ℕ) (weight : ℕ → ℕ) (only : (r x : ℕ) → In (f r) x → weight x ≡ r) where
  behind_part : (i j a k : ℕ) (rest : List ℕ) → In (f (weight j)) j → weight j < weight i → a ≤ weight j
      → ((l : ℕ) → a + 1 ≤ weight j → slice_get rest l ≡ Some i → In (take l rest) j)
      → In (f a) i ⊎ ((l : ℕ) × (slice_get rest l ≡ Some i) × (take k (f a ++ rest) ≡ f a ++ take l rest)) → In (take k (f a ++ rest)) j
  behind_part i j a k rest has lt le more (inl first) = absurd (omega (arith, only a i first, lt, le))
  behind_part i j a k rest has lt le more (inr later) =
      let l : ℕ = later.0 in
      subst (λ z. In z j) (sym later.2)
      (⊎_elim (λ s. in_left (f a) (take l rest) j (subst (λ z. In (f z) j) (sym s) has))
      (λ d. in_right (f a) (take l rest) j (more l (grind (arith, le, d)) later.1)) (cases_eq a (weight j)))

  lighter_before : (i j : ℕ) → In (f (weight j)) j → weight j < weight i → (c a k : ℕ) → a ≤ weight j → slice_get (flat_map f (range_with_len a c)) k ≡ Some i
      → In (take k (flat_map f (range_with_len a c))) j
  lighter_before i j has lt zero a k le at = absurd (cc)
  lighter_before i j has lt (suc c) a k le at =
      let rest : List ℕ = flat_map f (range_with_len (a + 1) c) in
      behind_part i j a k rest has lt le (λ l h e. lighter_before i j has lt c (a + 1) l h e) (at_part (f a) rest k i at)

-- an element of a weight joins one list of a range, and no other
module _ (f : ℕ → List ℕ) (x v : ℕ) where
  stays_apart : (c a : ℕ) → v < a → length (flat_map (λ r. cond (nat_eq v r) (x ∷ f r) (f r)) (range_with_len a c)) ≡ length (flat_map f (range_with_len a c))
  stays_apart zero a lt = refl
  stays_apart (suc c) a lt =
      let rest : List ℕ = flat_map (λ r. cond (nat_eq v r) (x ∷ f r) (f r)) (range_with_len (a + 1) c) in
      ap (λ b. length (cond b (x ∷ f a) (f a) ++ rest)) (are_apart v a (λ e. absurd (omega (arith, e, lt))))
      ∙ same_length (f a) rest (flat_map f (range_with_len (a + 1) c)) (stays_apart c (a + 1) (omega (arith, lt)))

  joins_once : (c a : ℕ) → a ≤ v → v < a + c → length (flat_map (λ r. cond (nat_eq v r) (x ∷ f r) (f r)) (range_with_len a c)) ≡ suc (length (flat_map f (range_with_len a c)))
  joins_once zero a le lt = absurd (omega (arith, le, lt))
  joins_once (suc c) a le lt =
      let rest : List ℕ = flat_map (λ r. cond (nat_eq v r) (x ∷ f r) (f r)) (range_with_len (a + 1) c) in
      let old : List ℕ = flat_map f (range_with_len (a + 1) c) in
      ⊎_elim
      (λ s. ap (λ b. length (cond b (x ∷ f a) (f a) ++ rest)) (is_equal v a (sym s)) ∙ ap suc (same_length (f a) rest old (stays_apart c (a + 1) (omega (arith, s)))))
      (λ d. ap (λ b. length (cond b (x ∷ f a) (f a) ++ rest)) (are_apart v a (λ e. d (sym e)))
      ∙ one_longer (f a) rest old (joins_once c (a + 1) (grind (arith, le, d)) (omega (arith, lt))))
      (cases_eq a v)

-- each of some elements stands in exactly one list of a range
module _ (weight : ℕ → ℕ) (c : ℕ) (few : (i : ℕ) → weight i < c) where
  none_kept : (rs : List ℕ) → length (flat_map (λ r. filter (λ i. nat_eq (weight i) r) []) rs) ≡ 0
  none_kept [] = refl
  none_kept (r ∷ rs) = none_kept rs

  all_kept : (xs : List ℕ) → length (flat_map (λ r. filter (λ i. nat_eq (weight i) r) xs) (range_with_len 0 c)) ≡ length xs
  all_kept [] = none_kept (range_with_len 0 c)
  all_kept (x ∷ xs) =
      joins_once (λ r. filter (λ i. nat_eq (weight i) r) xs) x (weight x) c 0 (omega arith) (omega (arith, few x)) ∙ ap suc (all_kept xs)

module _ (edges : List (List ℕ)) (closed : Closed edges) (none : NoCircle edges) where
  size : length (in_order edges) ≡ length edges
  size =
      let n : ℕ = length edges in
      all_kept (rank edges n) (n + 1) (λ i. omega (arith, rank_most edges n i)) (range_with_len 0 n) ∙ length-range_with_len 0 n

  behind : (k i j : ℕ) → slice_get (in_order edges) k ≡ Some i → Mentions edges i j → Contains (take k (in_order edges)) j
  behind k i j at m =
      let n : ℕ = length edges in
      in_contains (take k (in_order edges)) j
      (lighter_before (bucket edges) (rank edges n) (bucket_is edges) i j (in_bucket edges j (mentioned_within edges closed i j m)) (rank_falls edges closed none i j m)
      (n + 1) 0 k (omega arith) at)

  pub is_order : IsOrder edges (in_order edges)
  is_order = record { size = size; whole = stands edges; behind = behind }
