-- Chains of mentions, and ranks in a graph without circles.
use Rattle.std.proofs.Common.{◌≡◌, ◌⊎◌, inl, inr, ⊎_elim, true, false, nat_eq, ℕ, zero, suc, max, List, [], ◌∷◌, length, get_or, ◌<◌, refl, sym, ap, subst, ◌∙◌, arith}
use Rattle.std.specs.Bool.{⊤}
use Rattle.std.specs.List.{AllByRecursion, IsDistinct, list_any}
use Rattle.std.proofs.lemmas.Bool.{cases_Bool}
use Rattle.std.proofs.lemmas.Map.Steps.{length-le_from_distinct_below}
use Rattle.cg_graphs.specs.Circles.{Mentions, Reaches, mentioned, onward, Closed, NoCircle}
use Rattle.cg_graphs.proofs.Places.{is_mention, mention_of, mentioned_within, reaches_in}
use Rattle.cg_graphs.specs.Ranks.{above, rank}
use Rattle.cg_graphs.proofs.Standing.{In, in_contains, contains_in, are_equal}
use Rattle.cg_base.proofs.Counts.{is_other as are_apart}

-- what gives the rank above some nodes
above_from : (f : ℕ → ℕ) (xs : List ℕ) → (above f xs ≡ 0) ⊎ ((x : ℕ) × In xs x × (above f xs ≡ suc (f x)))
above_from f [] = inl refl
above_from f (x ∷ xs) = larger (above_from f xs)
  where
    of_two : (a b : ℕ) → (max a b ≡ a) ⊎ (max a b ≡ b)
    of_two a b = grind arith

    larger : (above f xs ≡ 0) ⊎ ((y : ℕ) × In xs y × (above f xs ≡ suc (f y))) → (above f (x ∷ xs) ≡ 0) ⊎ ((y : ℕ) × In (x ∷ xs) y × (above f (x ∷ xs) ≡ suc (f y)))
    larger (inl none) = inr (x, inl refl, grind (arith, none))
    larger (inr one) = ⊎_elim (λ e. inr (x, inl refl, e)) (λ e. inr (one.0, inr one.1, e ∙ one.2)) (of_two (suc (f x)) (above f xs))

-- the rank above some nodes is above the rank of each
above_each : (f : ℕ → ℕ) (xs : List ℕ) (x : ℕ) → In xs x → f x < above f xs
above_each f [] x h = absurd h
above_each f (y ∷ ys) x h = ⊎_elim (λ e. first e) (λ i. let p = above_each f ys x i in grind (arith, p)) h
  where
    first : y ≡ x → f x < max (suc (f y)) (above f ys)
    first e = let p = ap f e in grind (arith, p)

-- ranks below a number that stay are all that the rank above them, if it is no more, comes from
above_settles : (f g : ℕ → ℕ) (m : ℕ) → ((j : ℕ) → f j < m → g j ≡ f j) → (xs : List ℕ) → above f xs < suc m → above g xs ≡ above f xs
above_settles f g m h [] lt = refl
above_settles f g m h (x ∷ xs) lt =
    ap (λ z. max (suc z) (above g xs)) (h x (grind (arith, lt))) ∙ ap (max (suc (f x))) (above_settles f g m h xs (grind (arith, lt)))

module _ (edges : List (List ℕ)) where
  -- the first of some nodes is mentioned by this one, and each mentions the next
  abbrev IsChain : ℕ → List ℕ → Type 0
  IsChain j [] = ⊤
  IsChain j (k ∷ ks) = Mentions edges j k × IsChain k ks

  abbrev Chain : ℕ → ℕ → Type 0
  Chain j v = (ks : List ℕ) × (length ks ≡ v) × IsChain j ks

  longer : (f : ℕ → ℕ) (j : ℕ) → ((x : ℕ) → Chain x (f x)) → (v : ℕ) → (v ≡ 0) ⊎ ((x : ℕ) × In (get_or edges j []) x × (v ≡ suc (f x))) → Chain j v
  longer f j chains v (inl none) = ([], sym none, tt)
  longer f j chains v (inr one) =
      let rest = chains one.0 in
      (one.0 ∷ rest.0, ap suc rest.1 ∙ sym one.2, (mention_of edges j one.0 (in_contains (get_or edges j []) one.0 one.1), rest.2))

  -- a rank is the length of a chain
  chain_at : (m j : ℕ) → Chain j (rank edges m j)
  chain_at zero j = ([], refl, tt)
  chain_at (suc m) j = longer (rank edges m) j (chain_at m) (rank edges (suc m) j) (above_from (rank edges m) (get_or edges j []))

  reaches_further : (i j k : ℕ) → Reaches edges i j → Reaches edges j k → Reaches edges i k
  reaches_further i j _ r (mentioned k m) = onward j k r m
  reaches_further i j _ r (onward l k s m) = onward l k (reaches_further i j l r s) m

  -- each node of a chain is reached
  reached_each : (P : ℕ → Type 0) (ks : List ℕ) (j : ℕ) → ((y : ℕ) → Reaches edges j y → P y) → IsChain j ks → AllByRecursion P ks
  reached_each P [] j h c = tt
  reached_each P (k ∷ ks) j h c = (h k (mentioned k c.0), reached_each P ks k (λ y r. h y (reaches_further j k y (mentioned k c.0) r)) c.1)

  -- a count stays once it is above the rank
  settles : (m j : ℕ) → rank edges m j < m → rank edges (suc m) j ≡ rank edges m j
  settles zero j lt = absurd (omega (arith, lt))
  settles (suc m) j lt = above_settles (rank edges m) (rank edges (suc m)) m (settles m) (get_or edges j []) lt

  module _ (closed : Closed edges) (none : NoCircle edges) where
    -- no node stands in a chain twice
    distinct : (ks : List ℕ) (j : ℕ) → IsChain j ks → IsDistinct nat_eq (j ∷ ks)
    unfolding IsDistinct
    distinct [] j c = (tt, tt)
    distinct (k ∷ ks) j c =
        (reached_each (λ y. nat_eq j y ≡ false) (k ∷ ks) j (λ y r. are_apart j y (λ e. none j (subst (Reaches edges j) (sym e) r))) c, distinct ks k c.1)

    below : (ks : List ℕ) (j : ℕ) → j < length edges → IsChain j ks → (q : ℕ) → list_any (nat_eq q) (j ∷ ks) ≡ true → q < length edges
    below [] j h c q has = ⊎_elim (λ t. subst (λ z. z < length edges) (sym (are_equal q j t)) h) (λ f. let no = rw f at has in absurd (cc)) (cases_Bool (nat_eq q j))
    below (k ∷ ks) j h c q has =
        ⊎_elim (λ t. subst (λ z. z < length edges) (sym (are_equal q j t)) h) (λ f. below ks k (mentioned_within edges closed j k c.0) c.1 q (rw f at has))
        (cases_Bool (nat_eq q j))

    rank_few : (m j : ℕ) → j < length edges → rank edges m j < length edges
    rank_few m j h =
        let one = chain_at m j in
        let few = length-le_from_distinct_below (j ∷ one.0) (length edges) (distinct one.0 j one.2) (below one.0 j h one.2) in
        omega (arith, few, one.1)

    -- a node's rank is above that of each node that it mentions
    pub rank_falls : (i j : ℕ) → Mentions edges i j → rank edges (length edges) j < rank edges (length edges) i
    rank_falls i j m =
        let n : ℕ = length edges in
        let inside : i < n = reaches_in edges i j (mentioned j m) in
        subst (λ z. rank edges n j < z) (settles n i (rank_few n i inside))
        (above_each (rank edges n) (get_or edges i []) j (contains_in (get_or edges i []) j (is_mention edges i j m)))
