-- Fields that are made one behind the other: what they hold and reach with one more.
use Rattle.std.proofs.Common.{◌≡◌, ℕ, zero, suc, ◌+◌, ◌≤◌, true, false, List, [], ◌∷◌, ◌++◌, length, take, drop, refl, sym, ap, ◌∙◌, subst, arith}
use Rattle.std.proofs.lemmas.List.{append-nil, length-append, take_at}
use Rattle.cg_base.specs.declared.kind.Sigil.{Sigil}
use Rattle.cg_base.specs.declared.kind.Sigil.TheVariants.{U}
use Rattle.cg_base.specs.Types.{Tau, fields, Parts, end, part}
use Rattle.cg_heap.specs.declared.cell.Scalar.{Scalar}
use Rattle.cg_heap.specs.Reps.{Heap, HeapWorld, Holds, HoldsAll, foot, foot_all, slots}
use Rattle.cg_heap_laws.proofs.Slots.{holds_slots}
use Rattle.cg_update_laws.proofs.Named.{front_held}
use Rattle.cg_value.specs.Values as values
use Rattle.cg_refine.proofs.Records.{unboxed_foot}
use Rattle.cg_value.specs.Values.{Val, Vals, parts, to_vals}

-- ---- lists

-- one behind the other
abbrev pub joined : Parts → Parts → Parts
joined end qs = qs
joined (part x t taken ps) qs = part x t taken (joined ps qs)

pub joined_end : (ps : Parts) → joined ps end ≡ ps
joined_end end = refl
joined_end (part x t taken ps) = ap (part x t taken) (joined_end ps)

pub joined_more : (ps : Parts) (x : List ℕ) (t : Tau) (qs : Parts) → joined (joined ps (part x t false end)) qs ≡ joined ps (part x t false qs)
joined_more end x t qs = refl
joined_more (part y u taken ps) x t qs = ap (part y u taken) (joined_more ps x t qs)

-- the first of a list, with more behind it
take_before : {A : Type 0} (n : ℕ) (xs ys : List A) → n ≤ length xs → take n (xs ++ ys) ≡ take n xs
take_before zero xs ys l = refl
take_before (suc n) [] ys l = absurd (omega arith)
take_before (suc n) (x ∷ xs) ys l = ap (λ zs. x ∷ zs) (take_before n xs ys (omega arith))

drop_before : {A : Type 0} (n : ℕ) (xs ys : List A) → n ≤ length xs → drop n (xs ++ ys) ≡ drop n xs ++ ys
drop_before zero xs ys l = refl
drop_before (suc n) [] ys l = absurd (omega arith)
drop_before (suc n) (x ∷ xs) ys l = drop_before n xs ys (omega arith)

room_for_more : (n m k l : ℕ) → n ≤ m → k ≡ m + l → n ≤ k
room_for_more n m k l a e = omega arith

one_alone : (a b : ℕ) → a ≡ b → a + 0 ≡ 0 + b
one_alone a b e = omega arith

-- ---- fields

module _ (world : HeapWorld) (h : Heap) where
  -- one more field holds
  pub more_held : (ps : Parts) (row : List Scalar) (vs : List Val) → HoldsAll world h ps row (to_vals vs) → (x : List ℕ) (t : Tau) (us : List Scalar) (v : Val) → Holds world h t us v
      → HoldsAll world h (joined ps (part x t false end)) (row ++ us) (to_vals (vs ++ v ∷ []))
  unfolding Holds to_vals
  more_held end row [] k x t us v l =
      subst (λ z. HoldsAll world h (part x t false end) (z ++ us) (values.more v values.none)) (sym k)
      (subst (λ z. HoldsAll world h (part x t false end) z (values.more v values.none)) (append-nil us) (front_held world h x t end us [] v values.none l refl))
  more_held end row (w ∷ vs) k x t us v l = absurd k
  more_held (part y u taken ps) row [] k x t us v l = absurd k
  more_held (part y u true ps) row (w ∷ vs) k x t us v l = (
    room_for_more (slots u) (length row) (length (row ++ us)) (length us) k.0 (length-append row us),
    k.1,
    subst (λ z. HoldsAll world h (joined ps (part x t false end)) z (to_vals (vs ++ v ∷ []))) (sym (drop_before (slots u) row us k.0)) (more_held ps (drop (slots u) row) vs k.2 x t us v l),
  )
  more_held (part y u false ps) row (w ∷ vs) k x t us v l = (
    room_for_more (slots u) (length row) (length (row ++ us)) (length us) k.0 (length-append row us),
    subst (λ z. Holds world h u z w) (sym (take_before (slots u) row us k.0)) k.1,
    subst (λ z. HoldsAll world h (joined ps (part x t false end)) z (to_vals (vs ++ v ∷ []))) (sym (drop_before (slots u) row us k.0)) (more_held ps (drop (slots u) row) vs k.2 x t us v l),
  )

  -- and reaches what it reaches beside the others
  pub more_foot : (ps : Parts) (row : List Scalar) (vs : List Val) → HoldsAll world h ps row (to_vals vs) → (x : List ℕ) (t : Tau) (us : List Scalar) → length us ≡ slots t
      → (m : Sigil) (q : ℕ) → foot_all h m (joined ps (part x t false end)) (row ++ us) q ≡ foot_all h m ps row q + foot h m t us q
  unfolding Holds foot to_vals
  more_foot end row [] k x t us e m q =
      let all : take (slots t) (us ++ []) ≡ us = take_at us [] (slots t) e in
      let same : foot h m t (take (slots t) (row ++ us)) q ≡ foot h m t us q =
      ap (λ z. foot h m t (take (slots t) (z ++ us)) q) k ∙ ap (λ z. foot h m t (take (slots t) z) q) (sym (append-nil us)) ∙ ap (λ z. foot h m t z q) all in
      one_alone (foot h m t (take (slots t) (row ++ us)) q) (foot h m t us q) same
  more_foot end row (w ∷ vs) k x t us e m q = absurd k
  more_foot (part y u taken ps) row [] k x t us e m q = absurd k
  more_foot (part y u true ps) row (w ∷ vs) k x t us e m q =
      subst (λ z. foot_all h m (joined ps (part x t false end)) z q ≡ foot_all h m ps (drop (slots u) row) q + foot h m t us q) (sym (drop_before (slots u) row us k.0))
      (more_foot ps (drop (slots u) row) vs k.2 x t us e m q)
  more_foot (part y u false ps) row (w ∷ vs) k x t us e m q =
      let rest = more_foot ps (drop (slots u) row) vs k.2 x t us e m q in
      rw (take_before (slots u) row us k.0, drop_before (slots u) row us k.0) (omega arith)

  -- ---- unboxed records

  -- a record is its fields
  row_of_all : (ps : Parts) (row : List Scalar) (xs : Vals) → HoldsAll world h ps row xs → Holds world h (fields ps U) row (parts xs)
  unfolding Holds
  row_of_all ps row xs k = (xs, tt {0}, k, refl)

  all_of_row : (ps : Parts) (row : List Scalar) (xs : Vals) → Holds world h (fields ps U) row (parts xs) → HoldsAll world h ps row xs
  unfolding Holds
  all_of_row ps row xs k = let same : k.0 ≡ xs = parts_same k.0 xs (sym k.3) in subst (λ z. HoldsAll world h ps row z) same k.2
    where
      parts_same : (xs ys : Vals) → parts xs ≡ parts ys → xs ≡ ys
      parts_same xs ys e = cc

  -- none
  pub row_none : Holds world h (fields end U) [] (parts (to_vals []))
  unfolding Holds to_vals
  row_none = (values.none, tt {0}, refl, refl)

  pub row_none_foot : (m : Sigil) (q : ℕ) → foot h m (fields end U) [] q ≡ 0
  unfolding foot
  row_none_foot m q = unboxed_foot world h end [] m q

  -- one more
  pub row_more : (ps : Parts) (row : List Scalar) (vs : List Val) (x : List ℕ) (t : Tau) (us : List Scalar) (v : Val) → Holds world h (fields ps U) row (parts (to_vals vs)) → Holds world h t us v
      → Holds world h (fields (joined ps (part x t false end)) U) (row ++ us) (parts (to_vals (vs ++ v ∷ [])))
      × ((m : Sigil) (q : ℕ) → foot h m (fields (joined ps (part x t false end)) U) (row ++ us) q ≡ foot h m t us q + foot h m (fields ps U) row q)
  row_more ps row vs x t us v k l =
      let all = all_of_row ps row (to_vals vs) k in (
        row_of_all _ _ _ (more_held ps row vs all x t us v l),
        λ m q. sums _ _ _ _ _ (unboxed_foot world h (joined ps (part x t false end)) (row ++ us) m q) (more_foot ps row vs all x t us (holds_slots world h t us v l) m q) (unboxed_foot world h ps row m q),
      )
    where
      sums : (a b c d e : ℕ) → a ≡ b → b ≡ c + d → e ≡ c → a ≡ d + e
      sums a b c d e f g i = omega arith
