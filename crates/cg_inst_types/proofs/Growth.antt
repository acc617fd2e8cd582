-- Lists by place, as they grow.
use Rattle.std.proofs.Common.{◌≡◌, ℕ, zero, suc, ◌<◌, ◌≤◌, ◌+◌, ◌⊎◌, inl, inr, List, [], ◌∷◌, ◌++◌, length, take, drop, slice_get, Some, None, refl, sym, ap, subst, ◌∙◌, arith}
use Rattle.std.proofs.lemmas.Option.{slice_get-get_or, slice_get_within, get_or_from_slice_get}
use Rattle.std.proofs.lemmas.List.{take-append-drop, take-append-le, length-append, length-take, take_all, get_or_append_left}
use Rattle.cg_base.specs.Types.{Tau, unit}
use Rattle.cg_kinds.specs.Kinds.{or_unit}
use Rattle.cg_inst_types.specs.Places.{IsIn, IsOnce, Keeps, type_at}

pub none_is_some : {A : Type 0} {x : A} → None ≡ Some x → ⊥
none_is_some e = grind arith

pub some_same : {A : Type 0} {x y : A} → Some x ≡ Some y → x ≡ y
some_same e = grind arith

module _ {A : Type 0} where
  -- what stands in a list stays, where more follows
  pub get_old : (xs ys : List A) (i : ℕ) (a : A) → slice_get xs i ≡ Some a → slice_get (xs ++ ys) i ≡ Some a
  get_old xs ys i a e =
      let within = slice_get_within xs i a e in
      let all : length (xs ++ ys) ≡ length xs + length ys = length-append xs ys in
      slice_get-get_or (xs ++ ys) i a (omega arith) ∙ ap Some (get_or_append_left xs ys a i within ∙ get_or_from_slice_get xs i a a e)

  pub get_last : (xs : List A) (a : A) → slice_get (xs ++ a ∷ []) (length xs) ≡ Some a
  get_last [] a = refl
  get_last (x ∷ xs) a = get_last xs a

  -- what stands in a list that got one more stood there before, or is that one
  pub get_push : (xs : List A) (x : A) (i : ℕ) (a : A) → slice_get (xs ++ x ∷ []) i ≡ Some a → (slice_get xs i ≡ Some a) ⊎ ((i ≡ length xs) × (a ≡ x))
  get_push [] x zero a e = inr (refl, sym (some_same e))
  get_push [] x (suc i) a e = absurd (none_is_some e)
  get_push (y ∷ ys) x zero a e = inl e
  get_push (y ∷ ys) x (suc i) a e = by (get_push ys x i a e)
    where
      by : (slice_get ys i ≡ Some a) ⊎ ((i ≡ length ys) × (a ≡ x)) → (slice_get ys i ≡ Some a) ⊎ ((suc i ≡ length (y ∷ ys)) × (a ≡ x))
      by (inl l) = inl l
      by (inr r) = inr (ap suc r.0, r.1)

  pub once_push : (xs : List A) (x : A) → IsOnce xs → (IsIn xs x → ⊥) → IsOnce (xs ++ x ∷ [])
  once_push xs x once absent i j a p q = by (get_push xs x i a p) (get_push xs x j a q)
    where
      by : (slice_get xs i ≡ Some a) ⊎ ((i ≡ length xs) × (a ≡ x)) → (slice_get xs j ≡ Some a) ⊎ ((j ≡ length xs) × (a ≡ x)) → i ≡ j
      by (inl l) (inl r) = once i j a l r
      by (inl l) (inr r) = absurd (absent (i, l ∙ ap Some r.1))
      by (inr l) (inl r) = absurd (absent (j, r ∙ ap Some l.1))
      by (inr l) (inr r) = l.0 ∙ sym r.0

  pub keeps_same : (xs : List A) → Keeps xs xs
  keeps_same xs = take_all (length xs) xs (omega arith)

  pub keeps_push : (xs : List A) (x : A) → Keeps xs (xs ++ x ∷ [])
  keeps_push xs x = take-append-le (length xs) xs (x ∷ []) (omega arith) ∙ keeps_same xs

  pub keeps_length : (old new : List A) → Keeps old new → length old ≤ length new
  keeps_length old new k = let taken = length-take (length old) new in let same = ap length k in grind arith

  pub keeps_get : (old new : List A) → Keeps old new → (i : ℕ) (a : A) → slice_get old i ≡ Some a → slice_get new i ≡ Some a
  keeps_get old new k i a e =
      subst (λ xs. slice_get xs i ≡ Some a) (take-append-drop (length old) new)
      (get_old (take (length old) new) (drop (length old) new) i a (subst (λ xs. slice_get xs i ≡ Some a) (sym k) e))

  -- a beginning of what was there stays
  pub keeps_take : (old new : List A) → Keeps old new → (n : ℕ) → n ≤ length old → take n new ≡ take n old
  keeps_take old new k n within =
      ap (take n) (sym (take-append-drop (length old) new))
      ∙ take-append-le n (take (length old) new) (drop (length old) new) (subst (λ xs. n ≤ length xs) (sym k) within)
      ∙ ap (take n) k

  pub keeps_more : (a b c : List A) → Keeps a b → Keeps b c → Keeps a c
  keeps_more a b c p q = keeps_take b c q (length a) (keeps_length a b p) ∙ p

-- what stands at a place is the type at it
pub at_type : (types : List Tau) (i : ℕ) (t : Tau) → slice_get types i ≡ Some t → type_at types i ≡ t
at_type types i t e = ap or_unit e

pub type_within : (types : List Tau) (i : ℕ) → i < length types → slice_get types i ≡ Some (type_at types i)
type_within types i within = let e = slice_get-get_or types i unit within in e ∙ ap Some (sym (ap or_unit e))

-- a place keeps its type
pub type_kept : (old new : List Tau) → Keeps old new → (i : ℕ) → i < length old → type_at new i ≡ type_at old i
type_kept old new k i within = at_type new i (type_at old i) (keeps_get old new k i (type_at old i) (type_within old i within))
