-- What an unboxed record reaches, by the places of its fields.
use Rattle.std.proofs.Common.{◌≡◌, ℕ, zero, suc, ◌+◌, true, false, nat_le, IsTrue, Some, None, List, [], ◌++◌, codes, length, take, drop, refl, sym, ap, ◌∙◌, subst, arith, le-leb}
use Rattle.std.proofs.lemmas.List.{append-nil}
use Rattle.cg_base.proofs.Truths.{cond_true}
use Rattle.std.specs.Prelude.{unwrap_or}
use Rattle.cg_base.proofs.Counts.{no_steps as never}
use Rattle.cg_base.specs.declared.kind.Sigil.{Sigil}
use Rattle.cg_base.specs.declared.kind.Sigil.TheVariants.{U}
use Rattle.cg_base.specs.Types.{Tau, fields, Parts, end, part}
use Rattle.cg_heap.specs.declared.cell.Scalar.{Scalar}
use Rattle.cg_heap.specs.Reps.{Heap, HeapWorld, Holds, HoldsAll, foot, foot_all, slots}
use Rattle.cg_refine.proofs.Records.{front_foot, unboxed_foot}
use Rattle.cg_typing.specs.Library.{pair, whole}
use Rattle.cg_typing.specs.Parts.{is_whole}
use Rattle.cg_update.specs.Machines.{part_at, type_of_part}
use Rattle.cg_update.specs.Turns.{field_of}
use Rattle.cg_update_laws.proofs.Named.{front_held}
use Rattle.cg_value.specs.Forms as forms
use Rattle.cg_value.specs.Values as values
use Rattle.cg_value.specs.Values.{Val, Vals}

-- the sum of counts over the places of parts
abbrev pub sum_of : (ℕ → ℕ) → Parts → ℕ
sum_of f end = 0
sum_of f (part x t taken ps) = f zero + sum_of (λ i. f (suc i)) ps

-- by numbers alone: sums of what is the same
both_same : (a b c d : ℕ) → a ≡ c → b ≡ d → a + b ≡ c + d
both_same a b c d e f = omega arith

module _ (world : HeapWorld) (h : Heap) where
  -- fields reach what each of them does
  fields_foot : (m : Sigil) (q : ℕ) (ps : Parts) (us : List Scalar) (vs : Vals) → HoldsAll world h ps us vs → IsTrue (is_whole ps)
      → foot_all h m ps us q ≡ sum_of (λ i. foot h m (type_of_part i ps) (unwrap_or (part_at i ps us) []) q) ps
  unfolding Holds foot part_at type_of_part
  fields_foot m q end us vs k w = refl
  fields_foot m q (part x t taken ps) us values.none k w = absurd k
  fields_foot m q (part x t true ps) us (values.more v vs) k w = never w
  fields_foot m q (part x t false ps) us (values.more v vs) k w =
      both_same _ _ _ _ (ap (λ o. foot h m t (unwrap_or o []) q) (sym (cond_true (nat_le (slots t) (length us)) (Some (take (slots t) us)) None (le-leb _ _ k.0))))
      (fields_foot m q ps (drop (slots t) us) vs k.2 w)

  -- an unboxed record reaches what each of its fields does
  pub record_foot : (ps : Parts) (us : List Scalar) (v : Val) → Holds world h (fields ps U) us v → IsTrue (is_whole ps)
      → (m : Sigil) (q : ℕ) → foot h m (fields ps U) us q ≡ sum_of (λ i. foot h m (type_of_part i ps) (field_of (fields ps U) us i) q) ps
  unfolding Holds
  record_foot ps us v k w m q = unboxed_foot world h ps us m q ∙ fields_foot m q ps us k.0 k.2 w

-- ---- pairs

-- a first, and behind it a last
pub sum_of_two : (a b c d e : ℕ) → a ≡ b → b ≡ c + d → d ≡ e + 0 → a ≡ c + e
sum_of_two a b c d e f g i = omega arith

module _ (world : HeapWorld) (h : Heap) (a b : Tau) (us ws : List Scalar) (v w : Val) (k : Holds world h a us v) (l : Holds world h b ws w) where
  -- the scalars of two values, one behind the other, represent the pair
  pub pair_held : Holds world h (pair a b) (us ++ ws) (forms.pair v w)
  unfolding Holds
  pair_held = (
    _,
    tt {0},
    front_held world h (codes "p1") a (whole (codes "p2") b end) us ws v (values.more w values.none) k
        (subst (λ z. HoldsAll world h (whole (codes "p2") b end) z (values.more w values.none)) (append-nil ws) (front_held world h (codes "p2") b end ws [] w values.none l refl)),
    refl,
  )

  -- no more fields reach anything
  none_behind : (m : Sigil) (q n : ℕ) → n + foot_all h m end [] q ≡ n + 0
  unfolding foot
  none_behind m q n = refl

  -- they reach what both do
  pub pair_foot : (m : Sigil) (q : ℕ) → foot h m (pair a b) (us ++ ws) q ≡ foot h m a us q + foot h m b ws q
  pair_foot m q =
      sum_of_two _ _ _ _ _ (unboxed_foot world h (whole (codes "p1") a (whole (codes "p2") b end)) (us ++ ws) m q)
      (front_foot world h (codes "p1") a (whole (codes "p2") b end) us ws v k m q)
      (ap (λ z. foot_all h m (whole (codes "p2") b end) z q) (sym (append-nil ws)) ∙ front_foot world h (codes "p2") b end ws [] w l m q ∙ none_behind m q (foot h m b ws q))
