-- What is reached is there, and isn't the null address.
use Rattle.std.proofs.Common.{◌≡◌, ℕ, zero, suc, ◌+◌, ◌≤◌, Bool, true, false, nat_eq, IsTrue, Option, Some, None, List, take, drop, ◌⊎◌, ⊎_elim, refl, subst, arith, eqb-true}
use Rattle.std.specs.Option.{IsSome}
use Rattle.cg_base.specs.declared.kind.Sigil.{Sigil}
use Rattle.cg_base.specs.declared.kind.Sigil.TheVariants.{R, W, U}
use Rattle.cg_base.specs.Types.{Tau, var, seen, unit, word, bool, arrow, abs, variant, fields, Taus, Parts, end, part}
use Rattle.cg_base.specs.Types as types
use Rattle.cg_heap.specs.declared.cell.Cell.{Cell}
use Rattle.cg_heap.specs.declared.cell.Scalar.{Scalar}
use Rattle.cg_heap.specs.Reps.{Heap, HeapWorld, StandsFor, IsBoxed, Holds, HoldsAll, HoldsAt, slots, is_boxed, inner, first_number, first_address, tail, one_if, counted, foot, foot_all, foot_at}
use Rattle.cg_value.specs.Values as values
use Rattle.cg_value.specs.Values.{Val, Vals}

-- what is counted is a boxed cell, at its address
counted_is : (m s : Sigil) (p q : ℕ) → 1 ≤ counted m s p q → IsTrue (is_boxed s) × (p ≡ q)
counted_is U s p q k = absurd (omega arith)
counted_is R U p q k = absurd (omega arith)
counted_is R W p q k = absurd (omega arith)
counted_is W U p q k = absurd (omega arith)
counted_is W R p q k = absurd (omega arith)
counted_is R R p q k = (refl, one (nat_eq p q) refl k)
  where
    one : (b : Bool) → nat_eq p q ≡ b → 1 ≤ one_if b → p ≡ q
    one true e k = eqb-true p q e
    one false e k = absurd (omega arith)
counted_is W W p q k = (refl, one (nat_eq p q) refl k)
  where
    one : (b : Bool) → nat_eq p q ≡ b → 1 ≤ one_if b → p ≡ q
    one true e k = eqb-true p q e
    one false e k = absurd (omega arith)

some_is : {A : Type 0} (o : Option A) (x : A) → o ≡ Some x → IsSome o
some_is o x e = cc

pub either : (x y : ℕ) → 1 ≤ x + y → (1 ≤ x) ⊎ (1 ≤ y)
either x y k = grind arith

module _ (world : HeapWorld) where
  -- where there is no cell, nothing stands for a value
  stands_some : (name : List ℕ) (args : Taus) (o : Option Cell) (v : Val) → StandsFor world name args o v → IsSome o
  stands_some name args (Some c) v r = refl
  stands_some name types.none None v r = absurd r
  stands_some name (types.more (word w) types.none) None v r = absurd r
  stands_some name _ None v r = absurd r

  module _ (h : Heap) where
    -- an address other than the null address, with a cell
    abbrev IsThere : ℕ → Type 0
    IsThere q = (1 ≤ q) × IsSome (h q)

    -- so is that of a boxed record
    boxed_there : (s : Sigil) (us : List Scalar) → IsTrue (is_boxed s) → IsBoxed h s us → IsThere (first_address us)
    boxed_there U us b x = absurd (cc)
    boxed_there R us b x = (x.0.1, some_is _ _ x.1)
    boxed_there W us b x = (x.0.1, some_is _ _ x.1)

    mutual
      unfolding Holds foot

      -- so is each address that a value reaches
      pub foot_there : (t : Tau) (us : List Scalar) (v : Val) → Holds world h t us v → (m : Sigil) (q : ℕ) → 1 ≤ foot h m t us q → IsThere q
      foot_there (var n) us v r m q k = absurd r
      foot_there (seen n) us v r m q k = absurd r
      foot_there unit us v r m q k = absurd (omega arith)
      foot_there (word w) us v r m q k = absurd (omega arith)
      foot_there bool us v r m q k = absurd (omega arith)
      foot_there (arrow a b) us v r m q k = absurd (omega arith)
      foot_there (abs name args s) us v r m q k =
          let p = counted_is m s (first_address us) q k in
          subst (λ q. IsThere q) p.1 (r.1.1, stands_some name args (h (first_address us)) v r.2)
      foot_there (variant ps) us v r m q k = foot_at_there ps (first_number us) (tail us) r.0 r.1 r.4 m q k
      foot_there (fields ps s) us v r m q k = ⊎_elim
          (λ k. let p = counted_is m s (first_address us) q k in subst (λ q. IsThere q) p.1 (boxed_there s us p.0 r.1))
          (λ k. foot_all_there ps (inner h s us) r.0 r.2 m q k)
          (either (counted m s (first_address us) q) (foot_all h m ps (inner h s us) q) k)

      -- and each that fields reach
      pub foot_all_there : (ps : Parts) (us : List Scalar) (vs : Vals) → HoldsAll world h ps us vs → (m : Sigil) (q : ℕ) → 1 ≤ foot_all h m ps us q → IsThere q
      foot_all_there end us vs r m q k = absurd (omega arith)
      foot_all_there (part name t taken ps) us values.none r m q k = absurd r
      foot_all_there (part name t true ps) us (values.more v vs) r m q k = foot_all_there ps (drop (slots t) us) vs r.2 m q k
      foot_all_there (part name t false ps) us (values.more v vs) r m q k = ⊎_elim
          (λ k. foot_there t (take (slots t) us) v r.1 m q k)
          (λ k. foot_all_there ps (drop (slots t) us) vs r.2 m q k)
          (either (foot h m t (take (slots t) us) q) (foot_all h m ps (drop (slots t) us) q) k)

      -- and each that an alternative reaches
      pub foot_at_there : (ps : Parts) (i : ℕ) (us : List Scalar) (x : List ℕ) (v : Val) → HoldsAt world h ps i us x v → (m : Sigil) (q : ℕ) → 1 ≤ foot_at h m ps i us q → IsThere q
      foot_at_there end i us x v r m q k = absurd r
      foot_at_there (part name t true ps) zero us x v r m q k = absurd (omega arith)
      foot_at_there (part name t false ps) zero us x v r m q k = foot_there t (take (slots t) us) v r.2 m q k
      foot_at_there (part name t taken ps) (suc i) us x v r m q k = foot_at_there ps i (drop (slots t) us) x v r m q k
