-- Scalars that represent a value: how many they are, and that they are a machine value.
use Rattle.std.proofs.Common.{◌≡◌, ℕ, zero, suc, ◌+◌, ◌-◌, ◌^◌, ◌≤◌, true, false, not, nat_eq, nat_le, Option, Some, List, length, take, drop, ap, ◌∙◌, arith, lt-ltb}
use Rattle.std.proofs.lemmas.Bool.{and_from, eq-eqb, le-leb}
use Rattle.std.proofs.lemmas.List.{length-drop}
use Rattle.cg_base.specs.declared.kind.Sigil.TheVariants.{R, W, U}
use Rattle.cg_base.specs.Types.{Tau, var, seen, unit, word, bool, arrow, abs, variant, fields, Parts, end, part}
use Rattle.cg_base.specs.Words.{bits}
use Rattle.cg_heap.specs.declared.cell.Scalar.{Scalar}
use Rattle.cg_heap.specs.Reps.{first_number, Heap, HeapWorld, Holds, HoldsAll, HoldsAt, slots, slots_of_parts, tail}
use Rattle.cg_inst.proofs.SameType.{same_self}
use Rattle.cg_update.specs.Machines.{are_machine, is_address, is_alternative, is_machine, is_number_below, is_place_of, is_tagged, is_type}
use Rattle.cg_value.specs.Values as values
use Rattle.cg_value.specs.Values.{Val, Vals}

-- ---- lengths

-- one more than the rest
one_more : (n m k : ℕ) → n ≡ suc m → m ≡ k → n ≡ k + 1
one_more n m k e f = omega arith

-- so many, and then the rest
so_many : (n m k r : ℕ) → n ≤ m → r ≡ m - n → r ≡ k → m ≡ n + k
so_many n m k r h e f = omega arith

module _ (world : HeapWorld) (h : Heap) where
  -- they are as many as the type has
  mutual
    unfolding Holds slots

    pub holds_slots : (t : Tau) (us : List Scalar) (v : Val) → Holds world h t us v → length us ≡ slots t
    holds_slots (var n) us v k = absurd k
    holds_slots (seen n) us v k = absurd k
    holds_slots unit us v k = ap length k.0
    holds_slots (word w) us v k = ap length k.0
    holds_slots bool us v k = ap length k.0
    holds_slots (arrow a b) us v k = ap length k.0
    holds_slots (abs name ts s) us v k = ap length k.1.0
    holds_slots (variant ps) us v k = one_more (length us) (length (tail us)) (slots_of_parts ps) (ap length k.2) k.3
    holds_slots (fields ps U) us v k = all_slots ps us k.0 k.2
    holds_slots (fields ps R) us v k = ap length k.1.0.0
    holds_slots (fields ps W) us v k = ap length k.1.0.0

    pub all_slots : (ps : Parts) (us : List Scalar) (vs : Vals) → HoldsAll world h ps us vs → length us ≡ slots_of_parts ps
    all_slots end us values.none k = ap length k
    all_slots end us (values.more v vs) k = absurd k
    all_slots (part x t taken ps) us values.none k = absurd k
    all_slots (part x t true ps) us (values.more v vs) k =
        so_many (slots t) (length us) (slots_of_parts ps) (length (drop (slots t) us)) k.0 (length-drop (slots t) us) (all_slots ps (drop (slots t) us) vs k.2)
    all_slots (part x t false ps) us (values.more v vs) k =
        so_many (slots t) (length us) (slots_of_parts ps) (length (drop (slots t) us)) k.0 (length-drop (slots t) us) (all_slots ps (drop (slots t) us) vs k.2)

  -- ---- machine values

  module _ (types : ℕ → Option Tau) (known : (k : ℕ) (v : Val) (t : Tau) → world.instance_at k ≡ Some (v, t) → types k ≡ Some t) where
    -- they are a machine value of the type
    mutual
      unfolding Holds is_machine

      pub holds_machine : (t : Tau) (us : List Scalar) (v : Val) → Holds world h t us v → is_machine types t us ≡ true
      holds_machine (var n) us v k = absurd k
      holds_machine (seen n) us v k = absurd k
      holds_machine unit us v k = ap (is_number_below 1) k.0
      holds_machine (word w) us v k = ap (is_number_below (2 ^ bits w)) k.0 ∙ lt-ltb _ _ k.1
      holds_machine bool us v k = ap (is_number_below 2) k.0 ∙ lt-ltb _ _ k.1
      holds_machine (arrow a b) us v k =
          ap (is_place_of types (arrow a b)) k.0 ∙ ap (λ o. is_type o (arrow a b)) (known (first_number us) v (arrow a b) k.1) ∙ same_self (arrow a b)
      holds_machine (abs name ts s) us v k = ap is_address k.1.0
      holds_machine (variant ps) us v k =
          and_from (is_tagged us) _ (ap is_tagged k.2)
          (and_from (nat_eq (length (tail us)) (slots_of_parts ps)) _ (eq-eqb _ _ k.3) (holds_alternative ps (first_number us) (tail us) k.0 k.1 k.4))
      holds_machine (fields ps U) us v k = holds_machines ps us k.0 k.2
      holds_machine (fields ps R) us v k = ap is_address k.1.0.0
      holds_machine (fields ps W) us v k = ap is_address k.1.0.0

      holds_machines : (ps : Parts) (us : List Scalar) (vs : Vals) → HoldsAll world h ps us vs → are_machine types ps us ≡ true
      holds_machines end us values.none k = eq-eqb _ _ (ap length k)
      holds_machines end us (values.more v vs) k = absurd k
      holds_machines (part x t taken ps) us values.none k = absurd k
      holds_machines (part x t true ps) us (values.more v vs) k =
          and_from (nat_le (slots t) (length us)) _ (le-leb _ _ k.0) (holds_machines ps (drop (slots t) us) vs k.2)
      holds_machines (part x t false ps) us (values.more v vs) k =
          and_from (nat_le (slots t) (length us)) _ (le-leb _ _ k.0)
          (and_from (is_machine types t (take (slots t) us)) _ (holds_machine t (take (slots t) us) v k.1) (holds_machines ps (drop (slots t) us) vs k.2))

      holds_alternative : (ps : Parts) (i : ℕ) (us : List Scalar) (x : List ℕ) (v : Val) → HoldsAt world h ps i us x v → is_alternative types ps i us ≡ true
      holds_alternative end i us x v k = absurd k
      holds_alternative (part y t taken ps) zero us x v k =
          and_from (not taken) _ (ap not k.0) (holds_machine t (take (slots t) us) v k.2)
      holds_alternative (part y t taken ps) (suc i) us x v k = holds_alternative ps i (drop (slots t) us) x v k
