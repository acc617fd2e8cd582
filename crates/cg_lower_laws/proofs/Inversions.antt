-- What it takes for a part of the update semantics to give a result.
use Rattle.std.proofs.Common.{◌≡◌, ℕ, zero, suc, ◌-◌, ◌≤◌, Bool, true, false, cond, Option, Some, None, List, refl, subst, arith, nat_lt}
use Rattle.std.proofs.lemmas.Bool.{ltb-false}
use Rattle.cg_base.specs.Types.{Tau}
use Rattle.cg_heap.specs.declared.cell.Scalar.{Scalar}
use Rattle.cg_update.specs.Calls.{Program, types_of}
use Rattle.cg_update.specs.Machines.{is_machine}
use Rattle.cg_update.specs.Outcomes.{State, Outcome, no_result, gives, bind, on, where_true, pay, pay_for}
use Rattle.cg_update.specs.Updates.{formed}

-- a result of a part, and of what goes on from it
pub record Bound (o : Outcome) (f : List Scalar → State → ℕ → Outcome) (us : List Scalar) (s : State) (left : ℕ) : Type 0 where
  pub scalars : List Scalar
  pub state : State
  pub rest : ℕ
  pub first : o ≡ gives scalars state rest
  pub later : f scalars state rest ≡ gives us s left

pub bind_is : (o : Outcome) (f : List Scalar → State → ℕ → Outcome) (us : List Scalar) (s : State) (left : ℕ) → bind o f ≡ gives us s left → Bound o f us s left
bind_is no_result f us s left e = absurd (cc)
bind_is (gives ws t rest) f us s left e = record { scalars = ws; state = t; rest = rest; first = refl; later = e }

-- what is asked for is there
pub on_is : {A : Type 0} (o : Option A) (f : A → Outcome) (us : List Scalar) (s : State) (left : ℕ) → on o f ≡ gives us s left → (a : A) × (o ≡ Some a) × (f a ≡ gives us s left)
on_is None f us s left e = absurd (cc)
on_is (Some a) f us s left e = (a, refl, e)

pub where_is : (b : Bool) (o : Outcome) (us : List Scalar) (s : State) (left : ℕ) → where_true b o ≡ gives us s left → (b ≡ true) × (o ≡ gives us s left)
where_is true o us s left e = (refl, e)
where_is false o us s left e = absurd (cc)

-- 1 of the budget was there
pub pay_is : (n : ℕ) (f : ℕ → Outcome) (us : List Scalar) (s : State) (left : ℕ) → pay n f ≡ gives us s left → (m : ℕ) × (n ≡ suc m) × (f m ≡ gives us s left)
pay_is zero f us s left e = absurd (cc)
pay_is (suc m) f us s left e = (m, refl, e)

pub pay_for_is : (cost n : ℕ) (f : ℕ → Outcome) (us : List Scalar) (s : State) (left : ℕ) → pay_for cost n f ≡ gives us s left → (cost ≤ n) × (f (n - cost) ≡ gives us s left)
pay_for_is cost n f us s left e = by_test (nat_lt n cost) refl e
  where
    by_test : (b : Bool) → nat_lt n cost ≡ b → cond b no_result (f (n - cost)) ≡ gives us s left → (cost ≤ n) × (f (n - cost) ≡ gives us s left)
    by_test true q h = absurd (cc)
    by_test false q h = let le = ltb-false n cost q in (omega (arith, le), h)

-- two results are one
pub same_scalars : (us ws : List Scalar) (s t : State) (i j : ℕ) → gives us s i ≡ gives ws t j → us ≡ ws
same_scalars us ws s t i j e = cc

pub same_state : (us ws : List Scalar) (s t : State) (i j : ℕ) → gives us s i ≡ gives ws t j → s ≡ t
same_state us ws s t i j e = cc

pub same_rest : (us ws : List Scalar) (s t : State) (i j : ℕ) → gives us s i ≡ gives ws t j → i ≡ j
same_rest us ws s t i j e = cc

-- what is given is a machine value of its type
pub formed_is : (p : Program) (t : Tau) (o : Outcome) (us : List Scalar) (s : State) (left : ℕ) → formed p t o ≡ gives us s left
    → (o ≡ gives us s left) × (is_machine (types_of p) t us ≡ true)
formed_is p t no_result us s left e = absurd (cc)
formed_is p t (gives ws s' rest) us s left e = by_test (is_machine (types_of p) t ws) refl e
  where
    by_test : (b : Bool) → is_machine (types_of p) t ws ≡ b → cond b (gives ws s' rest) no_result ≡ gives us s left
        → (gives ws s' rest ≡ gives us s left) × (is_machine (types_of p) t us ≡ true)
    by_test true q h = (h, subst (λ z. is_machine (types_of p) t z ≡ true) (same_scalars ws us s' s rest left h) q)
    by_test false q h = absurd (cc)
