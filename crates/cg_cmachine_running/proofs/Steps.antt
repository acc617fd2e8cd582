-- The steps of the machine, as equations.
use Rattle.std.proofs.Common.{◌≡◌, ℕ, zero, suc, List, [], ◌∷◌, ◌++◌, refl, sym, ap, ◌∙◌, arith, Err}
use Rattle.cg_cmachine_builtins.specs.Called as called
use Rattle.cg_cmachine_builtins.specs.Called.{Lands}
use Rattle.cg_cmachine_builtins.specs.declared.changes.Changes.{Changes}
use Rattle.cg_cmachine_running.specs.declared.machine.Kont.{Kont}
use Rattle.cg_cmachine_running.specs.declared.machine.Kont.TheVariants.{After, Return}
use Rattle.cg_cmachine_running.specs.declared.machine.Machine.{Machine}
use Rattle.cg_cmachine_running.specs.Machine.{Asked, Cont, Went, block, on_kont, program, waits, waits_from}
use Rattle.cg_cmachine_resolve.specs.Resolutions.{Resolution}
use Rattle.cg_cmachine_def.specs.BuiltIns.{Given}
use Rattle.cg_cmachine_def.specs.Operands as operands
use Rattle.cg_cmachine_def.specs.Outcomes.{Judged, ok, State, Outcome, stuck, needs, astray, bind, lift}
use Rattle.cg_cmachine_def.specs.Runs.{Flow, choose, onward, returned}
use Rattle.cg_ctree.specs.declared.why.Why.{Why}
use Rattle.cg_cmachine_values.specs.declared.fault.RunFault.{RunFault}
use Rattle.cg_cmachine_values.specs.declared.fault.RunFault.TheVariants.{Stuck, Budget, Memory}
use Rattle.cg_heap.specs.declared.cell.Scalar.{Scalar}
use Rattle.cg_heap.specs.Stored.{Stored}

-- what ends a run ends it whatever waits
pub data IsEnd : Outcome Flow → Outcome (List Scalar) → Type 0 where
  is_stuck : (why : Why) (m : Stored) → IsEnd (stuck why m) (stuck why m)
  is_needing : (m : Stored) → IsEnd (needs m) (needs m)
  is_astray : IsEnd astray astray

module _ (r : Resolution) (asked : Asked) (n : ℕ) where
  from_push : (k : Cont) (fs : List Kont) (f : Kont) → waits_from r asked n k (fs ++ f ∷ []) ≡ on_kont r asked n f (waits_from r asked n k fs)
  from_push k [] f = refl
  from_push k (g ∷ fs) f = from_push (on_kont r asked n g k) fs f

  pub waits_push : (fs : List Kont) (f : Kont) → waits r asked n (fs ++ f ∷ []) ≡ on_kont r asked n f (waits r asked n fs)
  unfolding waits
  waits_push fs f = from_push _ fs f

  pub waits_none : (fs : List Kont) (f : ℕ) (o : Outcome Flow) → fs ≡ [] → waits r asked n fs f o ≡ returned (program r asked n) o
  unfolding waits
  waits_none fs f o e = ap (λ z. waits r asked n z f o) e

  on_end : (f : Kont) (k : Cont) (o : Outcome Flow) (e : Outcome (List Scalar)) → IsEnd o e → ((g : ℕ) → k g o ≡ e) → (g : ℕ) → on_kont r asked n f k g o ≡ e
  unfolding on_kont
  on_end (After b i) k _ _ (is_stuck why m) h g = h g
  on_end (After b i) k _ _ (is_needing m) h g = h g
  on_end (After b i) k _ _ is_astray h g = h g
  on_end (Return fr) k _ _ (is_stuck why m) h g = h fr.at.function
  on_end (Return fr) k _ _ (is_needing m) h g = h fr.at.function
  on_end (Return fr) k _ _ is_astray h g = h fr.at.function

  from_end : (fs : List Kont) (k : Cont) (o : Outcome Flow) (e : Outcome (List Scalar)) → IsEnd o e → ((g : ℕ) → k g o ≡ e) → (g : ℕ) → waits_from r asked n k fs g o ≡ e
  from_end [] k o e i h g = h g
  from_end (f ∷ fs) k o e i h g = from_end fs (on_kont r asked n f k) o e i (on_end f k o e i h) g

  returned_end : (o : Outcome Flow) (e : Outcome (List Scalar)) → IsEnd o e → returned (program r asked n) o ≡ e
  returned_end _ _ (is_stuck why m) = refl
  returned_end _ _ (is_needing m) = refl
  returned_end _ _ is_astray = refl

  waits_end : (fs : List Kont) (o : Outcome Flow) (e : Outcome (List Scalar)) → IsEnd o e → (f : ℕ) → waits r asked n fs f o ≡ e
  unfolding waits
  waits_end fs o e i f = from_end fs _ o e i (λ g. returned_end o e i) f

  pub waits_stuck : (fs : List Kont) (f : ℕ) (why : Why) (m : Stored) → waits r asked n fs f (stuck why m) ≡ stuck why m
  waits_stuck fs f why m = waits_end fs (stuck why m) (stuck why m) (is_stuck why m) f

  pub waits_needs : (fs : List Kont) (f : ℕ) (m : Stored) → waits r asked n fs f (needs m) ≡ needs m
  waits_needs fs f m = waits_end fs (needs m) (needs m) (is_needing m) f

  pub waits_astray : (fs : List Kont) (f : ℕ) → waits r asked n fs f astray ≡ astray
  waits_astray fs f = waits_end fs astray astray is_astray f

  -- a block that comes first, and what is behind it
  pub descended : (fs gs : List Kont) (b i f : ℕ) (o : Outcome Flow) → gs ≡ fs ++ After b i ∷ []
      → waits r asked n gs f o ≡ waits r asked n fs f (onward o (block r asked n (record { function = f; block = b; index = i })))
  unfolding on_kont
  descended fs gs b i f o e = ap (λ z. waits r asked n z f o) e ∙ ap (λ k. k f o) (waits_push fs (After b i))

-- ---- runs that end early

-- what a fault says of an outcome
abbrev pub Fails : {A : Type 0} → Outcome A → Stored → RunFault → Type 0
Fails o m (Stuck why) = o ≡ stuck why m
Fails o m Budget = o ≡ needs m
Fails o m Memory = Unit {0}

module _ (r : Resolution) (asked : Asked) (n : ℕ) where
  pub went_fails : (fs : List Kont) (f : ℕ) (o : Outcome Flow) (machine : Machine) (m : Stored) (fault : RunFault) → Fails o m fault
      → Went r asked n (waits r asked n fs f o) machine m (Err fault)
  went_fails fs f o machine m (Stuck why) e = ap (waits r asked n fs f) e ∙ waits_stuck r asked n fs f why m
  went_fails fs f o machine m Budget e = ap (waits r asked n fs f) e ∙ waits_needs r asked n fs f m
  went_fails fs f o machine m Memory e = tt

pub fails_bind : {A B : Type 0} (o : Outcome A) (g : A → State → ℕ → Outcome B) (m : Stored) (fault : RunFault) → Fails o m fault → Fails (bind o g) m fault
fails_bind o g m (Stuck why) e = ap (λ z. bind z g) e
fails_bind o g m Budget e = ap (λ z. bind z g) e
fails_bind o g m Memory e = tt

pub fails_onward : (o : Outcome Flow) (g : operands.Frame → State → ℕ → Outcome Flow) (m : Stored) (fault : RunFault) → Fails o m fault → Fails (onward o g) m fault
fails_onward o g m (Stuck why) e = ap (λ z. onward z g) e
fails_onward o g m Budget e = ap (λ z. onward z g) e
fails_onward o g m Memory e = tt

pub fails_same : {A : Type 0} (o p : Outcome A) (m : Stored) (fault : RunFault) → p ≡ o → Fails o m fault → Fails p m fault
fails_same o p m (Stuck why) h e = h ∙ e
fails_same o p m Budget h e = h ∙ e
fails_same o p m Memory h e = tt

-- a call that is assigned, or not, and fails
pub fails_lands : (o : Outcome (List Scalar)) (us : List Scalar) (m : Stored) (c : Changes) (fault : RunFault) → Lands o us m c (Err fault) → Fails o m fault
fails_lands o us m c (Stuck why) e = e
fails_lands o us m c Budget e = e
fails_lands o us m c Memory e = tt

pub fails_steps : (o : Outcome Given) (m : Stored) (c : Changes) (fault : RunFault) → called.Steps o m c (Err fault) → Fails o m fault
fails_steps o m c (Stuck why) e = e
fails_steps o m c Budget e = e
fails_steps o m c Memory e = tt

-- a choice by a number
pub choose_none : {A : Type 0} (n : ℕ) (x y : A) → n ≡ 0 → choose n x y ≡ y
choose_none zero x y e = refl
choose_none (suc n) x y e = absurd (omega arith)

pub choose_some : {A : Type 0} (n : ℕ) (x y : A) → (n ≡ 0 → ⊥) → choose n x y ≡ x
choose_some zero x y h = absurd (h refl)
choose_some (suc n) x y h = refl

-- what is judged
pub lift_ok : {A B : Type 0} (m : Stored) (j : Judged A) (f : A → Outcome B) (a : A) → j ≡ ok a → f a ≡ lift m j f
lift_ok m j f a e = rw e refl

-- a test
pub tested_none : {B : Type 0} (m : Stored) (j : Judged ℕ) (x y : Outcome B) (k : ℕ) → j ≡ ok k → k ≡ 0 → y ≡ lift m j (λ k. choose k x y)
tested_none m j x y k e z = sym (choose_none k x y z) ∙ lift_ok m j (λ k. choose k x y) k e

pub tested_some : {B : Type 0} (m : Stored) (j : Judged ℕ) (x y : Outcome B) (k : ℕ) → j ≡ ok k → (k ≡ 0 → ⊥) → x ≡ lift m j (λ k. choose k x y)
tested_some m j x y k e z = sym (choose_some k x y z) ∙ lift_ok m j (λ k. choose k x y) k e

pub ruleset machine_steps = (waits_stuck, waits_needs, descended)
