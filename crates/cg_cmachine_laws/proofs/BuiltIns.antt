-- What built-ins do leaves no more steps than there were, and is never astray.
use Rattle.std.proofs.Common.{ℕ, ◌≤◌, ◌-◌, Bool, true, false, cond, ◌&&◌, nat_le, nat_lt, Some, List, [], ◌∷◌, ◌++◌, ◌+◌, arith}
use Rattle.cg_base.specs.declared.kind.Word.{Word}
use Rattle.cg_base.specs.declared.kind.Word.TheVariants.{U32}
use Rattle.cg_cmachine_def.specs.BuiltIns.{BuiltIn, new_alone, free, create, free_array, length_of, get, put, called, array_of, next_answer, granted, make_struct, make_array, number_of}
use Rattle.cg_cmachine_def.specs.Layouts.{Layout, pointer}
use Rattle.cg_cmachine_def.specs.Operands.{Value, typed}
use Rattle.cg_cmachine_def.specs.Outcomes.{Judged, ok, no, State, Outcome, done, stuck, needs, astray, lift, spend_for}
use Rattle.cg_ctree.specs.declared.why.Why.{Why}
use Rattle.cg_heap.specs.declared.cell.Fresh.{Fresh}
use Rattle.cg_heap.specs.declared.cell.Fresh.TheVariants as fresh
use Rattle.cg_heap.specs.declared.cell.Scalar.TheVariants.{Address}
use Rattle.cg_heap.specs.Stored.{Stored, changed, with_fresh, without_answer}
use Rattle.cg_value.specs.Fits.{most_elements}

-- no more steps are left than there were, and the run isn't astray
unfoldable pub CalmWithin : {A : Type 0} → ℕ → Outcome A → Type 0
CalmWithin b (done a s left) = left ≤ b
CalmWithin b (stuck why m) = Unit {0}
CalmWithin b (needs m) = Unit {0}
CalmWithin b astray = ⊥

pub calm_done : {A : Type 0} (b : ℕ) (a : A) (s : State) (n : ℕ) → n ≤ b → CalmWithin b (done a s n)
unfolding CalmWithin
calm_done b a s n h = h

calm_stuck : (A : Type 0) (b : ℕ) (why : Why) (m : Stored) → CalmWithin {A = A} b (stuck why m)
unfolding CalmWithin
calm_stuck A b why m = tt

pub calm_lift : {A B : Type 0} (b : ℕ) (m : Stored) (r : Judged A) (f : A → Outcome B) → ((a : A) → CalmWithin b (f a)) → CalmWithin b (lift m r f)
calm_lift b m (ok a) f h = h a
calm_lift b m (no why) f h = calm_stuck _ b why m

calm_spend_for : {A : Type 0} (b : ℕ) (m : Stored) (cost : ℕ) (f : ℕ → Outcome A) → ((n : ℕ) → n ≤ b → CalmWithin b (f n)) → CalmWithin b (spend_for m cost b f)
unfolding CalmWithin
calm_spend_for b m cost f h = by_test (nat_lt b cost)
  where
    by_test : (t : Bool) → CalmWithin b (cond t (needs m) (f (b - cost)))
    by_test true = tt
    by_test false = h (b - cost) (omega arith)

granted_calm : (l : Layout) (q : ℕ) (t : Bool) (f : Fresh) (cost : ℕ) (s : State) (b : ℕ) → CalmWithin b (granted l q t f cost s b)
granted_calm l q true f cost s b =
    calm_spend_for b s.store cost (λ rest. done (Some (typed l (Address (s.store.top + 1) ∷ [])))
    (record { store = with_fresh f (changed without_answer q s.store); made = s.made ++ (s.store.top + 1) ∷ []; freed = s.freed }) rest)
    (λ n h. calm_done b _ _ n h)
granted_calm l q false f cost s b = calm_done b _ _ b (omega arith)

pub make_struct_calm : (x : List ℕ) (slots : ℕ) (v : Value) (s : State) (b : ℕ) → CalmWithin b (make_struct x slots v s b)
make_struct_calm x slots v s b = calm_lift b s.store _ _ (λ q. granted_calm (pointer x) q (next_answer q s.store) (fresh.Slots slots) 0 s b)

make_array_calm : (w : Word) (q n : ℕ) (s : State) (b : ℕ) → CalmWithin b (make_array w q n s b)
make_array_calm w q n s b = granted_calm (array_of w) q (next_answer q s.store && nat_le n most_elements) (fresh.Words n) n s b

-- a built-in, of any operands
pub called_calm : (k : BuiltIn) (wanted : Bool) (vs : List Value) (s : State) (b : ℕ) → CalmWithin b (called k wanted vs s b)
called_calm new_alone wanted vs s b = calm_stuck _ b _ _
called_calm free wanted [] s b = calm_stuck _ b _ _
called_calm free wanted (q ∷ []) s b = calm_stuck _ b _ _
called_calm free wanted (q ∷ p ∷ []) s b = calm_lift b s.store _ _ (λ a. calm_done b _ _ b (omega arith))
called_calm free wanted (q ∷ p ∷ v ∷ vs) s b = calm_stuck _ b _ _
called_calm (create w) wanted [] s b = calm_stuck _ b _ _
called_calm (create w) wanted (q ∷ []) s b = calm_stuck _ b _ _
called_calm (create w) wanted (q ∷ n ∷ []) s b =
    calm_lift b s.store _ (λ a. lift s.store (number_of U32 n) (λ k. make_array w a k s b)) (λ a.
    calm_lift b s.store (number_of U32 n) (λ k. make_array w a k s b) (λ k. make_array_calm w a k s b))
called_calm (create w) wanted (q ∷ n ∷ v ∷ vs) s b = calm_stuck _ b _ _
called_calm (free_array w) wanted [] s b = calm_stuck _ b _ _
called_calm (free_array w) wanted (q ∷ []) s b = calm_stuck _ b _ _
called_calm (free_array w) wanted (q ∷ p ∷ []) s b = calm_lift b s.store _ _ (λ a. calm_done b _ _ b (omega arith))
called_calm (free_array w) wanted (q ∷ p ∷ v ∷ vs) s b = calm_stuck _ b _ _
called_calm (length_of w) wanted [] s b = calm_stuck _ b _ _
called_calm (length_of w) wanted (p ∷ []) s b = calm_lift b s.store _ _ (λ a. calm_done b _ _ b (omega arith))
called_calm (length_of w) wanted (p ∷ v ∷ vs) s b = calm_stuck _ b _ _
called_calm (get w) wanted [] s b = calm_stuck _ b _ _
called_calm (get w) wanted (p ∷ []) s b = calm_stuck _ b _ _
called_calm (get w) wanted (p ∷ i ∷ []) s b = calm_lift b s.store _ _ (λ v. calm_done b _ _ b (omega arith))
called_calm (get w) wanted (p ∷ i ∷ v ∷ vs) s b = calm_stuck _ b _ _
called_calm (put w) wanted [] s b = calm_stuck _ b _ _
called_calm (put w) wanted (p ∷ []) s b = calm_stuck _ b _ _
called_calm (put w) wanted (p ∷ i ∷ []) s b = calm_stuck _ b _ _
called_calm (put w) wanted (p ∷ i ∷ v ∷ []) s b = calm_lift b s.store _ _ (λ m. calm_done b _ _ b (omega arith))
called_calm (put w) wanted (p ∷ i ∷ v ∷ u ∷ vs) s b = calm_stuck _ b _ _
