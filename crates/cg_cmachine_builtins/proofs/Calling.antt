-- A call is its operands judged, and then what it does.
use Rattle.std.proofs.Common.{◌≡◌, ℕ, Bool, List, [], ◌∷◌, refl, ◌∙◌}
use Rattle.cg_base.specs.declared.kind.Word.TheVariants.{U32}
use Rattle.cg_cmachine_def.specs.BuiltIns.{BuiltIn, new_alone, free, create, free_array, length_of, get, put, allocator, array_of, is_there, pointer_of, number_of, element_at, with_element_at, as_asked, called}
use Rattle.cg_cmachine_def.specs.Operands.{Value, address_in}
use Rattle.cg_cmachine_def.specs.Outcomes.{Judged, ok, no, on, State, Outcome, stuck, lift}
use Rattle.cg_ctree.specs.declared.why.Why.{Why}
use Rattle.cg_heap.specs.Stored.{Stored}
use Rattle.cg_cmachine_builtins.specs.Acts.{Act, acts, perform}

-- what follows a part that both judge
beside : {A B C D : Type 0} (m : Stored) (x : Judged A) (f : A → Judged B) (g : B → Outcome D) (f' : A → Judged C) (g' : C → Outcome D) → ((a : A) → lift m (f a) g ≡ lift m (f' a) g')
    → lift m (on x f) g ≡ lift m (on x f') g'
beside m (ok a) f g f' g' h = h a
beside m (no why) f g f' g' h = refl

-- what is judged behind it
behind : {B C D : Type 0} (m : Stored) (x : Judged B) (g : B → Outcome D) (f' : B → Judged C) (g' : C → Outcome D) → ((b : B) → g b ≡ lift m (f' b) g') → lift m x g ≡ lift m (on x f') g'
behind m (ok b) g f' g' h = h b
behind m (no why) g f' g' h = refl

pub called_is : (b : BuiltIn) (wanted : Bool) (vs : List Value) (s : State) (left : ℕ) → called b wanted vs s left ≡ lift s.store (acts s.store b wanted vs) (λ a. perform a s left)
called_is free wanted (q ∷ p ∷ []) s left =
    beside s.store (is_there s.store q) _ _ _ _ (λ _. beside s.store (is_there s.store p) _ _ _ _ (λ _. beside s.store (pointer_of allocator q) _ _ _ _ (λ _.
    beside s.store (address_in p) _ _ _ _ (λ a. beside s.store (as_asked wanted) _ _ _ _ (λ _. refl)))))
called_is (free_array w) wanted (q ∷ p ∷ []) s left =
    beside s.store (is_there s.store q) _ _ _ _ (λ _. beside s.store (is_there s.store p) _ _ _ _ (λ _. beside s.store (pointer_of allocator q) _ _ _ _ (λ _.
    beside s.store (pointer_of (array_of w) p) _ _ _ _ (λ a. beside s.store (as_asked wanted) _ _ _ _ (λ _. refl)))))
called_is (create w) wanted (q ∷ n ∷ []) s left =
    beside s.store (is_there s.store q) _ _ _ _ (λ _. behind s.store (pointer_of allocator q) _ _ _ (λ a. behind s.store (number_of U32 n) _ _ _ (λ k. refl)))
called_is (length_of w) wanted (p ∷ []) s left =
    beside s.store (is_there s.store p) _ _ _ _ (λ _. behind s.store (pointer_of (array_of w) p) _ _ _ (λ a. refl))
called_is (get w) wanted (p ∷ i ∷ []) s left =
    beside s.store (is_there s.store p) _ _ _ _ (λ _. beside s.store (pointer_of (array_of w) p) _ _ _ _ (λ a. beside s.store (number_of U32 i) _ _ _ _ (λ k.
    behind s.store (element_at w a k s.store) _ _ _ (λ v. refl))))
called_is (put w) wanted (p ∷ i ∷ v ∷ []) s left =
    beside s.store (is_there s.store p) _ _ _ _ (λ _. beside s.store (pointer_of (array_of w) p) _ _ _ _ (λ a. beside s.store (number_of U32 i) _ _ _ _ (λ k.
    beside s.store (number_of w v) _ _ _ _ (λ n. beside s.store (as_asked wanted) _ _ _ _ (λ _. behind s.store (with_element_at a k n s.store) _ _ _ (λ m. refl))))))
called_is new_alone wanted vs s left = refl
called_is free wanted [] s left = refl
called_is free wanted (q ∷ []) s left = refl
called_is free wanted (q ∷ p ∷ v ∷ vs) s left = refl
called_is (free_array w) wanted [] s left = refl
called_is (free_array w) wanted (q ∷ []) s left = refl
called_is (free_array w) wanted (q ∷ p ∷ v ∷ vs) s left = refl
called_is (create w) wanted [] s left = refl
called_is (create w) wanted (q ∷ []) s left = refl
called_is (create w) wanted (q ∷ p ∷ v ∷ vs) s left = refl
called_is (length_of w) wanted [] s left = refl
called_is (length_of w) wanted (q ∷ p ∷ vs) s left = refl
called_is (get w) wanted [] s left = refl
called_is (get w) wanted (q ∷ []) s left = refl
called_is (get w) wanted (q ∷ p ∷ v ∷ vs) s left = refl
called_is (put w) wanted [] s left = refl
called_is (put w) wanted (q ∷ []) s left = refl
called_is (put w) wanted (q ∷ p ∷ []) s left = refl
called_is (put w) wanted (q ∷ p ∷ v ∷ u ∷ vs) s left = refl

-- where the operands are refused
pub called_stuck : (b : BuiltIn) (wanted : Bool) (vs : List Value) (s : State) (left : ℕ) (why : Why) → acts s.store b wanted vs ≡ no why → called b wanted vs s left ≡ stuck why s.store
called_stuck b wanted vs s left why e = called_is b wanted vs s left ∙ rw e refl

-- and where they are what is asked for
pub called_does : (b : BuiltIn) (wanted : Bool) (vs : List Value) (s : State) (left : ℕ) (a : Act) → acts s.store b wanted vs ≡ ok a → called b wanted vs s left ≡ perform a s left
called_does b wanted vs s left a e = called_is b wanted vs s left ∙ rw e refl
