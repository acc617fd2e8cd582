-- The changes of a heap that the library makes, as steps.
use Rattle.std.proofs.Common.{◌≡◌, ℕ, ◌+◌, ◌<◌, ◌≤◌, Bool, true, false, nat_eq, Option, None, [], ◌∷◌, ⊎_elim, refl, sym, ◌∙◌, subst, arith}
use Rattle.cg_heap.specs.declared.cell.Cell.{Cell}
use Rattle.cg_heap.specs.Reps.{Heap, one_if}
use Rattle.cg_heap.specs.Steps.{IsFine, Step, count, side}
use Rattle.cg_heap_laws.specs.LibraryLaws.{StepsAreFrames, StepsKeepFine}
use Rattle.cg_heap_laws.specs.StepLaws.{IsWrittenAt}
use Rattle.cg_heap_laws.proofs.Frames.{by_count}
use Rattle.cg_heap_laws.proofs.Steps.{frees_are_steps, next_is_made, nothing_is_a_step, own_is_replaced, steps_follow}
use Rattle.cg_heap_laws.proofs.Stores.{IsWritten, is_or_not, written_here, written_other}
use Rattle.cg_base.proofs.Counts.{eqb_same as eq_self}

-- a step is a frame of what it writes
pub step_frame : StepsAreFrames
step_frame before after made freed f s = record {
  inert = λ q z n. by_count (count q made)
      (λ e. s.inert q z e)
      (λ k. let b = s.balance q in s.lost q (omega arith) ∙ sym (f.above q (s.fresh q k).0));
  freed = λ q k n. let b = s.balance q in s.lost q (omega arith);
  fresh = λ q k z. let b = s.balance q in f.above q (s.fresh q (omega arith)).0;
}

-- at one address, by numbers alone
apart_after : (w r w1 r1 m n : ℕ) → 1 ≤ w1 → (1 ≤ w → w + r ≤ 1) → n + w1 ≡ w + m → (1 ≤ m → w + r ≡ 0) → m ≤ 1 → (1 ≤ r1 → 1 ≤ r) → w1 + r1 ≤ 1
apart_after w r w1 r1 m n a b c d e f = grind arith

low_after : (q t w r w1 r1 m n : ℕ) → w + r ≡ 0 → n + w1 ≡ w + m → (1 ≤ m → q ≤ t) → t < q → (1 ≤ r1 → 1 ≤ r) → w1 + r1 ≡ 0
low_after q t w r w1 r1 m n a b c d e = grind arith

-- after a step all is fine again
pub step_fine : StepsKeepFine
step_fine before after made freed f s = record {
  apart = λ q k. apart_after (before.writes q) (before.reads q) (after.writes q) (after.reads q) (count q made) (count q freed) k (f.apart q) (s.balance q) (λ n. f.low q (s.fresh q n).0) (s.once q) (s.reads_less q);
  low = λ q k. low_after q after.top (before.writes q) (before.reads q) (after.writes q) (after.reads q) (count q made) (count q freed) (f.low q (let x = s.rise in omega arith)) (s.balance q) (λ n. (s.fresh q n).1) k (s.reads_less q);
  above = s.above;
}

-- ---- where nothing is read behind it

none_read : (r r' : ℕ → ℕ) → ((q : ℕ) → r' q ≡ 0) → (q : ℕ) → 1 ≤ r' q → 1 ≤ r q
none_read r r' z q k = absurd (let x = z q in omega arith)

-- what is written at an address, in both forms
written_at : (h : Heap) (p : ℕ) (o : Option Cell) (h' : Heap) → IsWritten h p o h' → IsWrittenAt h p o h'
written_at h p o h' is q = (λ e. subst (λ q. h' q ≡ o) e (written_here h h' p o is), λ n. written_other h h' p o is q n)

-- an owned address is written
own_written : (p : ℕ) (w x : ℕ → ℕ) → ((q : ℕ) → w q ≡ one_if (nat_eq p q) + x q) → 1 ≤ w p
own_written p w x own = let e : w p ≡ 1 + x p = own p ∙ rw (eq_self p) refl in omega arith

-- nothing is done
pub step_kept : (h : Heap) (top : ℕ) (w r w' r' : ℕ → ℕ) → IsFine (side h top w r) → ((q : ℕ) → w' q ≡ w q) → ((q : ℕ) → r' q ≡ 0) → Step (side h top w r) [] [] (side h top w' r')
step_kept h top w r w' r' f e z = nothing_is_a_step h top w r w' r' f e (none_read r r' z)

module _ (h h' : Heap) (top p : ℕ) (o : Option Cell) (w r x : ℕ → ℕ) (f : IsFine (side h top w r)) (own : (q : ℕ) → w q ≡ one_if (nat_eq p q) + x q) (is : IsWritten h p o h') where
  -- what else is owned is as it was
  pub write_near : (q : ℕ) → 1 ≤ x q → h' q ≡ h q
  write_near q k = written_other h h' p o is q (other (nat_eq p q) (w q) (r q) (x q) k (own q) (f.apart q))
    where
      other : (b : Bool) (w r x : ℕ) → 1 ≤ x → w ≡ one_if b + x → (1 ≤ w → w + r ≤ 1) → b ≡ false
      other true w r x k e a = absurd (let z = a (omega arith) in omega arith)
      other false w r x k e a = refl

  -- an owned cell is written
  pub step_write : (w' r' : ℕ → ℕ) → ((q : ℕ) → w' q ≡ w q) → ((q : ℕ) → r' q ≡ 0) → Step (side h top w r) [] [] (side h' top w' r')
  step_write w' r' e z = own_is_replaced h h' top p o w r w' r' f (own_written p w x own) (written_at h p o h' is) e (none_read r r' z)

-- an owned cell is freed
pub step_free : (h h' : Heap) (top p : ℕ) (w r x : ℕ → ℕ) → IsFine (side h top w r) → ((q : ℕ) → w q ≡ one_if (nat_eq p q) + x q) → IsWritten h p None h'
    → (w' r' : ℕ → ℕ) → ((q : ℕ) → w' q ≡ x q) → ((q : ℕ) → r' q ≡ 0) → Step (side h top w r) [] (p ∷ []) (side h' top w' r')
step_free h h' top p w r x f own is w' r' e z =
    frees_are_steps h h' top p w r w' r' f (written_at h p None h' is) (λ q. let a = own q in let b = e q in omega arith) (none_read r r' z)

-- an owned cell is written, and then a cell is made above all others
module _ (h h1 h' : Heap) (top p : ℕ) (o c : Option Cell) (w r : ℕ → ℕ) (f : IsFine (side h top w r)) (own : (q : ℕ) → w q ≡ one_if (nat_eq p q) + 0)
    (is : IsWritten h p o h1) (is' : IsWritten h1 (top + 1) c h') where
  -- the owned cell isn't the one that is made
  pub make_near : h' p ≡ h1 p
  make_near =
      let k = own_written p w (λ q. 0) own in
      written_other h1 h' (top + 1) c is' p (⊎_elim (λ e. absurd (let z = f.low p (omega arith) in omega arith)) (λ e. e) (is_or_not (top + 1) p))

  own_step : Step (side h top w r) [] [] (side h1 top w r)
  own_step = own_is_replaced h h1 top p o w r w r f (own_written p w (λ q. 0) own) (written_at h p o h1 is) (λ q. refl) (λ q k. k)

  pub step_make : (w' r' : ℕ → ℕ) → ((q : ℕ) → w' q ≡ one_if (nat_eq p q) + one_if (nat_eq (top + 1) q)) → ((q : ℕ) → r' q ≡ 0)
      → Step (side h top w r) ((top + 1) ∷ []) [] (side h' (top + 1) w' r')
  step_make w' r' e z = steps_follow (side h top w r) (side h1 top w r) (side h' (top + 1) w' r') [] [] ((top + 1) ∷ []) [] f own_step
      (next_is_made h1 h' top c w r w' r' (step_fine (side h top w r) (side h1 top w r) [] [] f own_step) (written_at h1 (top + 1) c h' is')
      (λ q. let a = e q in let b = own q in omega arith) (none_read r r' z))
