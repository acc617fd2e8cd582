-- Frames one behind the other, and beside what they leave alone.
use Rattle.std.proofs.Common.{◌≡◌, ℕ, zero, suc, ◌+◌, ◌≤◌, Option, None, refl, sym, ◌∙◌, arith}
use Rattle.std.specs.Option.{IsSome}
use Rattle.cg_heap.specs.Frames.{Frame}
use Rattle.cg_heap.specs.Reps.{Heap}
use Rattle.cg_heap_laws.specs.Laws.{FramesStandBeside}

-- a count is none, or one at least
pub by_count : {A : Type 0} → (n : ℕ) → (n ≡ 0 → A) → (1 ≤ n → A) → A
by_count zero none some = none refl
by_count (suc n) none some = some (omega arith)

pub none_is_not : {A : Type 0} → (o : Option A) → IsSome o → o ≡ None → ⊥
none_is_not o s n = cc

-- nothing is done, and the same may be written
pub frame_none : (h : Heap) (w w' : ℕ → ℕ) → ((q : ℕ) → w' q ≡ w q) → Frame h w h w'
frame_none h w w' e = record {
  inert = λ q z n. refl;
  freed = λ q k z. let i = e q in absurd (omega arith);
  fresh = λ q k z. let i = e q in absurd (omega arith);
}

-- a frame between heaps and footprints that are pointwise the same as others
pub frame_as : (h h' : Heap) (w w' x x' : ℕ → ℕ) → Frame h w h' w' → ((q : ℕ) → x q ≡ w q) → ((q : ℕ) → x' q ≡ w' q) → Frame h x h' x'
frame_as h h' w w' x x' f e e' = record {
  inert = λ q z n. f.inert q (sym (e q) ∙ z) (sym (e' q) ∙ n);
  freed = λ q k z. let i = e q in f.freed q (omega arith) (sym (e' q) ∙ z);
  fresh = λ q k z. let i = e' q in f.fresh q (omega arith) (sym (e q) ∙ z);
}

-- where nothing is written, before or after, the heap is as it was
pub frame_empty : (h h' : Heap) (w w' : ℕ → ℕ) → Frame h w h' w' → ((q : ℕ) → w q ≡ 0) → ((q : ℕ) → w' q ≡ 0) → (q : ℕ) → h' q ≡ h q
frame_empty h h' w w' f z z' q = f.inert q (z q) (z' q)

-- two changes, one behind the other
pub frame_then : (h h' h'' : Heap) (w w' w'' : ℕ → ℕ) → Frame h w h' w' → Frame h' w' h'' w'' → Frame h w h'' w''
frame_then h h' h'' w w' w'' f g = record {
  inert = λ q z n. by_count (w' q)
      (λ e. g.inert q e n ∙ f.inert q z e)
      (λ k. g.freed q k n ∙ sym (f.fresh q k z));
  freed = λ q k n. by_count (w' q)
      (λ e. g.inert q e n ∙ f.freed q k e)
      (λ i. g.freed q i n);
  fresh = λ q k z. by_count (w' q)
      (λ e. sym (f.inert q z e) ∙ g.fresh q k e)
      (λ i. f.fresh q i z);
}

module _ (h h' : Heap) (w w' : ℕ → ℕ) (f : Frame h w h' w') (x : ℕ → ℕ) (there : (q : ℕ) → 1 ≤ x q → IsSome (h q)) (apart : (q : ℕ) → 1 ≤ x q → w q ≡ 0) where
  -- what another part reaches, apart from what is written and there before, is apart from what is written after
  pub frame_apart : (q : ℕ) → 1 ≤ x q → w' q ≡ 0
  frame_apart q k = by_count (w' q) (λ e. e) (λ i. absurd (none_is_not (h q) (there q k) (f.fresh q i (apart q k))))

  -- and is as it was
  pub frame_near : (q : ℕ) → 1 ≤ x q → h' q ≡ h q
  frame_near q k = f.inert q (apart q k) (frame_apart q k)

-- a change, with what another part may write beside it
pub frame_beside : (h h' : Heap) (w w' x : ℕ → ℕ) → Frame h w h' w' → Frame h (λ q. w q + x q) h' (λ q. w' q + x q)
frame_beside h h' w w' x f = record {
  inert = λ q z n. f.inert q (omega arith) (omega arith);
  freed = λ q k n. f.freed q (omega arith) (omega arith);
  fresh = λ q k z. f.fresh q (omega arith) (omega arith);
}

-- and leaves that part as it was
pub frame_aside : FramesStandBeside
frame_aside h h' w w' f x there apart =
    (frame_beside h h' w w' x f, λ q k. (frame_apart h h' w w' f x there apart q k, frame_near h h' w w' f x there apart q k))
