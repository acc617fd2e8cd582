-- Steps: one behind the other, beside what they leave alone, and as changes of one cell.
use Rattle.std.proofs.Common.{◌≡◌, ℕ, ◌+◌, ◌<◌, ◌≤◌, Bool, true, false, nat_eq, Option, Some, None, List, [], ◌∷◌, ◌++◌, inl, inr, ⊎_elim, refl, sym, ◌∙◌, arith}
use Rattle.std.specs.Option.{IsSome}
use Rattle.cg_base.specs.declared.kind.Sigil.TheVariants.{R, W}
use Rattle.cg_heap.specs.declared.cell.Cell.{Cell}
use Rattle.cg_heap.specs.Reps.{Heap, foot, one_if}
use Rattle.cg_heap.proofs.Listed.{count_append}
use Rattle.cg_heap.specs.Steps.{IsFine, Side, Step, count, side}
use Rattle.cg_heap_laws.specs.StepLaws.{FreedIsExact, FreesAreSteps, HeldIsFine, IsWrittenAt, MakesAreSteps, NothingIsAStep, PartsAreFine, StepsFollow, StepsStandBeside, WritesAreSteps}
use Rattle.cg_heap_laws.proofs.Frames.{by_count, none_is_not}
use Rattle.cg_heap_laws.proofs.Stores.{is_or_not}
use Rattle.cg_heap_laws.proofs.There.{either, foot_there}

-- ---- at one address, by numbers alone

-- a test that counts nothing is false
not_one : (b : Bool) (n : ℕ) → one_if b + n ≡ 0 → b ≡ false
not_one true n e = absurd (omega arith)
not_one false n e = refl

-- an address that is counted is the one
counts_one : (p q : ℕ) → 1 ≤ count q (p ∷ []) → p ≡ q
counts_one p q k = ⊎_elim (λ e. e) (λ e. absurd (let z = rw e at k in omega arith)) (is_or_not p q)

-- a list of one address counts at most one
one_once : (p q : ℕ) → count q (p ∷ []) ≤ 1
one_once p q = at_most (nat_eq p q)
  where
    at_most : (b : Bool) → one_if b + 0 ≤ 1
    at_most true = omega arith
    at_most false = omega arith

-- what isn't written is another address than one that is
not_own : (w : ℕ → ℕ) (p q : ℕ) → 1 ≤ w p → w q ≡ 0 → nat_eq p q ≡ false
not_own w p q k z = ⊎_elim (λ e. absurd (let i = rw e at k in omega arith)) (λ e. e) (is_or_not p q)

-- what the first made and what the second made is made once
both_once : (x y q t : ℕ) → x ≤ 1 → y ≤ 1 → (1 ≤ x → q ≤ t) → (1 ≤ y → t < q) → x + y ≤ 1
both_once x y q t a b c d = grind arith

-- what the first freed isn't written behind it
freed_unwritten : (w r w1 m n : ℕ) → 1 ≤ n → (1 ≤ w → w + r ≤ 1) → n + w1 ≡ w + m → m ≤ 1 → (1 ≤ m → w + r ≡ 0) → w1 ≡ 0
freed_unwritten w r w1 m n a b c d e = grind arith

-- nor made by the second
freed_unmade : (q top top1 w r m n w1 m2 : ℕ) → 1 ≤ n → top ≤ top1 → (top < q → w + r ≡ 0) → n + w1 ≡ w + m → (1 ≤ m → q ≤ top1) → (1 ≤ m2 → top1 < q) → m2 ≡ 0
freed_unmade q top top1 w r m n w1 m2 a b c d e f = grind arith

-- what the rest reaches isn't written by the part
rest_unwritten : (w r w1 w2 r2 : ℕ) → 1 ≤ w2 + r2 → (1 ≤ w → w + r ≤ 1) → w1 + w2 ≡ w → r2 ≤ r → w1 ≡ 0
rest_unwritten w r w1 w2 r2 a b c d = grind arith

-- nor made by it
rest_unmade : (w r w1 w2 r2 m : ℕ) → 1 ≤ w2 + r2 → w1 + w2 ≡ w → r2 ≤ r → (1 ≤ m → w + r ≡ 0) → m ≡ 0
rest_unmade w r w1 w2 r2 m a b c d = grind arith

-- what is read beside the rest was read before
rest_reads : (r r2 x : ℕ) → 1 ≤ x + r2 → r2 ≤ r → (1 ≤ x → 1 ≤ r) → 1 ≤ r
rest_reads r r2 x a b c = grind arith

-- a part is apart where the whole is
part_apart : (w r w1 r1 w2 : ℕ) → 1 ≤ w1 → (1 ≤ w → w + r ≤ 1) → w1 + w2 ≡ w → r1 ≤ r + w2 → w1 + r1 ≤ 1
part_apart w r w1 r1 w2 a b c d = grind arith

-- and so is the rest
rest_apart : (w r w1 w2 r2 : ℕ) → 1 ≤ w2 → (1 ≤ w → w + r ≤ 1) → w1 + w2 ≡ w → r2 ≤ r → w2 + r2 ≤ 1
rest_apart w r w1 w2 r2 a b c d = grind arith

-- what is freed is freed once
freed_once : (w r w1 m n : ℕ) → (1 ≤ w → w + r ≤ 1) → n + w1 ≡ w + m → m ≤ 1 → (1 ≤ m → w + r ≡ 0) → n ≤ 1
freed_once w r w1 m n a b c d = grind arith

-- ---- one behind the other

module _ (a b c : Side) (made freed made' freed' : List ℕ) (f : IsFine a) (s : Step a made freed b) (t : Step b made' freed' c) where
  then_lost : (q : ℕ) → 1 ≤ count q freed + count q freed' → c.heap q ≡ None
  then_lost q k = ⊎_elim
      (λ n. t.inert q
      (freed_unwritten (a.writes q) (a.reads q) (b.writes q) (count q made) (count q freed) n (f.apart q) (s.balance q) (s.once q) (λ m. f.low q (s.fresh q m).0))
      (freed_unmade q a.top b.top (a.writes q) (a.reads q) (count q made) (count q freed) (b.writes q) (count q made') n s.rise (f.low q) (s.balance q)
      (λ m. (s.fresh q m).1) (λ m. (t.fresh q m).0)) ∙ s.lost q n)
      (λ n. t.lost q n)
      (either (count q freed) (count q freed') k)

  then_fresh : (q : ℕ) → 1 ≤ count q made + count q made' → (a.top < q) × (q ≤ c.top)
  then_fresh q k = ⊎_elim
      (λ n. let x = s.fresh q n in let y = t.rise in (x.0, omega arith))
      (λ n. let x = t.fresh q n in let y = s.rise in (omega arith, x.1))
      (either (count q made) (count q made') k)

pub steps_follow : StepsFollow
steps_follow a b c made freed made' freed' f s t = record {
  rise = omega (arith, s.rise, t.rise);
  above = t.above;
  reads_less = λ q k. s.reads_less q (t.reads_less q k);
  balance = λ q. rw (count_append q made made', count_append q freed freed') (omega (arith, s.balance q, t.balance q));
  inert = λ q z n. let m = count_append q made made' in t.inert q (omega (arith, s.balance q)) (omega arith) ∙ s.inert q z (omega arith);
  lost = λ q k. then_lost a b c made freed made' freed' f s t q (rw (count_append q freed freed') at k);
  fresh = λ q k. then_fresh a b c made freed made' freed' f s t q (rw (count_append q made made') at k);
  once = λ q. rw (count_append q made made')
      (both_once (count q made) (count q made') q b.top (s.once q) (t.once q) (λ k. (s.fresh q k).1) (λ k. (t.fresh q k).0));
}

-- ---- beside the rest

pub steps_stand_beside : StepsStandBeside
steps_stand_beside h h' top top' made freed w r w1 r1 w2 r2 w' r' f sum rest seen s back = (
  record {
    rise = s.rise;
    above = s.above;
    reads_less = λ q k. rest_reads (r q) (r2 q) (r' q) k (rest q) (back q);
    balance = λ q. omega (arith, sum q, s.balance q);
    inert = λ q z n. s.inert q (omega (arith, sum q)) n;
    lost = s.lost;
    fresh = s.fresh;
    once = s.once;
  },
  λ q k. s.inert q
      (rest_unwritten (w q) (r q) (w1 q) (w2 q) (r2 q) k (f.apart q) (sum q) (rest q))
      (rest_unmade (w q) (r q) (w1 q) (w2 q) (r2 q) (count q made) k (sum q) (rest q) (λ m. f.low q (s.fresh q m).0)),
)

pub parts_are_fine : PartsAreFine
parts_are_fine h top w r w1 r1 w2 r2 f sum rest seen = (
  record {
    apart = λ q k. part_apart (w q) (r q) (w1 q) (r1 q) (w2 q) k (f.apart q) (sum q) (seen q);
    low = λ q k. omega (arith, f.low q k, sum q, seen q);
    above = f.above;
  },
  record {
    apart = λ q k. rest_apart (w q) (r q) (w1 q) (w2 q) (r2 q) k (f.apart q) (sum q) (rest q);
    low = λ q k. omega (arith, f.low q k, sum q, rest q);
    above = f.above;
  },
)

-- ---- the changes of one cell

pub nothing_is_a_step : NothingIsAStep
nothing_is_a_step h top w r w' r' f e b = record {
  rise = omega arith;
  above = f.above;
  reads_less = b;
  balance = λ q. omega (arith, e q);
  inert = λ q z n. refl;
  lost = λ q k. absurd (omega arith);
  fresh = λ q k. absurd (omega arith);
  once = λ q. omega arith;
}

-- an own cell is replaced by whatever there is
pub own_is_replaced : (h h' : Heap) (top p : ℕ) (o : Option Cell) (w r w' r' : ℕ → ℕ) → IsFine (side h top w r) → 1 ≤ w p → IsWrittenAt h p o h'
    → ((q : ℕ) → w' q ≡ w q) → ((q : ℕ) → 1 ≤ r' q → 1 ≤ r q) → Step (side h top w r) [] [] (side h' top w' r')
own_is_replaced h h' top p o w r w' r' f own is e b = record {
  rise = omega arith;
  above = λ q k. (is q).1 (not_own w p q own (omega (arith, f.low q k))) ∙ f.above q k;
  reads_less = b;
  balance = λ q. omega (arith, e q);
  inert = λ q z n. (is q).1 (not_own w p q own z);
  lost = λ q k. absurd (omega arith);
  fresh = λ q k. absurd (omega arith);
  once = λ q. omega arith;
}

pub writes_are_steps : WritesAreSteps
writes_are_steps h h' top p c = own_is_replaced h h' top p (Some c)

pub frees_are_steps : FreesAreSteps
frees_are_steps h h' top p w r w' r' f is e b = record {
  rise = omega arith;
  above = λ q k. (is q).1 (not_one (nat_eq p q) (w' q) (omega (arith, f.low q k, e q))) ∙ f.above q k;
  reads_less = b;
  balance = λ q. omega (arith, e q);
  inert = λ q z n. (is q).1 (not_one (nat_eq p q) (w' q) (sym (e q) ∙ z));
  lost = λ q k. (is q).0 (counts_one p q k);
  fresh = λ q k. absurd (omega arith);
  once = λ q. omega arith;
}

-- whatever there is above all others is made
pub next_is_made : (h h' : Heap) (top : ℕ) (o : Option Cell) (w r w' r' : ℕ → ℕ) → IsFine (side h top w r) → IsWrittenAt h (top + 1) o h'
    → ((q : ℕ) → w' q ≡ w q + one_if (nat_eq (top + 1) q)) → ((q : ℕ) → 1 ≤ r' q → 1 ≤ r q)
    → Step (side h top w r) ((top + 1) ∷ []) [] (side h' (top + 1) w' r')
next_is_made h h' top o w r w' r' f is e b = record {
  rise = omega arith;
  above = λ q k. (is q).1 (⊎_elim (λ e. absurd (omega arith)) (λ e. e) (is_or_not (top + 1) q)) ∙ f.above q (omega arith);
  reads_less = b;
  balance = λ q. omega (arith, e q);
  inert = λ q z n. (is q).1 (not_one (nat_eq (top + 1) q) 0 n);
  lost = λ q k. absurd (omega arith);
  fresh = λ q k. let e = counts_one (top + 1) q k in (omega arith, omega arith);
  once = λ q. one_once (top + 1) q;
}

pub makes_are_steps : MakesAreSteps
makes_are_steps h h' top c = next_is_made h h' top (Some c)

-- ---- what is freed, and what is fine

pub freed_is_exact : FreedIsExact
freed_is_exact before after made freed f s q = (
  freed_once (before.writes q) (before.reads q) (after.writes q) (count q made) (count q freed) (f.apart q) (s.balance q) (s.once q) (λ m. f.low q (s.fresh q m).0),
  (
    λ k. (
      by_count (before.writes q) (λ z. inr (let b = s.balance q in omega arith)) (λ n. inl n),
      freed_unwritten (before.writes q) (before.reads q) (after.writes q) (count q made) (count q freed) k (f.apart q) (s.balance q) (s.once q) (λ m. f.low q (s.fresh q m).0),
    ),
    λ p. let b = s.balance q in ⊎_elim (λ n. let z = p.1 in omega arith) (λ n. let z = p.1 in omega arith) p.0,
  ),
)

pub held_is_fine : HeldIsFine
held_is_fine world h top t us v holds apart above = record {
  apart = apart;
  low = λ q k. by_count (foot h W t us q + foot h R t us q) (λ e. e) (λ n. absurd (none_is_not (h q) (there q n) (above q k)));
  above = above;
}
  where
    there : (q : ℕ) → 1 ≤ foot h W t us q + foot h R t us q → IsSome (h q)
    there q n = ⊎_elim (λ n. (foot_there world h t us v holds W q n).1) (λ n. (foot_there world h t us v holds R q n).1) (either (foot h W t us q) (foot h R t us q) n)
