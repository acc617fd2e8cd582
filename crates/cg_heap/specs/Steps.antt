-- What a call does to a heap, with what it makes and what it frees, in the form in which calls follow each other: from what may be written
-- and read before to what may be written and read after.
use Rattle.std.specs.Prelude.{◌≡◌, ℕ, ◌+◌, ◌<◌, ◌≤◌, nat_eq, List, [], ◌∷◌, None}
use Rattle.cg_heap.specs.Reps.{AreApart, Heap, one_if}

-- how often an address stands in a list
abbrev pub count : ℕ → List ℕ → ℕ
count q [] = 0
count q (p ∷ ps) = one_if (nat_eq p q) + count q ps

-- what there is before a call, or after it: a heap, the highest address that it ever held, and how often each address may be written and read
pub record Side : Type 0 where
  pub heap : Heap
  pub top : ℕ
  pub writes : ℕ → ℕ
  pub reads : ℕ → ℕ

abbrev pub side : Heap → ℕ → (ℕ → ℕ) → (ℕ → ℕ) → Side
side heap top writes reads = record { heap = heap; top = top; writes = writes; reads = reads }

-- before a call: parts are apart, and neither footprints nor cells lie above the highest address ever held
pub record IsFine (s : Side) : Type 0 where
  pub apart : AreApart s.writes s.reads
  pub low : (q : ℕ) → s.top < q → s.writes q + s.reads q ≡ 0
  pub above : (q : ℕ) → s.top < q → s.heap q ≡ None

-- from one side to another, with the addresses made and freed
pub record Step (before : Side) (made freed : List ℕ) (after : Side) : Type 0 where
  pub rise : before.top ≤ after.top
  pub above : (q : ℕ) → after.top < q → after.heap q ≡ None
  pub reads_less : (q : ℕ) → 1 ≤ after.reads q → 1 ≤ before.reads q
  -- what is freed is what was written or made and isn't written any more, each once
  pub balance : (q : ℕ) → count q freed + after.writes q ≡ before.writes q + count q made
  pub inert : (q : ℕ) → before.writes q ≡ 0 → count q made ≡ 0 → after.heap q ≡ before.heap q
  pub lost : (q : ℕ) → 1 ≤ count q freed → after.heap q ≡ None
  pub fresh : (q : ℕ) → 1 ≤ count q made → (before.top < q) × (q ≤ after.top)
  pub once : (q : ℕ) → count q made ≤ 1
