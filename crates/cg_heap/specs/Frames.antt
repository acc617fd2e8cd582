-- What a call may do to a heap (the paper's frame conditions; docs/LANGUAGE.md, "Layout").
use Rattle.std.specs.Prelude.{◌≡◌, ℕ, ◌≤◌, None}
use Rattle.cg_heap.specs.Reps.{Heap}

-- From what may be written before to what may be written after: all else is as it was; what is given up is no longer there; and
-- what is new wasn't there.
pub record Frame (h : Heap) (writes : ℕ → ℕ) (h' : Heap) (writes' : ℕ → ℕ) : Type 0 where
  pub inert : (q : ℕ) → writes q ≡ 0 → writes' q ≡ 0 → h' q ≡ h q
  pub freed : (q : ℕ) → 1 ≤ writes q → writes' q ≡ 0 → h' q ≡ None
  pub fresh : (q : ℕ) → 1 ≤ writes' q → writes q ≡ 0 → h q ≡ None
