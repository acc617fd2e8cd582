-- Words that a hole among others doesn't have.
use Rattle.std.specs.Prelude.{ℕ, ◌+◌, ◌≤◌, ◌⊎◌, All, List}
use Rattle.cg_flat.specs.declared.span.Hole.{Hole}

-- each of these holes ends before it, or starts behind it
abbrev pub AreAround : Hole → List Hole → Type 0
AreAround x hs = All (λ h. (h.start + h.count ≤ x.start) ⊎ (x.start + x.count ≤ h.start)) hs

-- each of these holes ends at n or before it
abbrev pub AreWithin : ℕ → List Hole → Type 0
AreWithin n hs = All (λ h. h.start + h.count ≤ n) hs
