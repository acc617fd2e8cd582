-- A search comes to its end, so that each graph has marks of what it reaches from a node.
use Rattle.std.proofs.Common.{◌≡◌, ◌⊎◌, inl, inr, ⊎_elim, ℕ, zero, suc, ◌<◌, ◌+◌, Bool, List, [], ◌∷◌, ◌++◌, length, get_or, replicate, set, false, true, refl, ap, subst, arith}
use Rattle.cg_graphs.specs.Reached.{Reached, reached, mark_all, IsSearch}
use Rattle.cg_graphs.proofs.ReachSteps.{goes_on, left, lessens, search_start}
use Rattle.cg_graphs.specs.ReachLaws.{MarksAreThere}
use Rattle.cg_graphs.proofs.Found.{found}

-- a list is empty or has a last element
abbrev Ends : List ℕ → Type 0
Ends work = (work ≡ []) ⊎ ((rest : List ℕ) × (at : ℕ) × (work ≡ rest ++ at ∷ []))

ends_more : (i : ℕ) (work : List ℕ) → Ends work → Ends (i ∷ work)
ends_more i work (inl e) = inr ([], i, ap (λ w. i ∷ w) e)
ends_more i work (inr e) = inr (i ∷ e.0, e.1, ap (λ w. i ∷ w) e.2)

ends : (work : List ℕ) → Ends work
ends [] = inl refl
ends (i ∷ work) = ends_more i work (ends work)

module _ (edges : List (List ℕ)) (from : ℕ) where
  abbrev IsDone : Type 0
  IsDone = (marks : List Bool) × IsSearch edges from (reached marks [])

  abbrev next : List ℕ → Reached → ℕ → Reached
  next rest r at = mark_all (reached r.marks rest) (get_or edges at [])

  goes : (bound : ℕ) (r : Reached) → left r < bound → IsSearch edges from r → IsDone
  goes zero r lt s = absurd (omega arith)
  goes (suc bound) r lt s =
      ⊎_elim (λ e. (r.marks, subst (λ w. IsSearch edges from (reached r.marks w)) e s))
      (λ e. goes bound (next e.0 r e.1) (let less = lessens r.marks r.work e.0 (get_or edges e.1 []) e.1 (next e.0 r e.1) e.2 refl in omega arith)
      (goes_on edges from r.marks r.work e.0 (get_or edges e.1 []) e.1 (next e.0 r e.1) e.2 refl refl s))
      (ends r.work)

  abbrev first : Reached
  first = mark_all (reached (replicate (length edges) false) []) (get_or edges from [])

  done : IsDone
  done = goes (left first + 1) first (omega arith) (search_start edges from (length edges) refl)

pub marks_are_there : MarksAreThere
marks_are_there edges from = let d = done edges from in (set d.0 from true, found edges from d.0 d.1)
