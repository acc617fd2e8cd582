-- What is asked of what is met, so that what is read represents its value.
use Rattle.std.proofs.Common.{◌≡◌, ℕ, ◌+◌, ◌<◌, ◌≤◌, List, [], ◌∷◌, ◌++◌, length, Option, Some, None, refl, arith}
use Rattle.cg_base.specs.declared.kind.Sigil.{Sigil}
use Rattle.cg_base.specs.Types.{Tau}
use Rattle.cg_heap.specs.Reps.{Heap}
use Rattle.cg_value.specs.Fits.{most_elements}
use Rattle.cg_heaptext_def.specs.Footprints.{reached, sigil_of}
use Rattle.cg_heaptext_def.specs.Reading.{Event, misfit, counted, mention, held_at, misfit_cell}
use Rattle.cg_heap.specs.Reps as reps
use Rattle.cg_heaptext_def.specs.Trees as written
use Rattle.cg_heaptext_def.specs.Trees.{amount, Cell, elements, answers}
use Rattle.cg_heaptext_laws.proofs.Each.{Each}
use Rattle.cg_heaptext_laws.proofs.Events.{IsPlain}

-- an array has no more elements than it may
abbrev pub IsSmall : Cell → Type 0
IsSmall (written.slots p fs) = Unit {0}
IsSmall (elements p ns) = length ns ≤ most_elements
IsSmall (answers p bs) = Unit {0}

module _ (cells : ℕ → Option Cell) (heap : Heap) where
  -- the heap holds what a cell holds that is read at a type
  pub record IsHeld (q : ℕ) (t : Tau) : Type 0 where
    pub cell : Cell
    pub there : cells q ≡ Some cell
    pub held : heap q ≡ Some (held_at (Some t) cell)
    pub above : 1 ≤ q
    pub small : IsSmall cell

  -- no misfit, a number below its bound, or a mention of a cell that is held
  abbrev pub IsFine : Event → Type 0
  IsFine (misfit p) = ⊥
  IsFine (counted n bound) = amount n < bound
  IsFine (mention p q t) = IsHeld q t

  abbrev pub AreFine : List Event → Type 0
  AreFine es = Each IsFine es

  -- a cell that is there isn't met
  pub cell_is_fine : (c : Cell) (o : Option Cell) → o ≡ Some c → AreFine (misfit_cell o) → ⊥
  cell_is_fine c None e f = absurd (cc)
  cell_is_fine c (Some d) e f = f.0

-- ---- how often an address is reached

-- where nothing is mentioned, nothing is reached
pub reached_plain : (m : Sigil) (es : List Event) (q : ℕ) → Each IsPlain es → reached m es q ≡ 0
reached_plain m [] q h = refl
reached_plain m (misfit p ∷ es) q h = reached_plain m es q h.1
reached_plain m (counted n bound ∷ es) q h = reached_plain m es q h.1
reached_plain m (mention p r t ∷ es) q h = absurd h.0

pub reached_both : (m : Sigil) (es fs : List Event) (q : ℕ) → reached m (es ++ fs) q ≡ reached m es q + reached m fs q
reached_both m [] fs q = omega arith
reached_both m (misfit p ∷ es) fs q = reached_both m es fs q
reached_both m (counted n bound ∷ es) fs q = reached_both m es fs q
reached_both m (mention p r t ∷ es) fs q = let e = reached_both m es fs q in let x = reps.counted m (sigil_of t) r q in omega arith
