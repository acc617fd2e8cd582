-- The functions, at scalars and values that are taken apart.
use Rattle.std.proofs.Common.{◌≡◌, ℕ, ◌+◌, ◌<◌, ◌≤◌, ◌^◌, Bool, true, false, cond, nat_eq, nat_lt, IsTrue, Some, None, List, [], ◌∷◌, length, ⊎_elim, if◌then◌else◌, refl, sym, ap, ◌∙◌, subst, arith}
use Rattle.std.specs.Prelude.{slice_set}
use Rattle.std.specs.FinMap as map
use Rattle.std.specs.FinMap.{FinMap}
use Rattle.std.specs.Ordering.{nat_cmp}
use Rattle.cg_base.specs.declared.kind.Sigil.TheVariants.{R, W}
use Rattle.cg_base.specs.declared.kind.Word.{Word}
use Rattle.cg_base.specs.Types.{Tau, word}
use Rattle.cg_base.specs.Words.{bits}
use Rattle.cg_heap.specs.Calls.{Does, heap_of}
use Rattle.cg_heap.specs.declared.cell.Cell.{Cell}
use Rattle.cg_heap.specs.declared.cell.Cell.TheVariants.{Words, Answers}
use Rattle.cg_heap.specs.declared.cell.Scalar.{Scalar}
use Rattle.cg_heap.specs.declared.cell.Scalar.TheVariants.{Word as AWord, Address}
use Rattle.cg_heap.specs.Reps.{Heap, HeapWorld, slots, one_if, foot}
use Rattle.cg_heap.specs.Steps.{IsFine, side}
use Rattle.cg_heap.specs.Stored.{Stored, cell_at, changed, in_cell, in_place, with_element, without_cell}
use Rattle.cg_lib_heap.specs.Library.{kept, freed_at}
use Rattle.cg_heap_laws.proofs.Arrays.{set_behind, set_is_array}
use Rattle.cg_heap_laws.proofs.Changes.{step_kept, step_write, step_free, write_near}
use Rattle.cg_heap_laws.proofs.LibraryForms.{is_state, is_a_word, is_an_array}
use Rattle.cg_heap_laws.proofs.Stores.{IsWritten, is_or_not, get_insert, get_remove, written_here}
use Rattle.cg_typing.specs.Library.{state, array}
use Rattle.cg_value.specs.Fits.{is_array}
use Rattle.cg_value.specs.Values.{number, answers, elements}
use Rattle.cg_base.proofs.Counts.{eqb_same as eq_self}

-- what an argument writes in a store, and that its footprints are fine there
abbrev pub Writes : Stored → Tau → List Scalar → ℕ → ℕ
Writes s t us q = foot (heap_of s) W t us q

abbrev pub Fine : Stored → Tau → List Scalar → Type 0
Fine s t us = IsFine (side (heap_of s) s.top (foot (heap_of s) W t us) (foot (heap_of s) R t us))

-- a word reaches nothing
pub word_foot : (h : Heap) (w : Word) (us : List Scalar) (q : ℕ) → (foot h W (word w) us q ≡ 0) × (foot h R (word w) us q ≡ 0)
unfolding foot
word_foot h w us q = (refl, refl)

-- an allocator writes its address
pub state_foot : (h : Heap) (p : ℕ) (q : ℕ) → (foot h W state (Address p ∷ []) q ≡ one_if (nat_eq p q)) × (foot h R state (Address p ∷ []) q ≡ 0)
unfolding foot
state_foot h p q = (refl, refl)

-- an allocator has one slot
pub state_slots : 1 ≡ slots state
unfolding slots
state_slots = refl

module _ (world : HeapWorld) (s : Stored) (t : Tau) (us : List Scalar) (f : Fine s t us) where
  -- a word is given, and nothing changes
  pub gives_word : (w : Word) (n : ℕ) → n < 2 ^ bits w → ((q : ℕ) → Writes s t us q ≡ 0) → Does world s t us (kept (AWord n ∷ []) s) (word w) (number n)
  gives_word w n k z = record {
    holds = is_a_word world (heap_of s) w n k;
    step = step_kept (heap_of s) s.top (foot (heap_of s) W t us) (foot (heap_of s) R t us) (foot (heap_of s) W (word w) (AWord n ∷ [])) (foot (heap_of s) R (word w) (AWord n ∷ [])) f
        (λ q. (word_foot (heap_of s) w (AWord n ∷ []) q).0 ∙ sym (z q)) (λ q. (word_foot (heap_of s) w (AWord n ∷ []) q).1);
  }

  -- the allocator is given back, and a cell is freed
  pub gives_state : (p q : ℕ) (bs : List Bool) → ((x : ℕ) → Writes s t us x ≡ one_if (nat_eq q x) + one_if (nat_eq p x)) → 1 ≤ p → cell_at s p ≡ Some (Answers bs)
      → Does world s t us (freed_at p q s) state (answers bs)
  gives_state p q bs own i e =
      let h = heap_of s in
      let h' = heap_of (without_cell q s) in
      let is : IsWritten h q None h' = get_remove s.cells q in
      let near = write_near h h' s.top q None (foot h W t us) (foot h R t us) (λ x. one_if (nat_eq p x)) f own is p (rw (eq_self p) (omega arith)) in
      record {
        holds = is_state world h' p bs i (near ∙ e);
        step = step_free h h' s.top q (foot h W t us) (foot h R t us) (λ x. one_if (nat_eq p x)) f own is
            (foot h' W state (Address p ∷ [])) (foot h' R state (Address p ∷ [])) (λ x. (state_foot h' p x).0) (λ x. (state_foot h' p x).1);
      }

-- the cells when an element is written, or where there is no such element
abbrev set_cells : Bool → ℕ → Cell → Stored → FinMap nat_cmp Cell
set_cells true p c s = map.insert s.cells p c
set_cells false p c s = s.cells

-- the store behind a write, element or not
set_store : (b : Bool) (p : ℕ) (c : Cell) (s : Stored) → in_place p (if b then Some c else None) s ≡ record { cells = set_cells b p c s; top = s.top }
set_store true p c s = refl
set_store false p c s = refl

-- the array's cell holds the written array, element or not
set_written : (b : Bool) (p i n : ℕ) (ns : List ℕ) (s : Stored) → nat_lt i (length ns) ≡ b → cell_at s p ≡ Some (Words ns)
    → IsWritten (heap_of s) p (Some (Words (slice_set ns i n))) (λ q. map.get (set_cells b p (Words (slice_set ns i n)) s) q)
set_written true p i n ns s k e q = get_insert s.cells p (Words (slice_set ns i n)) q
set_written false p i n ns s k e q = rw (set_behind ns i n k)
    (⊎_elim (λ j. subst (λ q. cell_at s q ≡ cond (nat_eq p q) (Some (Words ns)) (cell_at s q)) j (rw (eq_self p) e)) (λ j. rw j refl) (is_or_not p q))

-- an array writes its address
pub array_foot : (h : Heap) (w : Word) (p q : ℕ) → (foot h W (array (word w)) (Address p ∷ []) q ≡ one_if (nat_eq p q)) × (foot h R (array (word w)) (Address p ∷ []) q ≡ 0)
unfolding foot
array_foot h w p q = (refl, refl)

-- an array is given back, with an element written
pub gives_array : (world : HeapWorld) (s : Stored) (t : Tau) (us : List Scalar) (f : Fine s t us) (w : Word) (p i n : ℕ) (ns : List ℕ)
    → ((q : ℕ) → Writes s t us q ≡ one_if (nat_eq p q) + 0) → 1 ≤ p → cell_at s p ≡ Some (Words ns) → IsTrue (is_array w (elements ns)) → n < 2 ^ bits w
    → Does world s t us (kept (Address p ∷ []) (changed (with_element i n) p s)) (array (word w)) (elements (slice_set ns i n))
gives_array world s t us f w p i n ns own above e a k =
    subst (λ s'. Does world s t us (kept (Address p ∷ []) s') (array (word w)) (elements (slice_set ns i n)))
    (sym (ap (λ o. in_place p (in_cell (with_element i n) o) s) e ∙ set_store (nat_lt i (length ns)) p (Words (slice_set ns i n)) s))
    (set_does (set_cells (nat_lt i (length ns)) p (Words (slice_set ns i n)) s) (set_written (nat_lt i (length ns)) p i n ns s refl e))
  where
    set_does : (m : FinMap nat_cmp Cell) → IsWritten (heap_of s) p (Some (Words (slice_set ns i n))) (λ q. map.get m q)
        → Does world s t us (kept (Address p ∷ []) (record { cells = m; top = s.top })) (array (word w)) (elements (slice_set ns i n))
    set_does m is =
        let h' : Heap = λ q. map.get m q in
        record {
          holds = is_an_array world h' w p (slice_set ns i n) above (written_here (heap_of s) h' p (Some (Words (slice_set ns i n))) is) (set_is_array w ns i n a k);
          step = step_write (heap_of s) h' s.top p (Some (Words (slice_set ns i n))) (foot (heap_of s) W t us) (foot (heap_of s) R t us) (λ q. 0) f own is
              (foot h' W (array (word w)) (Address p ∷ [])) (foot h' R (array (word w)) (Address p ∷ []))
              (λ q. let x = array_foot h' w p q in let y = own q in array_writes (foot h' W (array (word w)) (Address p ∷ []) q) (one_if (nat_eq p q)) (Writes s t us q) x.0 y) (λ q. (array_foot h' w p q).1);
        }
      where
        array_writes : (x y z : ℕ) → x ≡ y → z ≡ y + 0 → x ≡ z
        array_writes x y z a b = omega arith
