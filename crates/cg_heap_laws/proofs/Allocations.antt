-- What an allocator gives.
use Rattle.std.proofs.Common.{◌≡◌, ℕ, ◌+◌, ◌≤◌, Bool, true, false, cond, nat_eq, Some, List, [], ◌∷◌, ⊎_elim, codes, refl, sym, ap, ◌∙◌, subst, arith}
use Rattle.std.specs.FinMap as map
use Rattle.std.specs.FinMap.{FinMap}
use Rattle.std.specs.Ordering.{nat_cmp}
use Rattle.std.specs.Option.{unwrap_or}
use Rattle.cg_base.specs.declared.kind.Sigil.TheVariants.{R, W}
use Rattle.cg_base.specs.Types.{Tau}
use Rattle.cg_heap.specs.Calls.{Does, heap_of}
use Rattle.cg_heap.specs.declared.cell.Cell.{Cell}
use Rattle.cg_heap.specs.declared.cell.Cell.TheVariants.{Answers}
use Rattle.cg_heap.specs.declared.cell.Fresh.{Fresh}
use Rattle.cg_heap.specs.declared.cell.Scalar.{Scalar}
use Rattle.cg_heap.specs.declared.cell.Scalar.TheVariants.{Unset, Word as AWord, Address}
use Rattle.cg_heap.specs.Reps.{Heap, HeapWorld, Holds, slots, one_if, foot}
use Rattle.cg_heap.specs.Steps.{Step, side}
use Rattle.cg_heap.specs.Stored.{Stored, answer_of, cell_at, changed, fresh_cell, in_cell, in_place, without_answer}
use Rattle.cg_heap_laws.proofs.Slots.{holds_slots}
use Rattle.cg_lib_heap.specs.Library.{granted, next_at}
use Rattle.cg_heap_laws.proofs.Changes.{step_write, step_make, make_near}
use Rattle.cg_heap_laws.proofs.LibraryForms.{is_state, is_some, is_none, some_foot, none_foot}
use Rattle.cg_heap_laws.proofs.LibraryFunctions.{Fine, Writes, state_foot, state_slots}
use Rattle.cg_heap_laws.proofs.Stores.{IsWritten, is_or_not, get_insert, written_here}
use Rattle.cg_heap_laws.proofs.Tuples.{is_pair, pair_foot}
use Rattle.cg_lib_value.specs.Library.{answered, next_answer, later_answers, maybe as maybe_value}
use Rattle.cg_typing.specs.Library.{state, pair, maybe}
use Rattle.cg_value.specs.Forms as forms
use Rattle.cg_value.specs.Values.{Val, answers, chosen, nothing}
use Rattle.cg_base.proofs.Counts.{eqb_same as eq_self}

-- a cell of this content, wherever it stands, represents a value that owns it alone
abbrev pub IsMadeOf : HeapWorld → Tau → Cell → Val → Type 0
IsMadeOf world e c x = (h : Heap) (a : ℕ) → 1 ≤ a → h a ≡ Some c
    → Holds world h e (Address a ∷ []) x × ((q : ℕ) → (foot h W e (Address a ∷ []) q ≡ one_if (nat_eq a q)) × (foot h R e (Address a ∷ []) q ≡ 0))

module _ (world : HeapWorld) (s : Stored) (t : Tau) (us : List Scalar) (f : Fine s t us) (e : Tau) (n : slots e ≡ 1)
    (p : ℕ) (above : 1 ≤ p) (own : (q : ℕ) → Writes s t us q ≡ one_if (nat_eq p q) + 0) (bs : List Bool) (m : FinMap nat_cmp Cell)
    (is : IsWritten (heap_of s) p (Some (Answers bs)) (λ q. map.get m q)) where
  -- where nothing is made
  gives_none : (c : Fresh) → Does world s t us (granted p false c (record { cells = m; top = s.top })) (pair state (maybe e)) (forms.pair (answers bs) (chosen (codes "None") nothing))
  gives_none c =
      let h : Heap = heap_of s in
      let h' : Heap = λ q. map.get m q in
      let us' : List Scalar = AWord 0 ∷ AWord 0 ∷ Unset ∷ [] in
      let holds : Holds world h' (maybe e) us' (chosen (codes "None") nothing) = is_none world h' e n in
      let feet : (q : ℕ) → (foot h' W (pair state (maybe e)) (Address p ∷ us') q ≡ one_if (nat_eq p q) + 0) × (foot h' R (pair state (maybe e)) (Address p ∷ us') q ≡ 0) =
      λ q. none_feet h' q in
      record {
        holds = is_pair world h' state (maybe e) (Address p) us' (answers bs) (chosen (codes "None") nothing) (is_state world h' p bs above (written_here h h' p (Some (Answers bs)) is)) holds;
        step = step_write h h' s.top p (Some (Answers bs)) (foot h W t us) (foot h R t us) (λ q. 0) f own is
            (foot h' W (pair state (maybe e)) (Address p ∷ us')) (foot h' R (pair state (maybe e)) (Address p ∷ us')) (λ q. (feet q).0 ∙ sym (own q)) (λ q. (feet q).1);
      }
    where
      none_feet : (h' : Heap) (q : ℕ) → (foot h' W (pair state (maybe e)) (Address p ∷ AWord 0 ∷ AWord 0 ∷ Unset ∷ []) q ≡ one_if (nat_eq p q) + 0)
          × (foot h' R (pair state (maybe e)) (Address p ∷ AWord 0 ∷ AWord 0 ∷ Unset ∷ []) q ≡ 0)
      none_feet h' q =
          let x = pair_foot h' state (maybe e) (Address p) (AWord 0 ∷ AWord 0 ∷ Unset ∷ []) state_slots (holds_slots world h' (maybe e) (AWord 0 ∷ AWord 0 ∷ Unset ∷ []) (chosen (codes "None") nothing) (is_none world h' e n)) q in
          let y = state_foot h' p q in
          let w = none_foot h' W e q in
          let r = none_foot h' R e q in
          (omega arith, omega arith)

  -- where a cell is made
  gives_some : (c : Fresh) (x : Val) → IsMadeOf world e (fresh_cell c) x
      → Does world s t us (granted p true c (record { cells = m; top = s.top })) (pair state (maybe e)) (forms.pair (answers bs) (chosen (codes "Some") x))
  gives_some c x made =
      let h : Heap = heap_of s in
      let h1 : Heap = λ q. map.get m q in
      let a : ℕ = s.top + 1 in
      let h' : Heap = λ q. map.get (map.insert m a (fresh_cell c)) q in
      let is' : IsWritten h1 a (Some (fresh_cell c)) h' = get_insert m a (fresh_cell c) in
      let here : h' a ≡ Some (fresh_cell c) = written_here h1 h' a (Some (fresh_cell c)) is' in
      let near : h' p ≡ h1 p = make_near h h1 h' s.top p (Some (Answers bs)) (Some (fresh_cell c)) (foot h W t us) (foot h R t us) f own is is' in
      let d = some_does h' is' (near ∙ written_here h h1 p (Some (Answers bs)) is) (made h' a (omega arith) here).0 (made h' a (omega arith) here).1 in
      record { holds = d.0; step = d.1 }
    where
      some_feet : (h' : Heap) (a : ℕ) → Holds world h' e (Address a ∷ []) x → ((q : ℕ) → (foot h' W e (Address a ∷ []) q ≡ one_if (nat_eq a q)) × (foot h' R e (Address a ∷ []) q ≡ 0))
          → (q : ℕ) → (foot h' W (pair state (maybe e)) (Address p ∷ AWord 1 ∷ Unset ∷ Address a ∷ []) q ≡ one_if (nat_eq p q) + one_if (nat_eq a q))
          × (foot h' R (pair state (maybe e)) (Address p ∷ AWord 1 ∷ Unset ∷ Address a ∷ []) q ≡ 0)
      some_feet h' a r feet q =
          let z = pair_foot h' state (maybe e) (Address p) (AWord 1 ∷ Unset ∷ Address a ∷ []) state_slots (holds_slots world h' (maybe e) (AWord 1 ∷ Unset ∷ Address a ∷ []) (chosen (codes "Some") x) (is_some world h' e a x r)) q in
          let y = state_foot h' p q in
          let w = some_foot h' W e a q (sym n) in
          let v = some_foot h' R e a q (sym n) in
          let g = feet q in
          (omega arith, omega arith)

      some_does : (h' : Heap) → IsWritten (λ q. map.get m q) (s.top + 1) (Some (fresh_cell c)) h' → h' p ≡ Some (Answers bs) → Holds world h' e (Address (s.top + 1) ∷ []) x
          → ((q : ℕ) → (foot h' W e (Address (s.top + 1) ∷ []) q ≡ one_if (nat_eq (s.top + 1) q)) × (foot h' R e (Address (s.top + 1) ∷ []) q ≡ 0))
          → Holds world h' (pair state (maybe e)) (Address p ∷ AWord 1 ∷ Unset ∷ Address (s.top + 1) ∷ []) (forms.pair (answers bs) (chosen (codes "Some") x))
          × Step (side (heap_of s) s.top (foot (heap_of s) W t us) (foot (heap_of s) R t us)) ((s.top + 1) ∷ []) [] (side h' (s.top + 1) (foot h' W (pair state (maybe e)) (Address p ∷ AWord 1 ∷ Unset ∷ Address (s.top + 1) ∷ [])) (foot h' R (pair state (maybe e)) (Address p ∷ AWord 1 ∷ Unset ∷ Address (s.top + 1) ∷ [])))
      some_does h' is' k r feet = (
        is_pair world h' state (maybe e) (Address p) (AWord 1 ∷ Unset ∷ Address (s.top + 1) ∷ []) (answers bs) (chosen (codes "Some") x) (is_state world h' p bs above k) (is_some world h' e (s.top + 1) x r),
        step_make (heap_of s) (λ q. map.get m q) h' s.top p (Some (Answers bs)) (Some (fresh_cell c)) (foot (heap_of s) W t us) (foot (heap_of s) R t us) f own is is'
            (foot h' W (pair state (maybe e)) (Address p ∷ AWord 1 ∷ Unset ∷ Address (s.top + 1) ∷ [])) (foot h' R (pair state (maybe e)) (Address p ∷ AWord 1 ∷ Unset ∷ Address (s.top + 1) ∷ []))
            (λ q. (some_feet h' (s.top + 1) r feet q).0) (λ q. (some_feet h' (s.top + 1) r feet q).1),
      )

  -- a cell is made or not
  grants : (grant : Bool) (c : Fresh) (x : Val) → (grant ≡ true → IsMadeOf world e (fresh_cell c) x)
      → Does world s t us (granted p grant c (record { cells = m; top = s.top })) (pair state (maybe e)) (forms.pair (answers bs) (maybe_value grant x))
  grants true c x made = gives_some c x (made refl)
  grants false c x made = gives_none c

-- the cells when an answer is taken
abbrev later_cells : ℕ → List Bool → Stored → FinMap nat_cmp Cell
later_cells p [] s = s.cells
later_cells p (b ∷ bs) s = map.insert s.cells p (Answers bs)

-- the store behind an answer that is taken
later_store : (p : ℕ) (bs : List Bool) (s : Stored) → in_place p (without_answer (Answers bs)) s ≡ record { cells = later_cells p bs s; top = s.top }
later_store p [] s = refl
later_store p (b ∷ bs) s = refl

-- the allocator's cell holds the answers behind the first
later_written : (p : ℕ) (bs : List Bool) (s : Stored) → cell_at s p ≡ Some (Answers bs) → IsWritten (heap_of s) p (Some (Answers (later_answers bs))) (λ q. map.get (later_cells p bs s) q)
unfolding later_answers
later_written p [] s e q = ⊎_elim (λ i. subst (λ q. cell_at s q ≡ cond (nat_eq p q) (Some (Answers [])) (cell_at s q)) i (rw (eq_self p) e)) (λ i. rw i refl) (is_or_not p q)
later_written p (b ∷ bs) s e q = get_insert s.cells p (Answers bs) q

-- the store's next answer is the list's
pub next_is : (p : ℕ) (bs : List Bool) (s : Stored) → cell_at s p ≡ Some (Answers bs) → next_at p s ≡ next_answer bs
unfolding next_answer
next_is p bs s e = ap (λ o. unwrap_or (in_cell (answer_of 0) o) false) e ∙ first bs
  where
    first : (bs : List Bool) → unwrap_or (in_cell (answer_of 0) (Some (Answers bs))) false ≡ next_answer bs
    first [] = refl
    first (b ∷ bs) = refl

-- an answer is taken, and a cell is made if so
pub allocates : (world : HeapWorld) (s : Stored) (t : Tau) (us : List Scalar) → Fine s t us → (e : Tau) → slots e ≡ 1
    → (p : ℕ) → 1 ≤ p → ((q : ℕ) → Writes s t us q ≡ one_if (nat_eq p q) + 0) → (bs : List Bool) → cell_at s p ≡ Some (Answers bs)
    → (grant : Bool) (c : Fresh) (x : Val) → (grant ≡ true → IsMadeOf world e (fresh_cell c) x)
    → Does world s t us (granted p grant c (changed without_answer p s)) (pair state (maybe e)) (answered bs grant x)
allocates world s t us f e n p above own bs k grant c x made =
    subst (λ s'. Does world s t us (granted p grant c s') (pair state (maybe e)) (answered bs grant x)) (sym (ap (λ o. in_place p (in_cell without_answer o) s) k ∙ later_store p bs s))
    (grants world s t us f e n p above own (later_answers bs) (later_cells p bs s) (later_written p bs s k) grant c x made)
