-- An answer taken off and a cell made, in either order.
use Rattle.std.proofs.Common.{rules, ◌≡◌, ℕ, ◌+◌, Bool, true, false, cond, nat_eq, refl, sym, ap, ◌∙◌, arith}
use Rattle.std.specs.Cmp.{nat_cmp_total, unsigned_tied}
use Rattle.std.specs.FinMap as map
use Rattle.std.specs.FinMap.{FinMap, get-insert, same_map, nat_cmp-IsAntisymmetric}
use Rattle.std.specs.Ordering.{nat_cmp}
use Rattle.std.specs.declared.option.Option.{Option}
use Rattle.std.specs.declared.option.Option.TheVariants.{None, Some}
use Rattle.cg_heap.specs.declared.cell.Cell.{Cell}
use Rattle.cg_heap.specs.declared.cell.Fresh.{Fresh}
use Rattle.cg_heap.specs.declared.cell.Fresh.TheVariants as fresh
use Rattle.cg_heap.proofs.TopSteps.{top_stays}
use Rattle.cg_heap.specs.Stored.{Stored, IsSound, asked_of, cell_at, changed, fresh_cell, in_cell, in_place, with_fresh, without_answer}

pub found : (m : FinMap nat_cmp Cell) (p q : ℕ) (c : Cell) → map.get (map.insert m p c) q ≡ cond (nat_eq q p) (Some c) (map.get m q)
found m p q c = get-insert nat_cmp_total m p c q ∙ ap (λ b. cond b (Some c) (map.get m q)) (unsigned_tied q p)

-- two cells put in at two addresses

either_first : (at_p at_t : Bool) (p q t : ℕ) (c d : Cell) (o : Option Cell) → nat_eq q p ≡ at_p → nat_eq q t ≡ at_t → nat_eq p t ≡ false
    → cond at_p (Some d) (cond at_t (Some c) o) ≡ cond at_t (Some c) (cond at_p (Some d) o)
either_first true true p q t c d o is_p is_t apart = absurd (search (rules, arith))
either_first true false p q t c d o is_p is_t apart = refl
either_first false true p q t c d o is_p is_t apart = refl
either_first false false p q t c d o is_p is_t apart = refl

two_puts : (m : FinMap nat_cmp Cell) (p t : ℕ) (c d : Cell) → nat_eq p t ≡ false → map.insert (map.insert m t c) p d ≡ map.insert (map.insert m p d) t c
two_puts m p t c d apart = same_map nat_cmp_total nat_cmp-IsAntisymmetric _ _ (λ q.
    found (map.insert m t c) p q d ∙ ap (cond (nat_eq q p) (Some d)) (found m t q c)
    ∙ either_first (nat_eq q p) (nat_eq q t) p q t c d (map.get m q) refl refl apart
    ∙ sym (found (map.insert m p d) t q c ∙ ap (cond (nat_eq q t) (Some c)) (found m p q d)))

-- at the new address there was no cell, and there is no answer

none_above : (o : Option Cell) (s : Stored) → IsSound s → cell_at s (s.top + 1) ≡ o → o ≡ None
none_above None s sound e = refl
none_above (Some c) s sound e = let below = sound.within (s.top + 1) c e in absurd (omega arith)

no_answer : (f : Fresh) → without_answer (fresh_cell f) ≡ None
no_answer (fresh.Slots n) = refl
no_answer (fresh.Words n) = refl

same_place : (p : ℕ) (f : Fresh) (s : Stored) → IsSound s → p ≡ s.top + 1 → nat_eq p (s.top + 1) ≡ true
    → changed without_answer p (with_fresh f s) ≡ with_fresh f (changed without_answer p s)
same_place p f s sound here is =
    let none_was : cell_at s p ≡ None = ap (cell_at s) here ∙ none_above (cell_at s (s.top + 1)) s sound refl in
    let made : cell_at (with_fresh f s) p ≡ Some (fresh_cell f) = found s.cells (s.top + 1) p (fresh_cell f) ∙ ap (λ b. cond b (Some (fresh_cell f)) (cell_at s p)) is in
    ap (λ o. in_place p (in_cell without_answer o) (with_fresh f s)) made
    ∙ ap (λ o. in_place p o (with_fresh f s)) (no_answer f)
    ∙ sym (ap (λ o. with_fresh f (in_place p (in_cell without_answer o) s)) none_was)

-- elsewhere the two don't meet

in_either : (p : ℕ) (o : Option Cell) (f : Fresh) (s : Stored) → nat_eq p (s.top + 1) ≡ false → in_place p o (with_fresh f s) ≡ with_fresh f (in_place p o s)
in_either p None f s apart = refl
in_either p (Some d) f s apart = ap (λ m. record { cells = m; top = s.top + 1 }) (two_puts s.cells p (s.top + 1) (fresh_cell f) d apart)

two_places : (p : ℕ) (f : Fresh) (s : Stored) → nat_eq p (s.top + 1) ≡ false → changed without_answer p (with_fresh f s) ≡ with_fresh f (changed without_answer p s)
two_places p f s apart =
    let stays : cell_at (with_fresh f s) p ≡ cell_at s p = found s.cells (s.top + 1) p (fresh_cell f) ∙ ap (λ b. cond b (Some (fresh_cell f)) (cell_at s p)) apart in
    ap (λ o. in_place p (in_cell without_answer o) (with_fresh f s)) stays ∙ in_either p (asked_of without_answer p s) f s apart

either_order : (b : Bool) (p : ℕ) (f : Fresh) (s : Stored) → IsSound s → nat_eq p (s.top + 1) ≡ b
    → changed without_answer p (with_fresh f s) ≡ with_fresh f (changed without_answer p s)
either_order true p f s sound e = same_place p f s sound (search (rules, arith)) e
either_order false p f s sound e = two_places p f s e

-- an answer taken off behind a new cell is one that was taken off before it
pub taken_before : (p : ℕ) (f : Fresh) (s : Stored) → IsSound s → changed without_answer p (with_fresh f s) ≡ with_fresh f (changed without_answer p s)
taken_before p f s sound = either_order (nat_eq p (s.top + 1)) p f s sound refl

pub ruleset allocate_steps = (top_stays, taken_before)
