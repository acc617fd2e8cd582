-- A cell that is written and reached twice is not apart.
use Rattle.std.proofs.Common.{rules, ◌≡◌, ℕ, true, nat_eq, IsTrue, List, [], ◌∷◌, ap, arith}
use Rattle.cg_base.specs.declared.kind.Sigil.{Sigil}
use Rattle.cg_base.specs.declared.kind.Sigil.TheVariants.{R, W, U}
use Rattle.cg_base.specs.Types.{Parts}
use Rattle.cg_heap.specs.declared.cell.Scalar.TheVariants.{Address}
use Rattle.cg_heap.specs.Reps.{Heap, AreApart, slots, is_boxed, one_if, foot}
use Rattle.cg_heap_laws.specs.Laws.{boxed_pair}

-- two boxed records of which the first is written, at one address
pub not_apart : (h : Heap) (x y : List ℕ) (ps qs : Parts) (p : ℕ) (s : Sigil) → IsTrue (is_boxed s)
    → AreApart (foot h W (boxed_pair x ps y qs s) (Address p ∷ Address p ∷ [])) (foot h R (boxed_pair x ps y qs s) (Address p ∷ Address p ∷ [])) → ⊥
unfolding foot slots
not_apart h x y ps qs p U boxed apart = absurd (cc)
not_apart h x y ps qs p R boxed apart =
    let here : nat_eq p p ≡ true = search (rules, arith) in
    let once : one_if (nat_eq p p) ≡ 1 = ap one_if here in
    let most = apart p (omega arith) in
    omega arith
not_apart h x y ps qs p W boxed apart =
    let here : nat_eq p p ≡ true = search (rules, arith) in
    let once : one_if (nat_eq p p) ≡ 1 = ap one_if here in
    let most = apart p (omega arith) in
    omega arith
