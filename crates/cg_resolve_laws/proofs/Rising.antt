-- Alternatives whose names are apart stand in strictly rising byte order once they are sorted.
use Rattle.std.proofs.Common.{◌≡◌, ℕ, Bool, true, false, cond, List, [], ◌∷◌, Ordering, Less, Equal, Greater, refl, sym, ◌∙◌}
use Rattle.std.proofs.lemmas.Bool.{or_parts}
use Rattle.std.specs.Cmp.Lexicographic.{nat_list_cmp_total, slice_cmp, texts_ties}
use Rattle.std.specs.List.{AllByRecursion}
use Rattle.std.specs.List.Sorted.{IsStrictlySortedBy}
use Rattle.std.specs.Ordering.{is_eq, is_le, nat_cmp, ordering_reverse}
use Rattle.std.specs.Str.{bytes_eq}
use Rattle.cg_base.specs.Types.{Piece}
use Rattle.cg_core_def.specs.Lawful.{AreApart, AreRising}
use Rattle.cg_resolve_def.specs.Declared.{is_among}
use Rattle.cg_resolve_def.specs.Expand.{bytes_le, in_order, inserted}
use Rattle.cg_resolve_def.proofs.ByteOrder.{le-cmp}
use Rattle.cg_resolve_laws.proofs.Types.{among_in_order, names_of_pieces}

-- a name that stands before all of these
abbrev IsBelow : List ℕ → List (List ℕ) → Type 0
IsBelow n names = AllByRecursion (λ m. slice_cmp nat_cmp n m ≡ Less) names

-- of two names that are apart, the one that may stand first is below the other
first_below : (m n : List ℕ) → bytes_eq m n ≡ false → bytes_le m n ≡ true → slice_cmp nat_cmp m n ≡ Less
first_below m n apart first = pick (slice_cmp nat_cmp m n) (sym (texts_ties m n) ∙ apart) (sym (le-cmp m n) ∙ first)
  where
    pick : (o : Ordering) → is_eq o ≡ false → is_le o ≡ true → o ≡ Less
    pick Less equal le = refl
    pick Equal equal le = absurd (cc)
    pick Greater equal le = absurd (cc)

-- and where it may not, the other is below it
second_below : (m n : List ℕ) → bytes_le m n ≡ false → slice_cmp nat_cmp n m ≡ Less
second_below m n second = nat_list_cmp_total.antisymm n m ∙ pick (slice_cmp nat_cmp m n) (sym (le-cmp m n) ∙ second)
  where
    pick : (o : Ordering) → is_le o ≡ false → ordering_reverse o ≡ Less
    pick Less le = absurd (cc)
    pick Equal le = absurd (cc)
    pick Greater le = refl

below_more : (m n : List ℕ) (names : List (List ℕ)) → slice_cmp nat_cmp m n ≡ Less → IsBelow n names → IsBelow m names
below_more m n [] lt all = tt
below_more m n (k ∷ names) lt all = (nat_list_cmp_total.trans m n k lt all.0, below_more m n names lt all.1)

below_inserted : (n : List ℕ) (p : Piece) (qs : List Piece) → slice_cmp nat_cmp n p.name ≡ Less → IsBelow n (names_of_pieces qs) → IsBelow n (names_of_pieces (inserted p qs))
below_inserted n p [] lt all = (lt, tt)
below_inserted n p (q ∷ qs) lt all = pick (bytes_le p.name q.name) (below_inserted n p qs lt all.1)
  where
    pick : (test : Bool) → IsBelow n (names_of_pieces (inserted p qs)) → IsBelow n (names_of_pieces (cond test (p ∷ q ∷ qs) (q ∷ inserted p qs)))
    pick true rest = (lt, all)
    pick false rest = (all.0, rest)

inserted_rising : (p : Piece) (qs : List Piece) → is_among (names_of_pieces qs) p.name ≡ false → AreRising (names_of_pieces qs) → AreRising (names_of_pieces (inserted p qs))
unfolding IsStrictlySortedBy
inserted_rising p [] new rising = (tt, tt)
inserted_rising p (q ∷ qs) new rising = pick (bytes_le p.name q.name) refl (inserted_rising p qs apart.1 rising.1)
  where
    apart : (bytes_eq p.name q.name ≡ false) × (is_among (names_of_pieces qs) p.name ≡ false)
    apart = or_parts (bytes_eq p.name q.name) (is_among (names_of_pieces qs) p.name) new

    pick : (test : Bool) → bytes_le p.name q.name ≡ test → AreRising (names_of_pieces (inserted p qs)) → AreRising (names_of_pieces (cond test (p ∷ q ∷ qs) (q ∷ inserted p qs)))
    pick true first rest = let lt = first_below p.name q.name apart.0 first in ((lt, below_more p.name q.name (names_of_pieces qs) lt rising.0), rising)
    pick false second rest = (below_inserted q.name p qs (second_below p.name q.name second) rising.0, rest)

pub in_order_rising : (ps : List Piece) → AreApart (names_of_pieces ps) → AreRising (names_of_pieces (in_order ps))
unfolding IsStrictlySortedBy
in_order_rising [] apart = tt
in_order_rising (p ∷ ps) apart = inserted_rising p (in_order ps) (among_in_order ps p.name ∙ apart.0) (in_order_rising ps apart.1)
