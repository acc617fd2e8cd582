-- The addresses that scalars reach, as a list: each as often as it is reached.
use Rattle.std.specs.Prelude.{ℕ, zero, suc, List, [], ◌∷◌, ◌++◌, cond, take, drop}
use Rattle.cg_base.specs.declared.kind.Sigil.{Sigil}
use Rattle.cg_base.specs.declared.kind.Sigil.TheVariants.{R, W}
use Rattle.cg_base.specs.Types.{Tau, var, seen, unit, word, bool, arrow, abs, variant, fields, Parts, end, part}
use Rattle.cg_heap.specs.declared.cell.Scalar.{Scalar}
use Rattle.cg_heap.specs.Reps.{Heap, first_address, first_number, inner, slots, tail}

-- a cell of this sigil, at its own address
abbrev pub own : Sigil → Sigil → ℕ → List ℕ
own R R p = p ∷ []
own W W p = p ∷ []
own _ _ p = []

module _ (h : Heap) (m : Sigil) where
  unfoldable mutual
    pub reached : Tau → List Scalar → List ℕ
    reached (var n) us = []
    reached (seen n) us = []
    reached unit us = []
    reached (word w) us = []
    reached bool us = []
    reached (arrow a b) us = []
    reached (abs name args sigil) us = own m sigil (first_address us)
    reached (variant ps) us = reached_at ps (first_number us) (tail us)
    reached (fields ps sigil) us = own m sigil (first_address us) ++ reached_all ps (inner h sigil us)

    pub reached_all : Parts → List Scalar → List ℕ
    reached_all end us = []
    reached_all (part name t taken ps) us = cond taken [] (reached t (take (slots t) us)) ++ reached_all ps (drop (slots t) us)

    pub reached_at : Parts → ℕ → List Scalar → List ℕ
    reached_at end i us = []
    reached_at (part name t taken ps) zero us = cond taken [] (reached t (take (slots t) us))
    reached_at (part name t taken ps) (suc i) us = reached_at ps i (drop (slots t) us)
