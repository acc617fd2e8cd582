-- What a store holds is told apart as the pair of its cells and its top.
use Rattle.std.specs.Prelude.{ℕ, refl}
use Rattle.std.specs.Coded.{Coded, code_by, coded×, coded_ℕ}
use Rattle.std.specs.FinMap as map
use Rattle.std.specs.FinMap.{FinMap}
use Rattle.std.specs.Ordering.{nat_cmp}
use Rattle.cg_heap.specs.declared.cell.Cell.{Cell}
use Rattle.cg_heap.specs.Stored.{Stored}

abbrev pub coded_stored : Coded Cell → Coded Stored
coded_stored code =
    code_by (FinMap nat_cmp Cell × ℕ) (coded× (map.code coded_ℕ code) coded_ℕ) (λ s. (s.cells, s.top)) (λ p. record { cells = p.0; top = p.1 }) (λ _. refl)
