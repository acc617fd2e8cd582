-- What a flat store is told apart as the tuple of its parts.
use Rattle.std.specs.Prelude.{ℕ, List, refl}
use Rattle.std.specs.Coded.{Coded, code_by, coded×, coded_list, coded_ℕ}
use Rattle.std.specs.FinMap as table
use Rattle.std.specs.FinMap.{FinMap}
use Rattle.std.specs.Ordering.{nat_cmp}
use Rattle.cg_flat.specs.declared.span.Hole.{Hole}
use Rattle.cg_flat.specs.declared.span.Span.{Span}
use Rattle.cg_flat.specs.Flat.{Flat}

abbrev pub coded_flat : Coded Span → Coded Hole → Coded Flat
coded_flat span hole =
    code_by (List ℕ × (FinMap nat_cmp Span × (List Hole × ℕ))) (coded× (coded_list coded_ℕ) (coded× (table.code coded_ℕ span) (coded× (coded_list hole) coded_ℕ)))
    (λ f. (f.words, (f.spans, (f.holes, f.top))))
    (λ p. record { words = p.0; spans = p.1.0; holes = p.1.1.0; top = p.1.1.1 })
    (λ _. refl)
