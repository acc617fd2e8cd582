-- The names of the program are in order.
use Rattle.std.proofs.Common.{◌≡◌, ℕ, zero, suc, ◌^◌, ◌<◌, List, [], ◌∷◌, refl, sym, ap, ◌∙◌, subst}
use Rattle.cg_surface.specs.Programs.{Entry}
use Rattle.cg_resolve_def.specs.Desugar.{NamesStand}
use Rattle.cg_resolve_def.specs.Expand.{bodies}
use Rattle.cg_resolve_def.specs.Takes.{missing_fields, missing_from, written_from}
use Rattle.cg_gen_def.specs.Programs.{cell_item}
use Rattle.cg_gen_names_laws.specs.Laws.{NamesAreInOrder}
use Rattle.cg_gen_names_laws.proofs.Circles.{none_in_circles}
use Rattle.cg_gen_names_laws.proofs.Faultless.{faultless}
use Rattle.cg_gen_names_laws.proofs.Known.{known, program_is}
use Rattle.cg_gen_names_laws.proofs.Limits.{two_written}
use Rattle.cg_gen_names_laws.proofs.Lists.{spread, two_items}

-- nothing is taken
nothing_missing : (entries : List Entry) (i k : ℕ) → missing_from (bodies entries) (written_from entries (spread two_items i k)) ≡ []
nothing_missing entries i zero = refl
nothing_missing entries i (suc k) = ap (missing_from (bodies entries)) (two_written entries i k) ∙ nothing_missing entries (suc i) k

none_missing : (n : ℕ) → missing_fields (cell_item ∷ spread two_items 0 n) ≡ []
none_missing n = nothing_missing (cell_item ∷ spread two_items 0 n) 0 n

stands : (n : ℕ) → n < 10 ^ 64 → NamesStand (cell_item ∷ spread two_items 0 n)
stands n small = record { names = faultless n (known n small); circles = none_in_circles n (known n small); fields = none_missing n }

pub names_are_in_order : NamesAreInOrder
names_are_in_order n small = subst NamesStand (sym (program_is n)) (stands n small)
