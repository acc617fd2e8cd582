-- Variant types whose alternatives stand in the byte order of their names, and not so.
use Rattle.std.proofs.Common.{refl}
use Rattle.std.specs.List.Sorted.{IsStrictlySortedBy}
use Rattle.std.specs.Prelude.{false, codes}
use Rattle.cg_base.specs.Types.{Tau, unit, bool, variant, end, part}
use Rattle.cg_core_def.specs.Lawful.{IsLawfulType}

-- `<None | Some Bool>`
abbrev in_order : Tau
in_order = variant (part (codes "None") unit false (part (codes "Some") bool false end))

in_order_is_lawful : IsLawfulType 0 in_order
unfolding IsStrictlySortedBy
in_order_is_lawful = (tt, (refl, (refl, tt)), ((refl, tt), (tt, tt)), (tt, (tt, tt)))

-- the same alternatives, the other way round
abbrev out_of_order : Tau
out_of_order = variant (part (codes "Some") bool false (part (codes "None") unit false end))

out_of_order_is_not : IsLawfulType 0 out_of_order → ⊥
unfolding IsStrictlySortedBy
out_of_order_is_not lawful = let below = lawful.2.0.0 in absurd (cc)
