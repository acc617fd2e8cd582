use Rattle.std.proofs.Common.{◌≡◌, drop, map}
use Rattle.cg_base.specs.Types.{part_of, to_parts}
use Rattle.cg_value.specs.Fits.{fits_alternative, fits_fields}
use Rattle.cg_value.specs.Foreign.{first_order}
use Rattle.cg_value.specs.NoForeign.{no_foreign}
use Rattle.cg_value.specs.Values.{to_vals, value_of}
use Rattle.cg_value.proofs.fit.+fits.Given as goal

abbrev pub invariant-fits_alternative-loop-alternative : goal.invariant-fits_alternative-loop-alternative
invariant-fits_alternative-loop-alternative l =
    fits_alternative (first_order no_foreign) l.name (to_parts (map part_of (drop l.alternative-index l.alternatives))) (value_of l.payload)
    ≡ fits_alternative (first_order no_foreign) l.name (to_parts (map part_of l.alternatives)) (value_of l.payload)

abbrev pub invariant-fit_fields-loop-i : goal.invariant-fit_fields-loop-i
invariant-fit_fields-loop-i l =
    fits_fields (first_order no_foreign) (to_parts (map part_of (drop l.i l.parts))) (to_vals (map value_of (drop l.i l.values)))
    ≡ fits_fields (first_order no_foreign) (to_parts (map part_of l.parts)) (to_vals (map value_of l.values))
