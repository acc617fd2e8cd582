-- Iterators by their type and by their type arguments.
use Rattle.std.proofs.Common.{◌≡◌, List, [], ◌∷◌, None, map, refl}
use Rattle.std.specs.Prelude.{slice_get}
use Rattle.cg_base.specs.declared.ty.Ty.{Ty, the_lemmas as type_lemmas}
use Rattle.cg_base.specs.Types.{type_of, unit}
use Rattle.cg_lib_value.specs.Library.{first_type}

pub first_none : (ts : List Ty) → slice_get ts 0 ≡ None → first_type (map type_of ts) ≡ unit
first_none [] e = refl
first_none (t ∷ ts) e = absurd (cc)

pub ruleset iterator_steps = (type_lemmas, first_none)
