-- The alternative of a name.
use Rattle.std.specs.Prelude.{ℕ, suc, List, [], ◌∷◌, Option, Some, None, if◌then◌else◌}
use Rattle.std.specs.Str.{bytes_eq}
use Rattle.cg_base.specs.declared.ty.Part.{Part}

-- its place, counted from this one on
abbrev pub place_from : ℕ → List ℕ → List Part → Option ℕ
place_from i x [] = None
place_from i x (p ∷ ps) = if bytes_eq x p.name then Some i else place_from (suc i) x ps
