-- Where a field stands in a record type.
use Rattle.std.specs.Prelude.{ℕ, zero, suc, List, if◌then◌else◌}
use Rattle.std.specs.Str.{bytes_eq}
use Rattle.cg_base.specs.Types.{Tau, fields, Parts, end as no_parts, part}

-- where the field of this name stands in a record type; past its end, where there is none
unfoldable pub position_among : List ℕ → Parts → ℕ
position_among n no_parts = zero
position_among n (part x t taken ps) = if bytes_eq n x then zero else suc (position_among n ps)

unfoldable pub position : List ℕ → Tau → ℕ
position n (fields ps sigil) = position_among n ps
position n _ = zero
