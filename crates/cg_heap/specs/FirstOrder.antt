-- Types without type variables, functions and users' abstract types.
use Rattle.std.specs.Prelude.{Bool}
use Rattle.cg_base.specs.Types.{Tau, Parts}
use Rattle.cg_value.specs.Foreign.{is_plain_type, are_plain_parts}
use Rattle.cg_value.specs.NoForeign.{no_foreign}

-- no type variable is in a type, no function, and no abstract type but those that are declared beforehand: SysState without
-- arguments, and WordArray of a word
abbrev pub is_first_order : Tau → Bool
is_first_order t = is_plain_type no_foreign.owns t

abbrev pub are_first_order : Parts → Bool
are_first_order ps = are_plain_parts no_foreign.owns ps
