-- What the parts of written types are, one by one.
use Rattle.std.specs.Prelude.{ℕ, List, false, Option, Some, None, if◌then◌else◌}
use Rattle.std.specs.Option.{option_map}
use Rattle.cg_base.specs.Types.{Tau, var, unit, Piece}
use Rattle.cg_surface.specs.declared.written.SAlt.{SAlt, out-SAlt}
use Rattle.cg_surface.specs.Written.{Written, written_of}
use Rattle.cg_resolve_def.specs.Declared.{is_variable, looked_up, plain_types}
use Rattle.cg_resolve_def.specs.Expand.{Bodies, applied_as, expanded, position_of}
use Rattle.cg_resolve_expand.specs.Alternatives.{alt_name}

-- a name of a type that is no variable, with its arguments
unfoldable pub applied_type : Bodies → List ℕ → List Tau → Tau
applied_type known n args = applied_as n args (looked_up plain_types n) (known n)

-- a name of a type, among the type variables of these names
unfoldable pub named_type : Bodies → List (List ℕ) → List ℕ → List Tau → Tau
named_type known vars n args = if is_variable n then var (position_of vars n) else applied_type known n args

-- a payload, and an alternative with its own
abbrev pub payload_type : Bodies → List (List ℕ) → Option Written → Tau
payload_type known vars None = unit
payload_type known vars (Some t) = expanded known vars t

abbrev pub alt_piece : Bodies → List (List ℕ) → SAlt → Piece
alt_piece known vars a = record { name = alt_name a; ty = payload_type known vars (option_map written_of (out-SAlt a).ty); taken = false }
