-- How wide parts are that may be missing.
use Rattle.std.specs.Prelude.{ℕ, Option, Some, None}
use Rattle.cg_surface.specs.Written.{Written}
use Rattle.cg_resolve_def.specs.Takes.{widest}

abbrev pub widest_payload : Option Written → ℕ
widest_payload None = 0
widest_payload (Some t) = widest t
