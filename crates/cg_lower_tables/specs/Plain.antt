-- For each form a type that stands for all types of it (docs/LANGUAGE.md, "The C of instances", types).
use Rattle.std.specs.Prelude.{ℕ, false, List, [], ◌++◌, codes, if◌then◌else◌}
use Rattle.std.specs.Str.{bytes_eq}
use Rattle.cg_base.specs.declared.kind.Sigil.TheVariants.{R, W, U}
use Rattle.cg_base.specs.declared.kind.Word.TheVariants.{U8, U32}
use Rattle.cg_base.specs.Types.{Tau, word, arrow, abs, variant, fields, Taus, none, more, Parts, end, part}
use Rattle.cg_cmachine_def.specs.BuiltIns.{width_text}
use Rattle.cg_lower_def.specs.CTypes.{element}
use Rattle.cg_lower_tables.specs.declared.host.Host.{Host}
use Rattle.cg_lower_tables.specs.declared.host.Host.TheVariants as host

-- what C sees of an abstract type
abbrev pub host_of : List ℕ → Taus → Host
host_of x args =
    if bytes_eq x (codes "SysState") then host.System
    else if bytes_eq x (codes "WordArray") then host.Array (element args) else host.Foreign

-- the struct that C points to
abbrev pub host_struct : Host → List ℕ
host_struct host.System = codes "SysState"
host_struct (host.Array w) = codes "W" ++ width_text w
host_struct host.Foreign = codes "Foreign"

-- the type that stands for all that C sees so
abbrev pub host_plain : Host → Tau
host_plain host.System = abs (codes "SysState") none W
host_plain (host.Array w) = abs (codes "WordArray") (more (word w) none) W
host_plain host.Foreign = abs (codes "Foreign") none W

-- the type that stands for all types of a type's form
unfoldable mutual
  pub plain : Tau → Tau
  plain (word w) = word w
  plain (arrow a b) = word U32
  plain (abs x args sigil) = host_plain (host_of x args)
  plain (variant ps) = variant (plain_parts ps)
  plain (fields ps U) = fields (plain_parts ps) U
  plain (fields ps R) = fields (plain_parts ps) W
  plain (fields ps W) = fields (plain_parts ps) W
  plain _ = word U8

  pub plain_parts : Parts → Parts
  plain_parts end = end
  plain_parts (part x t taken ps) = part [] (plain t) false (plain_parts ps)
