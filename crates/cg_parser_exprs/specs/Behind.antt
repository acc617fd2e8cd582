-- Behind an atom.
use Rattle.std.specs.Prelude.{List, Option, if◌then◌else◌}
use Rattle.cg_base.specs.declared.place.Place.{Place}
use Rattle.cg_surface.specs.Exprs.{Expr}
use Rattle.cg_parser_symbols.specs.Symbols.{Symbol}
use Rattle.cg_parser_build.specs.Bounded.{bounded}
use Rattle.cg_parser_exprs_def.specs.Machine as machine
use Rattle.cg_parser_exprs_def.specs.Held.{Held, Within, types, patterns}

-- behind an atom with what is behind it, at neither a dot nor a brace
abbrev pub behind : Symbol → Place → Option Expr → List Within → Held
behind s p e fs = if machine.starts_atom s then (let r = machine.closed types patterns bounded 1 e fs in machine.on_argument types patterns bounded s p r.0 r.1) else machine.go_on types patterns bounded s p e fs
