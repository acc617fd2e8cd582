-- What the copies of instances stand for.
use Rattle.std.specs.Prelude.{Option}
use Rattle.std.specs.Option.{option_map}
use Rattle.cg_base.specs.Types.{type_of}
use Rattle.cg_core.specs.declared.term.Term.{Term}
use Rattle.cg_core.specs.declared.term.Typed.{Typed}
use Rattle.cg_mono.specs.declared.copies.Body.{Body}
use Rattle.cg_mono.specs.declared.copies.Body.TheVariants.{Own, Source}
use Rattle.cg_mono.specs.declared.copies.Copy.{Copy}
use Rattle.cg_typing.specs.Instances.{Entry}
use Rattle.cg_typing.specs.Kept.{maybe_core}

-- the core that a body is, wherever it stands
abbrev pub core_by : Body → Term Typed
core_by (Own core) = core
core_by (Source core) = core.now

-- the body of a copy, where it has one
abbrev pub body_by : Copy → Option (Term Typed)
body_by c = option_map core_by c.body

abbrev pub copy_of : Copy → Entry
copy_of c = record { ty = type_of c.ty; body = maybe_core (body_by c) }
