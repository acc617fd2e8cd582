-- What the copies of a list hold.
use Rattle.std.specs.Prelude.{List, Option, Some, None}
use Rattle.cg_core.specs.declared.term.Term.{Term}
use Rattle.cg_core.specs.declared.term.Typed.{Typed}
use Rattle.cg_mono.specs.Copies.{body_by}
use Rattle.cg_mono.specs.declared.copies.Copy.{Copy}
use Rattle.cg_mono.specs.declared.copies.Mono.{Mono}

abbrev pub copies_in : Mono → List Copy
copies_in m = m.copies.items

-- the body of a copy, where there is one
abbrev pub body_in : Option Copy → Option (Term Typed)
body_in None = None
body_in (Some c) = body_by c
