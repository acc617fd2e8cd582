use Rattle.std.proofs.Common.{take, map}
use Rattle.cg_resolve_declared.specs.Tables.{IsSetOf}
use Rattle.cg_surface.specs.Written.{to_fields, field_of}
use Rattle.cg_resolve_takes.specs.Heads.{field_names}
use Rattle.cg_resolve_takes.proofs.head.names.Given as goal

abbrev pub invariant-loop-part : goal.invariant-loop-part
invariant-loop-part l = IsSetOf (field_names (to_fields (map field_of (take l.part-index l.part-items)))) l.names
