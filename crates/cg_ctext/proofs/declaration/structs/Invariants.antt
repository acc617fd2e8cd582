use Rattle.std.proofs.Common.{◌≡◌, ◌++◌, take}
use Rattle.std.specs.List.{flat_map}
use Rattle.cg_ctext.specs.Printed.{struct_text}
use Rattle.cg_ctext.proofs.declaration.structs.Given as goal

abbrev pub invariant-loop-next : goal.invariant-loop-next
invariant-loop-next l = l.text.items ≡ l.fn.text.items ++ flat_map struct_text (take l.next-index l.declared)
