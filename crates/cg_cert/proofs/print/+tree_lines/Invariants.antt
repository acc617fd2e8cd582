use Rattle.std.proofs.Common.{◌≡◌, ◌++◌, map, take}
use Rattle.std.specs.List.{flat_map}
use Rattle.cg_core.specs.Derivations.{derivation_of}
use Rattle.cg_cert.specs.Printed.{tree_text}
use Rattle.cg_cert.proofs.print.+tree_lines.Given as goal

abbrev pub invariant-loop-part : goal.invariant-loop-part
invariant-loop-part l = l.text.items ≡ l.initial.text.items ++ flat_map tree_text (map derivation_of (take l.part-index l.part-items))
