use Rattle.std.proofs.Common.{◌≡◌, ◌++◌, take}
use Rattle.std.specs.List.{flat_map}
use Rattle.cg_ctext.specs.Printed.{local_text}
use Rattle.cg_ctext.proofs.declaration.locals.Given as goal

abbrev pub invariant-loop-declaration : goal.invariant-loop-declaration
invariant-loop-declaration l = l.text.items ≡ l.fn.text.items ++ flat_map local_text (take l.declaration-index l.declarations)
