use Rattle.std.proofs.Common.{◌≡◌, ◌++◌, take}
use Rattle.cg_ctext.specs.Printed.{some_text, decl_text}
use Rattle.cg_ctext.proofs.Rows.{comma}
use Rattle.cg_ctext.proofs.declaration.some_parameters.Given as goal

abbrev pub invariant-loop-parameter : goal.invariant-loop-parameter
invariant-loop-parameter l = record {
  printed : l.text.items ≡ l.fn.text.items ++ some_text decl_text (take l.parameter-index l.parameters);
  behind : l.before ≡ comma (take l.parameter-index l.parameters);
}
