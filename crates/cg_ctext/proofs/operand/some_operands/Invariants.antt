use Rattle.std.proofs.Common.{◌≡◌, ◌++◌, take}
use Rattle.cg_ctext.specs.Printed.{some_text, opnd_text}
use Rattle.cg_ctext.proofs.Rows.{comma}
use Rattle.cg_ctext.proofs.operand.some_operands.Given as goal

abbrev pub invariant-loop-next : goal.invariant-loop-next
invariant-loop-next l = record {
  printed : l.text.items ≡ l.fn.text.items ++ some_text opnd_text (take l.next-index l.operands);
  behind : l.before ≡ comma (take l.next-index l.operands);
}
