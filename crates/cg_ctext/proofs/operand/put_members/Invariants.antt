use Rattle.std.proofs.Common.{◌≡◌, ◌++◌, take}
use Rattle.cg_ctext.specs.Printed.{members_text}
use Rattle.cg_ctext.specs.Signs.{sign_before}
use Rattle.cg_ctext.proofs.operand.put_members.Given as goal

abbrev pub invariant-loop-member : goal.invariant-loop-member
invariant-loop-member l = record {
  printed : l.text.items ≡ l.fn.text.items ++ members_text l.behind_arrow (take l.member-index l.members);
  behind : l.before ≡ sign_before l.behind_arrow (take l.member-index l.members);
}
