use Rattle.std.proofs.Common.{◌≡◌, take}
use Rattle.cg_certcheck_gots.proofs.fields.copied_strings.Given as goal

abbrev pub invariant-loop-string : goal.invariant-loop-string
invariant-loop-string l = l.list ≡ take l.string-index l.strings
