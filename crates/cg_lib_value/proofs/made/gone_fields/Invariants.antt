use Rattle.std.proofs.Common.{◌≡◌, map}
use Rattle.std.specs.Prelude.{replicate}
use Rattle.cg_value.specs.Values.{gone, value_of}
use Rattle.cg_lib_value.proofs.made.gone_fields.Given as goal

abbrev pub invariant-loop : goal.invariant-loop
invariant-loop l = map value_of l.fields ≡ replicate l.counter gone
