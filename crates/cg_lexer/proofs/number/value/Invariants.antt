use Rattle.std.proofs.Common.{◌≡◌, ◌<◌, ◌^◌, drop}
use Rattle.cg_lexer.specs.Numbers.{base_size, number_from}
use Rattle.cg_lexer.proofs.number.value.Given as goal

abbrev pub invariant-loop-digit : goal.invariant-loop-digit
invariant-loop-digit l = record {
  same : number_from (base_size l.base) l.number (drop l.digit-index l.digits) ≡ number_from (base_size l.base) 0 l.digits;
  small : l.number < 2 ^ 64;
}
