use Rattle.std.proofs.Common.{◌∙◌, sym}
use Rattle.cg_lexer.proofs.Numbers.{too_large}
use Rattle.cg_lexer.proofs.number.value.Goals as goal

pub returns-in_err-number : goal.returns-in_err-number
returns-in_err-number c = let none = too_large _ _ _ _ _ c.size.ensures c.loop-digit-test.true c.loop-digit.invariant.same (sym c.with_digit.ensures ∙ c.in_err-number.was) in cc
