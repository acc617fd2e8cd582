use Rattle.std.proofs.Common.{◌∙◌, sym}
use Rattle.cg_base.proofs.NumberLaws.{too_large}
use Rattle.cg_base.proofs.number.literal.Goals as goal

pub returns-in_err-number : goal.returns-in_err-number
returns-in_err-number c = let none = too_large _ _ _ c.loop-digit-test.true c.loop-digit.invariant.0 (sym c.with_digit.ensures ∙ c.in_err-number.was) in cc
