use Rattle.std.proofs.Common.{◌<◌, ◌≤◌, ◌++◌, ◌∷◌, [], length, take, sym, ap, ◌∙◌, arith}
use Rattle.cg_lower_def.specs.Structs.{structs_in}
use Rattle.cg_lower_tables.proofs.Declared.{structs_all, structs_next}
use Rattle.cg_lower_tables.proofs.structs.Structs.declarations.Goals as goal

pub loop-number-preserved : goal.loop-number-preserved
loop-number-preserved c =
    let within : c.loop-number.number < length c.args.self.now.table = let test = c.loop-number-test.true in let len = c.len-number-end.ensures in omega (arith, test, len) in
    c.in_ok-push.ensures.ok
    ∙ ap (λ ss. ss ++ c.in_ok-declaration.field-0 ∷ []) c.loop-number.invariant
    ∙ ap (λ s. take c.loop-number.number (structs_in c.args.self.now.table) ++ s ∷ []) c.in_ok-declaration.ensures
    ∙ sym (structs_next c.args.self.now.table c.loop-number.number within)

pub returns : goal.returns
returns c =
    let past : length c.args.self.now.table ≤ c.loop-number.number = let test = c.loop-number-test.false in let len = c.len-number-end.ensures in omega (arith, test, len) in
    c.loop-number.invariant ∙ structs_all c.args.self.now.table c.loop-number.number past
