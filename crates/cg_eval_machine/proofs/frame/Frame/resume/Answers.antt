use Rattle.std.proofs.Common.{arith}
use Rattle.cg_eval_def.specs.Foreigns.{table_of}
use Rattle.cg_eval_machine.proofs.Steps as steps
use Rattle.cg_eval_machine.proofs.frame.Frame.resume.Goals as goal

pub returns-in-Right-clause-gives : goal.returns-in-Right-clause-gives
returns-in-Right-clause-gives c = λ x. grind (arith, steps.on_right, c.descend.ensures.gives (table_of x c.args.checked.now))

pub returns-in-Argument-clause-gives : goal.returns-in-Argument-clause-gives
returns-in-Argument-clause-gives c = λ x. grind (arith, steps.on_argument, c.descend-in-Argument.ensures.gives (table_of x c.args.checked.now))

pub returns-in-Body-clause-gives : goal.returns-in-Body-clause-gives
returns-in-Body-clause-gives c = λ x. grind (arith, steps.on_body, c.with_one.ensures.gives (table_of x c.args.checked.now))

pub returns-in-Arms-clause-gives : goal.returns-in-Arms-clause-gives
returns-in-Arms-clause-gives c = λ x. grind (arith, c.take_arm.ensures.gives (table_of x c.args.checked.now))

pub returns-in-Fields-clause-gives : goal.returns-in-Fields-clause-gives
returns-in-Fields-clause-gives c = λ x. grind (arith, c.next_field.ensures.gives (table_of x c.args.checked.now))

pub returns-in-Open-clause-gives : goal.returns-in-Open-clause-gives
returns-in-Open-clause-gives c = λ x. grind (arith, c.open.ensures.gives (table_of x c.args.checked.now))

pub returns-in-Into-clause-gives : goal.returns-in-Into-clause-gives
returns-in-Into-clause-gives c = λ x. grind (arith, c.put_into.ensures.gives (table_of x c.args.checked.now))

pub returns-in-Call-clause-gives : goal.returns-in-Call-clause-gives
returns-in-Call-clause-gives c = λ x. grind (arith, steps.on_call, c.apply.ensures.gives x)

pub returns-in-Branches-clause-gives : goal.returns-in-Branches-clause-gives
returns-in-Branches-clause-gives c = λ x. grind (arith, c.take_branch.ensures.gives (table_of x c.args.checked.now))

pub returns-in-Turn-clause-gives : goal.returns-in-Turn-clause-gives
returns-in-Turn-clause-gives c = λ x. grind (arith, c.turned.ensures.gives x)

pub give-requires : goal.give-requires
give-requires c = let d = c.in_default in steps.is_at_once c.args.self d.not-Right d.not-Argument d.not-Call d.not-Body d.not-Branches d.not-Arms d.not-Fields d.not-Open d.not-Into d.not-Turn

pub returns-in_default-clause-gives : goal.returns-in_default-clause-gives
returns-in_default-clause-gives c = λ x. grind (arith, c.give.ensures.gives (table_of x c.args.checked.now))
