use Rattle.std.proofs.Common.{arith}
use Rattle.cg_core.specs.Terms.{note_of}
use Rattle.cg_eval_machine.specs.Machine.{rest, context_of}
use Rattle.cg_eval.proofs.Begins as steps
use Rattle.cg_core.proofs.FormGroups.{is_rest}
use Rattle.cg_eval.proofs.nodes.begin.Goals as goal

pub returns-in-Op-clause-gives : goal.returns-in-Op-clause-gives
returns-in-Op-clause-gives c = λ table.
    let e = steps.begin_op table c.args.term.now c.in-Op.op c.in-Op.operands (rest table c.args.m.now.frames.items (context_of c.args.m.now)) (context_of c.args.m.now) c.args.m.now.left c.in-Op.is in
    grind (arith, c.operate.ensures.gives table (note_of c.args.term.now.note))

pub returns-in-App-clause-gives : goal.returns-in-App-clause-gives
returns-in-App-clause-gives c = λ table.
    let e = steps.begin_app table c.args.term.now c.in-App.function c.in-App.argument (rest table c.args.m.now.frames.items (context_of c.args.m.now)) (context_of c.args.m.now) c.args.m.now.left c.in-App.is in
    grind (arith, c.call.ensures.gives table (note_of c.args.term.now.note))

pub returns-in-If-clause-gives : goal.returns-in-If-clause-gives
returns-in-If-clause-gives c = λ table.
    let e = steps.begin_if table c.args.term.now c.in-If.test c.in-If.yes c.in-If.no (rest table c.args.m.now.frames.items (context_of c.args.m.now)) (context_of c.args.m.now) c.args.m.now.left c.in-If.is in
    grind (arith, c.choose.ensures.gives table (note_of c.args.term.now.note))

pub returns-in-Let-clause-gives : goal.returns-in-Let-clause-gives
returns-in-Let-clause-gives c = λ table.
    let e = steps.begin_lets table c.args.term.now c.in-Let.field-0 c.in-Let.value c.in-Let.body (rest table c.args.m.now.frames.items (context_of c.args.m.now)) (context_of c.args.m.now) c.args.m.now.left c.in-Let.is in
    grind (arith, c.bind_value.ensures.gives table (note_of c.args.term.now.note) c.in-Let.field-0)

pub returns-in-LetBang-clause-gives : goal.returns-in-LetBang-clause-gives
returns-in-LetBang-clause-gives c = λ table.
    let e = steps.begin_bang table c.args.term.now c.in-LetBang.field-0 c.in-LetBang.field-1 c.in-LetBang.value c.in-LetBang.body (rest table c.args.m.now.frames.items (context_of c.args.m.now)) (context_of c.args.m.now) c.args.m.now.left c.in-LetBang.is in
    grind (arith, c.bind_value-in-LetBang.ensures.gives table (note_of c.args.term.now.note) c.in-LetBang.field-1)

pub begin_data-requires : goal.begin_data-requires
begin_data-requires c = let d = c.in_default in is_rest c.args.term.now.form d.not-Op d.not-App d.not-Let d.not-LetBang d.not-If d.not-Cast d.not-Annot
