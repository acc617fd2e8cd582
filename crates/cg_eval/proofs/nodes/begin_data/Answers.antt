use Rattle.std.proofs.Common.{arith}
use Rattle.cg_core.specs.Terms.{note_of}
use Rattle.cg_eval_machine.specs.Machine.{rest, context_of}
use Rattle.cg_eval.proofs.Begins as steps
use Rattle.cg_core.proofs.FormGroups.{no_data}
use Rattle.cg_eval.proofs.nodes.begin_data.Goals as goal
use Rattle.cg_base.proofs.Truths.{second}

pub returns-in-Con-clause-gives : goal.returns-in-Con-clause-gives
returns-in-Con-clause-gives c = λ table.
    let e = steps.begin_con table c.args.term.now c.in-Con.name c.in-Con.payload c.deref.result.now (rest table c.args.m.now.frames.items (context_of c.args.m.now)) (context_of c.args.m.now) c.args.m.now.left c.in-Con.is c.deref.ensures in
    grind (arith, c.wrap.ensures.gives table (note_of c.args.term.now.note))

pub returns-in-Case-clause-gives : goal.returns-in-Case-clause-gives
returns-in-Case-clause-gives c = λ table.
    let e = steps.begin_case table c.args.term.now c.in-Case.value c.in-Case.at c.in-Case.field-2 c.in-Case.found c.in-Case.other (rest table c.args.m.now.frames.items (context_of c.args.m.now)) (context_of c.args.m.now) c.args.m.now.left c.in-Case.is in
    grind (arith, c.match_on.ensures.gives table (note_of c.args.term.now.note) c.in-Case.field-2)

pub returns-in-Esac-clause-gives : goal.returns-in-Esac-clause-gives
returns-in-Esac-clause-gives c = λ table.
    let e = steps.begin_esac table c.args.term.now c.in-Esac.field-0 c.in-Esac.value (rest table c.args.m.now.frames.items (context_of c.args.m.now)) (context_of c.args.m.now) c.args.m.now.left c.in-Esac.is in
    grind (arith, c.unwrap.ensures.gives table (note_of c.args.term.now.note) c.in-Esac.field-0)

pub returns-in-Struct-clause-gives : goal.returns-in-Struct-clause-gives
returns-in-Struct-clause-gives c = λ table.
    let e = steps.begin_struct table c.args.term.now c.in-Struct.terms c.as_slice.result.now (rest table c.args.m.now.frames.items (context_of c.args.m.now)) (context_of c.args.m.now) c.args.m.now.left c.in-Struct.is c.as_slice.ensures in
    grind (arith, c.fields.ensures.gives table)

pub returns-in-Member-clause-gives : goal.returns-in-Member-clause-gives
returns-in-Member-clause-gives c = λ table.
    let e = steps.begin_member table c.args.term.now c.in-Member.whole c.in-Member.at (rest table c.args.m.now.frames.items (context_of c.args.m.now)) (context_of c.args.m.now) c.args.m.now.left c.in-Member.is in
    grind (arith, c.pick.ensures.gives table (note_of c.args.term.now.note))

pub returns-in-Take-clause-gives : goal.returns-in-Take-clause-gives
returns-in-Take-clause-gives c = λ table.
    let e = steps.begin_take table c.args.term.now c.in-Take.whole c.in-Take.at c.in-Take.field-2 c.in-Take.field-3 c.in-Take.body (rest table c.args.m.now.frames.items (context_of c.args.m.now)) (context_of c.args.m.now) c.args.m.now.left c.in-Take.is in
    grind (arith, c.take_out.ensures.gives table (note_of c.args.term.now.note) c.in-Take.field-2 c.in-Take.field-3)

pub returns-in-Put-clause-gives : goal.returns-in-Put-clause-gives
returns-in-Put-clause-gives c = λ table.
    let e = steps.begin_put table c.args.term.now c.in-Put.whole c.in-Put.at c.in-Put.value (rest table c.args.m.now.frames.items (context_of c.args.m.now)) (context_of c.args.m.now) c.args.m.now.left c.in-Put.is in
    grind (arith, c.put_in.ensures.gives table (note_of c.args.term.now.note))

pub leaf-requires : goal.leaf-requires
leaf-requires c = let d = c.in_default in second _ _ c.requires (no_data c.args.term.now.form d.not-Con d.not-Case d.not-Esac d.not-Struct d.not-Member d.not-Take d.not-Put)
