use Rattle.cg_cmachine_running.proofs.running.begin.Goals as goal

pub returns-in-Assign-clause-gives : goal.returns-in-Assign-clause-gives
returns-in-Assign-clause-gives g c = λ asked. rw c.in-Assign.is (c.assign_any.ensures.gives asked)

pub returns-in-If-clause-gives : goal.returns-in-If-clause-gives
returns-in-If-clause-gives g c = λ asked. rw c.in-If.is (c.branch-alloc.ensures.gives c.args.run.now.program.now asked c.args.run.now.budget)

pub returns-in-While-clause-gives : goal.returns-in-While-clause-gives
returns-in-While-clause-gives g c = λ asked. rw c.in-While.is (c.turn.ensures.gives c.args.run.now.program.now asked c.args.run.now.budget)

pub returns-in-Switch-clause-gives : goal.returns-in-Switch-clause-gives
returns-in-Switch-clause-gives g c = λ asked. rw c.in-Switch.is (rw c.as_slice.ensures.value at (c.switch.ensures.gives c.args.run.now.program.now asked c.args.run.now.budget))

pub returns-in-Call-clause-gives : goal.returns-in-Call-clause-gives
returns-in-Call-clause-gives g c = λ asked. rw c.in-Call.is (rw c.as_slice-in-Call.ensures.value at (c.call_aside.ensures.gives asked))

pub returns-in-Return-clause-gives : goal.returns-in-Return-clause-gives
returns-in-Return-clause-gives g c = λ asked. rw c.in-Return.is (c.give_back.ensures.gives c.args.run.now.program.now asked c.args.run.now.budget)
