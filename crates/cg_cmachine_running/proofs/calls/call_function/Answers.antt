use Rattle.cg_cmachine_running.proofs.calls.call_function.Goals as goal

pub returns-in-Own-clause-gives : goal.returns-in-Own-clause-gives
returns-in-Own-clause-gives c = λ asked store. rw c.in-Own.is (rw c.as_slice.ensures.value at (c.go_into.ensures.gives asked store))
