use Rattle.cg_cmachine_resolve.proofs.names.Named.callee.Goals as goal

pub returns-in-Some-find : goal.returns-in-Some-find
returns-in-Some-find c = c.own.ensures
