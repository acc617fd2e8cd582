use Rattle.cg_cmachine_resolve.proofs.Queues.{on_ok}
use Rattle.cg_cmachine_resolve.proofs.Variables.{added_all, added_params}
use Rattle.cg_cmachine_resolve.proofs.scope.Variables.add_all.Goals as goal

pub returns-in-None : goal.returns-in-None
returns-in-None c = added_params c.args.structs.now c.args.function.now c.as_slice.result.now c.args.self.now c.add.new.self c.as_slice.ensures c.in-None.is c.in_ok-add.ensures

pub returns-in-Some : goal.returns-in-Some
returns-in-Some c =
    on_ok c.add-in-Some.result c.add-in-Some.ensures
    (added_all c.args.structs.now c.args.function.now c.in-Some.body c.as_slice.result.now c.as_slice-in-Some.result.now c.args.self.now c.add.new.self c.add-in-Some.new.self c.as_slice.ensures c.in-Some.is
    c.as_slice-in-Some.ensures c.in_ok-add.ensures)
