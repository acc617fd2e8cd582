use Rattle.std.proofs.Common.{refl}
use Rattle.cg_cmachine_resolve.specs.Scopes.{scope_of}
use Rattle.cg_cmachine_resolve.proofs.Variables.{scope_added}
use Rattle.cg_cmachine_resolve.proofs.scope.Variables.new.Goals as goal

pub returns : goal.returns
returns c =
    scope_added c.args.structs.now (scope_of c.args.structs.now c.args.function.now) (record { list = c.new.result; names = c.new-2.result; slots = 0 }) c.add_all.new.self c.new.ensures.items refl
    (record { first = λ name. rw c.new-2.ensures.empty refl }) c.in_ok-add_all.ensures
