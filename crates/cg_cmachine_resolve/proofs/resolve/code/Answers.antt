use Rattle.cg_cmachine_resolve.proofs.Positions.{head_of, is_code}
use Rattle.cg_cmachine_resolve.proofs.resolve.code.Goals as goal

pub returns : goal.returns
returns c =
    is_code c.args.named.now c.args.function.now _
    (head_of c.args.named.now c.args.structs.now c.args.function.now c.as_slice.result.now c.kind.result c.in_ok-params.params.items c.in_ok-variables.variables.slots c.is_some.result c.requires c.as_slice.ensures
    c.kind.ensures c.in_ok-params.ensures c.in_ok-variables.ensures.many c.is_some.ensures)
    (rw c.new-setting.ensures at c.in_ok-blocks.ensures)
