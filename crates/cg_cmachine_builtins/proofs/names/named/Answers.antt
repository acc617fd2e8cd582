use Rattle.std.proofs.Common.{sym}
use Rattle.cg_cmachine_builtins.proofs.Prefixes.{not_named}
use Rattle.cg_cmachine_builtins.proofs.names.named.Goals as goal

pub returns-in-None : goal.returns-in-None
returns-in-None c = sym (not_named c.args.name.now c.bytes.result.now c.as_slice.result.now c.bytes.ensures c.as_slice.ensures c.in-None.ensures)
