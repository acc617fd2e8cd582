use Rattle.std.proofs.Common.{rules}
use Rattle.cg_cmachine_resolve.proofs.index.place_of.Goals as goal

pub returns : goal.returns
returns c = search rules
