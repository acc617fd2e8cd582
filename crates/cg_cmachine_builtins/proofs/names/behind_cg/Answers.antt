use Rattle.std.proofs.Common.{sym}
use Rattle.cg_cmachine_builtins.proofs.Prefixes.{not_behind_cg}
use Rattle.cg_cmachine_builtins.proofs.names.behind_cg.Goals as goal

pub returns-in-None : goal.returns-in-None
returns-in-None c =
    sym (not_behind_cg c.args.text.now c.as_slice.result.now c.as_slice-2.result.now c.as_slice-3.result.now c.as_slice.ensures c.as_slice-2.ensures c.as_slice-3.ensures (sym c.if-eq.ensures)
    (sym c.if-eq-2.ensures) c.in-None.ensures)
