use Rattle.std.proofs.Common.{arith, ◌<◌, length, subst, sym}
use Rattle.cg_cmachine_resolve.proofs.Callees.{function_within}
use Rattle.cg_cmachine_resolve.proofs.names.Named.own.Goals as goal

pub offset_bounds-as_slice-at : goal.offset_bounds-as_slice-at
offset_bounds-as_slice-at c =
    let within : c.args.at < length c.as_slice.result.now =
    rw c.as_slice.ensures (subst (λ s. c.args.at < length s.program.funs) (sym c.self.view_is) (function_within c.args.self.now c.args.at _ c.requires.found)) in
    omega (arith, within, c.as_slice.type_inv.1)

pub bounds-as_slice-at : goal.bounds-as_slice-at
bounds-as_slice-at c = rw c.as_slice.ensures (subst (λ s. c.args.at < length s.program.funs) (sym c.self.view_is) (function_within c.args.self.now c.args.at _ c.requires.found))
