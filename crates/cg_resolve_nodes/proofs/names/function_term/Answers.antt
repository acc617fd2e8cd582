use Rattle.std.proofs.Common.{map}
use Rattle.cg_resolve_def.specs.Expand.{bodies}
use Rattle.cg_surface.specs.Written.{written_of}
use Rattle.cg_resolve_nodes.specs.Names.{entries_in, vars_in}
use Rattle.cg_resolve_nodes.proofs.NameSteps.{types_are}
use Rattle.cg_resolve_nodes.proofs.names.function_term.Goals as goal

pub returns : goal.returns
returns c =
    let names = c.args.names.now in
    let e = types_are (entries_in names) (bodies (entries_in names)) (vars_in names) (map written_of c.args.types.now) in
    cc (c.in_ok-args.ensures)
