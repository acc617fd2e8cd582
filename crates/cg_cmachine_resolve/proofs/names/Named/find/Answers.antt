use Rattle.cg_cmachine_resolve.proofs.Callees.{finds}
use Rattle.cg_cmachine_resolve.proofs.names.Named.find.Goals as goal

pub returns : goal.returns
returns c =
    rw (← c.self.view_is)
    (finds c.args.name.now (record { program = c.self.inside.program.now; links = c.self.inside.links.now }) c.self.inside.functions c.place_of.result c.self.invariant.functions_named c.place_of.ensures)
