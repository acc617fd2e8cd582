use Rattle.cg_cmachine.specs.Answering.{none_asked}
use Rattle.cg_cmachine_laws.proofs.NeverAstray.{never_astray}
use Rattle.cg_ctree.specs.Trees.{program_of}
use Rattle.cg_cmachine.proofs.answer.run_c.Goals as goal

pub run_c_with-requires-clause-calm : goal.run_c_with-requires-clause-calm
run_c_with-requires-clause-calm g c =
    never_astray (record { program = program_of c.args.program.now; links = c.new-links.result; asked = none_asked }) c.new-links.ensures c.args.budget c.args.function.now c.args.arg.now (g.S.Store.stored c.args.store.now)
