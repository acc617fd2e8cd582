use Rattle.cg_ctree.specs.Trees.{program_of}
use Rattle.cg_ctext.proofs.Readings.{spells_equal, begins_equal}
use Rattle.cg_ctext.proofs.print.print_c.Goals as goal

pub returns-clause-spells : goal.returns-clause-spells
returns-clause-spells c = spells_equal (program_of c.args.program.now) c.in_ok-text.text.items c.requires.printable c.in_ok-text.ensures

pub returns-clause-begins : goal.returns-clause-begins
returns-clause-begins c = begins_equal (program_of c.args.program.now) c.in_ok-text.text.items c.in_ok-text.ensures
