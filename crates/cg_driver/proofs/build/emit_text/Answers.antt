use Rattle.cg_ctree.specs.Trees.{program_of}
use Rattle.cg_driver.proofs.Building.{can_print, copies_same, text_emitted, text_meant}
use Rattle.cg_driver.proofs.build.emit_text.Goals as goal

pub print_c-requires : goal.print_c-requires
print_c-requires c =
    record {
      printable = can_print c.args.checked.now c.args.list.now c.in_ok-copies.copies (copies_same c.args.checked.now c.args.list.now c.in_ok-copies.copies c.in_ok-copies.ensures.instances c.in_ok-copies.ensures.entries)
          (program_of c.in_ok-program.program) c.sources_print.ensures c.requires.list c.requires.shallow c.in_ok-program.ensures.printable;
    }

pub returns-clause-text : goal.returns-clause-text
returns-clause-text c =
    text_emitted c.args.checked.now c.args.list.now c.in_ok-copies.copies (copies_same c.args.checked.now c.args.list.now c.in_ok-copies.copies c.in_ok-copies.ensures.instances c.in_ok-copies.ensures.entries)
    (program_of c.in_ok-program.program) c.in_ok-program.ensures.made c.print_c.result c.print_c.ensures.exactly

pub returns-clause-meant : goal.returns-clause-meant
returns-clause-meant c =
    text_meant c.args.checked.now c.args.list.now c.in_ok-copies.copies (copies_same c.args.checked.now c.args.list.now c.in_ok-copies.copies c.in_ok-copies.ensures.instances c.in_ok-copies.ensures.entries)
    (program_of c.in_ok-program.program) c.in_ok-program.ensures.made c.in_ok-program.ensures.simulates c.print_c.result c.print_c.ensures.spells c.print_c.ensures.exactly
