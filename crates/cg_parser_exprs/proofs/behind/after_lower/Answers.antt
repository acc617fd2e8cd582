use Rattle.cg_parser_symbols.specs.Views.{symbol_view}
use Rattle.cg_parser_build.specs.Bounded.{bounded}
use Rattle.cg_parser_exprs_def.specs.Machine as machine
use Rattle.cg_parser_exprs_def.specs.Held.{types, patterns}
use Rattle.cg_parser_exprs_frames.specs.Stack.{stack_of, stage_of}
use Rattle.cg_parser_build.specs.Views.{view_of, args_view}
use Rattle.cg_parser_exprs.proofs.Default.{at_name, answered}
use Rattle.cg_parser_exprs.proofs.behind.after_lower.Goals as goal

pub returns-in_default : goal.returns-in_default
returns-in_default c =
    answered c.have.result (λ m. stage_of m c.have.new.parts (stack_of c.have.new.stack))
    (machine.after_lower types patterns bounded (symbol_view c.args.symbol) c.args.place c.args.head c.args.name (stack_of c.args.stack.now))
    (machine.have types patterns bounded (symbol_view c.args.symbol) c.args.place (view_of c.name-tree.result) (stack_of c.args.stack.now))
    c.have.ensures
    (at_name c.args.symbol c.args.place c.args.head c.args.name (args_view c.no_args-in_default.result) (view_of c.name-tree.result) (stack_of c.args.stack.now) c.in_default.not-Bracket c.no_args-in_default.ensures c.name-tree.ensures)
