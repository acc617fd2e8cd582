use Rattle.cg_parser_symbols.specs.Views.{symbol_view}
use Rattle.cg_parser_build.specs.Bounded.{bounded}
use Rattle.cg_parser_exprs_def.specs.Machine as machine
use Rattle.cg_parser_exprs_def.specs.Held.{types, patterns}
use Rattle.cg_parser_exprs_frames.specs.Stack.{stack_of, stage_of}
use Rattle.cg_parser_build.specs.Views.{view_of}
use Rattle.cg_parser_exprs.specs.Behind.{behind}
use Rattle.cg_parser_exprs.proofs.Default.{default, answered}
use Rattle.cg_parser_exprs.proofs.behind.have.Goals as goal

pub returns-in_default : goal.returns-in_default
returns-in_default c =
    answered c.have_more.result (λ m. stage_of m c.have_more.new.parts (stack_of c.have_more.new.stack))
    (machine.have types patterns bounded (symbol_view c.args.symbol) c.args.place (view_of c.args.tree) (stack_of c.args.stack.now))
    (behind (symbol_view c.args.symbol) c.args.place (view_of c.args.tree) (stack_of c.args.stack.now))
    c.have_more.ensures
    (default c.args.symbol c.args.place (view_of c.args.tree) (stack_of c.args.stack.now) c.in_default.not-Dot c.in_default.not-Brace)
