use Rattle.std.proofs.Common.{arith}
use Rattle.cg_core.specs.Terms.{note_of}
use Rattle.cg_eval_machine.specs.Machine.{rest, context_of}
use Rattle.cg_eval.proofs.Begins as steps
use Rattle.cg_core.proofs.FormGroups.{no_leaf}
use Rattle.cg_eval.proofs.nodes.leaf.Goals as goal

pub returns-in-Var-clause-gives : goal.returns-in-Var-clause-gives
returns-in-Var-clause-gives c = λ table.
    let e = steps.begin_var table c.args.term.now c.in-Var.at (rest table c.args.m.now.frames.items (context_of c.args.m.now)) (context_of c.args.m.now) c.args.m.now.left c.in-Var.is in
    grind (arith, c.read_variable.ensures.gives table (note_of c.args.term.now.note))

pub returns-in-Fun-clause-gives : goal.returns-in-Fun-clause-gives
returns-in-Fun-clause-gives c = λ table.
    let e = steps.begin_fun table c.args.term.now c.in-Fun.function c.in-Fun.args (rest table c.args.m.now.frames.items (context_of c.args.m.now)) (context_of c.args.m.now) c.args.m.now.left c.in-Fun.is in
    grind (arith, c.name_function.ensures.gives table (note_of c.args.term.now.note))

pub unreachable-requires : goal.unreachable-requires
unreachable-requires c = let d = c.in_default in let e = no_leaf c.args.term.now.form d.not-Var d.not-Unit d.not-Bool d.not-Lit d.not-Fun in absurd (cc)
