use Rattle.std.proofs.Common.{◌++◌, map, ap, ◌∙◌}
use Rattle.cg_core.specs.Kernels.{function_of}
use Rattle.cg_typing.specs.Holds.{trees_in}
use Rattle.cg_typing.specs.Kept.{maybe_tree}
use Rattle.cg_cert.specs.Printed.{functions_text}
use Rattle.cg_cert.proofs.Printing.{function_printed, functions_printed}
use Rattle.cg_cert.proofs.print.lines.Goals as goal

pub loop-at-preserved : goal.loop-at-preserved
loop-at-preserved c =
    function_printed c.as_slice-fun-items.result.now (trees_in c.args.checked.now) c.loop-at.at c.fun-item.result c.loop-at.text.items c.lines_at.new.text.items _ c.loop-at-test.true
    c.fun-item.is c.loop-at.invariant c.in_ok-lines_at.ensures

pub returns : goal.returns
returns c =
    functions_printed c.as_slice-fun-items.result.now (trees_in c.args.checked.now) c.loop-at.at c.loop-at.text.items _ c.loop-at-test.false c.loop-at.invariant
    ∙ ap (λ fs. c.args.text.now.items ++ functions_text (map function_of fs) (map maybe_tree (trees_in c.args.checked.now))) c.as_slice-fun-items.ensures
    ∙ ap (λ k. c.args.text.now.items ++ functions_text (map function_of k.funs) (map maybe_tree (trees_in c.args.checked.now))) c.kernel.ensures
