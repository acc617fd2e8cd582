use Rattle.cg_resolve_declared.specs.Declarations.{entries_of}
use Rattle.cg_resolve_def.specs.Desugar.{functions_of, function_of_entry}
use Rattle.cg_resolve.proofs.FunctionSteps.{kernel_error, made_more, made_over}
use Rattle.cg_resolve.proofs.functions.kernel.Goals as goal

pub returns-in_err-push_function : goal.returns-in_err-push_function
returns-in_err-push_function c =
    kernel_error (functions_of (entries_of c.args.declared.now)) c.in_err-push_function.field-0.0 c.from_residual.result c.from_residual.ensures.1
    (made_over (function_of_entry (entries_of c.args.declared.now)) c.args.declared.now.items.now c.loop-item.item-index c.item-item.result c.loop-item-test.true c.item-item.is c.in_err-push_function.field-0.0 c.in_err-push_function.ensures)

pub loop-item-preserved : goal.loop-item-preserved
loop-item-preserved c =
    made_more (function_of_entry (entries_of c.args.declared.now)) c.args.declared.now.items.now c.loop-item.item-index c.item-item.result c.loop-item-test.true c.item-item.is c.loop-item.funs c.push_function.new.funs
    c.loop-item.invariant c.in_ok-push_function.ensures.0 c.in_ok-push_function.ensures.1
