use Rattle.std.proofs.Common.{◌∙◌, ap, Ok}
use Rattle.cg_core.specs.Kernels.{kernel_of}
use Rattle.cg_driver.specs.Judged.{IsCheckedKernel, IsCheckedSource, RefusesKernel, RefusesSource}
use Rattle.cg_driver.proofs.Saying.{steps_follow, read_is, unread_is, kernel_refused, source_checked}
use Rattle.cg_driver.proofs.judge.judge.Goals as goal

pub judge_kernel-requires : goal.judge_kernel-requires
judge_kernel-requires c = (read_is c.args.file.now c.args.source.now c.read_source.result c.in-Ok-Goes.kernel (c.in-Ok-Goes.is ∙ ap Ok c.in-Ok-Goes.field-0-is) c.read_source.ensures).lawful

pub returns-in-Ok-Ends : goal.returns-in-Ok-Ends
returns-in-Ok-Ends c = unread_is c.args.file.now c.args.source.now c.read_source.result c.in-Ok-Ends.report (c.in-Ok-Ends.is ∙ ap Ok c.in-Ok-Ends.field-0-is) c.read_source.ensures

pub returns-in-Ok-Goes : goal.returns-in-Ok-Goes
returns-in-Ok-Goes c =
    let read = read_is c.args.file.now c.args.source.now c.read_source.result c.in-Ok-Goes.kernel (c.in-Ok-Goes.is ∙ ap Ok c.in-Ok-Goes.field-0-is) c.read_source.ensures in
    steps_follow (IsCheckedKernel (kernel_of c.in-Ok-Goes.kernel)) (IsCheckedSource c.args.source.now)
    (RefusesKernel c.args.file.now (kernel_of c.in-Ok-Goes.kernel)) (RefusesSource c.args.file.now c.args.source.now)
    (source_checked c.args.source.now c.in-Ok-Goes.kernel read)
    (kernel_refused c.args.file.now c.args.source.now c.in-Ok-Goes.kernel read) _ c.judge_kernel.ensures
