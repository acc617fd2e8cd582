use Rattle.cg_core.specs.Kernels.{kernel_of}
use Rattle.cg_driver_steps.specs.declared.status.Status.TheVariants.{Refused, TooLarge}
use Rattle.cg_driver.specs.Judged.{RefusesKernel}
use Rattle.cg_driver_lines.specs.Lines.{fault_line, rule_line, limit_line}
use Rattle.cg_driver.proofs.Saying.{line_says, kernel_kept, rule_refused, type_refused}
use Rattle.cg_driver.proofs.judge.judge_kernel.Goals as goal

pub check-requires : goal.check-requires
check-requires c = record { lawful = c.requires }

pub returns-in-Ok : goal.returns-in-Ok
returns-in-Ok c = kernel_kept c.args.kernel c.in-Ok.checked c.in-Ok.ensures

pub returns-in_ok-broken-in-Err-Rule : goal.returns-in_ok-broken-in-Err-Rule
returns-in_ok-broken-in-Err-Rule c =
    line_says (RefusesKernel c.args.file.now (kernel_of c.args.kernel)) Refused (fault_line c.args.file.now c.in-Err-Rule.place (rule_line c.in-Err-Rule.rule)) c.in_ok-broken-in-Err-Rule.field-0
    c.in_ok-broken-in-Err-Rule.ensures
    (rule_refused c.args.file.now (kernel_of c.args.kernel) c.in-Err-Rule.rule c.in-Err-Rule.place c.requires (rw c.in-Err-Rule.field-0-is at c.in-Err-Rule.ensures))

pub returns-in_ok-beyond-in-Err-Limit : goal.returns-in_ok-beyond-in-Err-Limit
returns-in_ok-beyond-in-Err-Limit c =
    line_says (RefusesKernel c.args.file.now (kernel_of c.args.kernel)) TooLarge (limit_line c.limit_name.result.now) c.in_ok-beyond-in-Err-Limit.field-0 c.in_ok-beyond-in-Err-Limit.ensures
    (type_refused c.args.file.now (kernel_of c.args.kernel) c.in-Err-Limit.limit c.limit_name.result.now c.limit_name.ensures c.requires (rw c.in-Err-Limit.field-0-is at c.in-Err-Limit.ensures))
