-- What `check` prints of an accepted source.
use Rattle.std.proofs.Common.{◌≡◌, ◌∙◌, List, [], Result, Ok, Err, map, refl, sym, ap}
use Rattle.std.specs.Prelude.{IfOk}
use Rattle.cg_base.specs.declared.memory.Memory.{Memory}
use Rattle.cg_core.specs.declared.kernel.KFun.{KFun}
use Rattle.cg_core.specs.declared.kernel.Kernel.{Kernel}
use Rattle.cg_core.specs.Kernels.{function_of, kernel_of}
use Rattle.cg_driver_steps.specs.declared.report.Report.{Report}
use Rattle.cg_driver_steps.specs.declared.status.Status.TheVariants.{Done}
use Rattle.cg_driver_steps.specs.Steps.{goes}
use Rattle.cg_driver_steps.specs.Parts.{IsLine, Rules}
use Rattle.cg_typing.specs.declared.checked.Checked.{Checked}
use Rattle.cg_typing.specs.Holds.{kernel_in}
use Rattle.cg_driver.specs.Commands.{Judges, checked_line}
use Rattle.cg_driver.specs.Found.{Found, functions}
use Rattle.cg_driver.specs.Judged.{Keeps}
use Rattle.cg_driver_lines.specs.Lines.{ok_line}

pub ok_rules : (checked : Checked) (kernel : Kernel) (fs : List KFun) (f : Found) → Keeps checked f → kernel ≡ kernel_in checked → fs ≡ kernel.funs
    → (r : Result Report Memory) → IfOk r (IsLine Done (ok_line (map function_of fs))) → Rules Judges checked_line [] f r
ok_rules checked kernel fs f kept k is (Err e) h = tt
ok_rules checked kernel fs f kept k is (Ok r) h =
    let same : map function_of fs ≡ functions f = ap (map function_of) is ∙ ap kernel_of k ∙ sym kept.same in
    (goes f, refl, (h.0, h.1 ∙ ap ok_line same))
