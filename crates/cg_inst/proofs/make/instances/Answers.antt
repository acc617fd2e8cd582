use Rattle.std.proofs.Common.{◌≡◌, Err, arith, subst, sym}
use Rattle.cg_inst.specs.Answered.{Answers}
use Rattle.cg_inst.specs.Judged.{core_in, functions_in}
use Rattle.cg_inst.proofs.MakeSteps.{answers_search}
use Rattle.cg_inst.proofs.make.instances.Goals as goal

pub returns-in_err-found : goal.returns-in_err-found
returns-in_err-found c =
    let functions = functions_in c.args.checked.now in let cores = core_in c.args.checked.now in
    let same : c.from_residual.result ≡ Err c.in_err-found.field-0.0 = grind arith in
    subst (Answers functions cores) (sym same) (answers_search functions cores c.in_err-found.field-0.0 c.in_err-found.ensures)
