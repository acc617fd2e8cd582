use Rattle.cg_core.specs.Kernels.{kernel_of}
use Rattle.cg_driver.proofs.Rechecking.{refused_rules, rechecked_rules}
use Rattle.cg_driver.proofs.recheck.recheck_cert.Goals as goal

pub returns-in-Ok : goal.returns-in-Ok
returns-in-Ok c found same is = rechecked_rules c.args.name.now c.args.kernel c.args.cert.now _ c.in-Ok.ensures found same is c.rechecked.result c.rechecked.ensures

pub returns-in-Err : goal.returns-in-Err
returns-in-Err c found same is =
    refused_rules c.args.name.now (kernel_of c.args.kernel) c.args.cert.now found same is c.not_certified.result
    (c.not_certified.ensures (kernel_of c.args.kernel) c.args.cert.now c.requires.lawful c.in-Err.ensures)
