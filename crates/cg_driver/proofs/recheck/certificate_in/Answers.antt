use Rattle.cg_driver_steps.specs.declared.status.Status.TheVariants.{CertRefused}
use Rattle.cg_driver.specs.Judged.{RefusesText}
use Rattle.cg_driver_lines.specs.Lines.{byte_line}
use Rattle.cg_driver.proofs.Rechecking.{byte_refused}
use Rattle.cg_driver.proofs.Saying.{line_says}
use Rattle.cg_driver.proofs.recheck.certificate_in.Goals as goal

pub returns-in_ok-wrong_byte-in-Err-C1 : goal.returns-in_ok-wrong_byte-in-Err-C1
returns-in_ok-wrong_byte-in-Err-C1 c =
    line_says (RefusesText c.args.name.now c.args.bytes.now) CertRefused (byte_line c.args.name.now c.in-Err-C1.byte) c.in_ok-wrong_byte-in-Err-C1.field-0 c.in_ok-wrong_byte-in-Err-C1.ensures
    (byte_refused c.args.name.now c.args.bytes.now c.in-Err-C1.byte c.if-bytes-gt-CERTIFICATE_LIMIT.false (rw c.in-Err-C1.field-0-is at c.in-Err-C1.ensures))
