use Rattle.std.specs.Prelude.{codes}
use Rattle.cg_driver_steps.specs.declared.status.Status.TheVariants.{CertRefused, TooLarge}
use Rattle.cg_driver.specs.Judged.{RefusesCert}
use Rattle.cg_driver_lines.specs.Lines.{node_line, limit_line}
use Rattle.cg_driver.proofs.Rechecking.{row_refused, place_refused, size_refused}
use Rattle.cg_driver.proofs.Saying.{line_told}
use Rattle.cg_driver.proofs.recheck.not_certified.Goals as goal

pub returns-in-C1 : goal.returns-in-C1
returns-in-C1 c fs cert lawful h = let refused = rw c.in-C1.is at h in absurd refused.0

pub returns-in-C2 : goal.returns-in-C2
returns-in-C2 c fs cert lawful h =
    line_told (RefusesCert c.args.name.now fs cert) CertRefused (node_line c.args.name.now (codes "C2") c.in-C2.node) (row_refused c.args.name.now fs cert lawful c.in-C2.node (rw c.in-C2.is at h)) _ c.wrong_node.ensures

pub returns-in-C3 : goal.returns-in-C3
returns-in-C3 c fs cert lawful h =
    line_told (RefusesCert c.args.name.now fs cert) CertRefused (node_line c.args.name.now (codes "C3") c.in-C3.node) (place_refused c.args.name.now fs cert lawful c.in-C3.node (rw c.in-C3.is at h)) _ c.wrong_node-in-C3.ensures

pub returns-in-Limit : goal.returns-in-Limit
returns-in-Limit c fs cert lawful h =
    line_told (RefusesCert c.args.name.now fs cert) TooLarge (limit_line c.limit_name.result.now) (size_refused c.args.name.now fs cert lawful c.in-Limit.limit c.limit_name.result.now c.limit_name.ensures (rw c.in-Limit.is at h)) _ c.beyond.ensures
