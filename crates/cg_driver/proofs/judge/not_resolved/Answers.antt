use Rattle.std.specs.Prelude.{codes}
use Rattle.cg_resolve_def.specs.Faults.{unknown, twice, arguments}
use Rattle.cg_driver_steps.specs.declared.status.Status.TheVariants.{Refused, TooLarge}
use Rattle.cg_driver.specs.Judged.{RefusesProgram}
use Rattle.cg_driver_lines.specs.Lines.{fault_line, limit_line}
use Rattle.cg_driver.proofs.Saying.{line_told, misnamed, circular, untakable, limited}
use Rattle.cg_driver.proofs.judge.not_resolved.Goals as goal

pub returns-in-N1 : goal.returns-in-N1
returns-in-N1 c p found =
    line_told (RefusesProgram c.args.file.now p) Refused (fault_line c.args.file.now c.in-N1.place (codes "N1 unknown name")) (misnamed c.args.file.now p (unknown c.in-N1.place) (rw c.in-N1.is at found)) _ c.fault.ensures

pub returns-in-N2 : goal.returns-in-N2
returns-in-N2 c p found =
    line_told (RefusesProgram c.args.file.now p) Refused (fault_line c.args.file.now c.in-N2.place (codes "N2 name defined twice")) (misnamed c.args.file.now p (twice c.in-N2.place) (rw c.in-N2.is at found)) _ c.fault-in-N2.ensures

pub returns-in-N3 : goal.returns-in-N3
returns-in-N3 c p found =
    line_told (RefusesProgram c.args.file.now p) Refused (fault_line c.args.file.now c.in-N3.place (codes "N3 circle of mentions")) (let f = rw c.in-N3.is at found in circular c.args.file.now p c.in-N3.place f.0 f.1) _ c.fault-in-N3.ensures

pub returns-in-N4 : goal.returns-in-N4
returns-in-N4 c p found =
    line_told (RefusesProgram c.args.file.now p) Refused (fault_line c.args.file.now c.in-N4.place (codes "N4 wrong number of type arguments")) (misnamed c.args.file.now p (arguments c.in-N4.place) (rw c.in-N4.is at found)) _ c.fault-in-N4.ensures

pub returns-in-N5 : goal.returns-in-N5
returns-in-N5 c p found =
    line_told (RefusesProgram c.args.file.now p) Refused (fault_line c.args.file.now c.in-N5.place (codes "N5 take of no field")) (let f = rw c.in-N5.is at found in untakable c.args.file.now p c.in-N5.place f.0 f.1 f.2) _ c.fault-in-N5.ensures

pub returns-in-Limit : goal.returns-in-Limit
returns-in-Limit c p found =
    let f = rw c.in-Limit.is at found in
    line_told (RefusesProgram c.args.file.now p) TooLarge (limit_line c.limit_name.result.now) (limited c.args.file.now p c.in-Limit.limit c.limit_name.result.now c.limit_name.ensures f.0 f.1) _ c.beyond.ensures
