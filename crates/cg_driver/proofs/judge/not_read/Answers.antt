use Rattle.std.proofs.Common.{refl}
use Rattle.std.specs.Prelude.{codes}
use Rattle.cg_driver_steps.specs.declared.status.Status.TheVariants.{Refused, TooLarge}
use Rattle.cg_driver.specs.Commands.{unknown_byte, open_comment, unexpected, wrong_bar}
use Rattle.cg_driver.specs.Judged.{RefusesReading}
use Rattle.cg_driver_lines.specs.Lines.{fault_line, limit_line}
use Rattle.cg_driver.proofs.Saying.{line_told, syntax_refused, deep_refused}
use Rattle.cg_driver.proofs.judge.not_read.Goals as goal

pub returns-in-S1 : goal.returns-in-S1
returns-in-S1 c source short parses =
    let line = fault_line c.args.file.now c.in-S1.place (codes "S1 unknown byte") in
    line_told (RefusesReading c.args.file.now source) Refused line (syntax_refused c.args.file.now source line short (unknown_byte c.in-S1.place (rw c.in-S1.is at parses) refl)) _ c.fault.ensures

pub returns-in-S2 : goal.returns-in-S2
returns-in-S2 c source short parses =
    let line = fault_line c.args.file.now c.in-S2.place (codes "S2 comment not closed") in
    line_told (RefusesReading c.args.file.now source) Refused line (syntax_refused c.args.file.now source line short (open_comment c.in-S2.place (rw c.in-S2.is at parses) refl)) _ c.fault-in-S2.ensures

pub returns-in-S3 : goal.returns-in-S3
returns-in-S3 c source short parses =
    let line = fault_line c.args.file.now c.in-S3.place (codes "S3 unexpected token") in
    line_told (RefusesReading c.args.file.now source) Refused line (syntax_refused c.args.file.now source line short (unexpected c.in-S3.place (rw c.in-S3.is at parses) refl)) _ c.fault-in-S3.ensures

pub returns-in-S4 : goal.returns-in-S4
returns-in-S4 c source short parses =
    let line = fault_line c.args.file.now c.in-S4.place (codes "S4 bar in no open match") in
    line_told (RefusesReading c.args.file.now source) Refused line (syntax_refused c.args.file.now source line short (wrong_bar c.in-S4.place (rw c.in-S4.is at parses) refl)) _ c.fault-in-S4.ensures

pub returns-in-Nesting : goal.returns-in-Nesting
returns-in-Nesting c source short parses =
    line_told (RefusesReading c.args.file.now source) TooLarge (limit_line (codes "nesting")) (deep_refused c.args.file.now source short (rw c.in-Nesting.is at parses)) _ c.beyond.ensures
