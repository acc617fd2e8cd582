use Rattle.cg_surface.specs.Programs.{program_of}
use Rattle.cg_parser_laws.proofs.Items.{spelled_shaped}
use Rattle.cg_driver.specs.Judged.{IsKernelOf, IsReadSource, RefusesProgram, RefusesReading}
use Rattle.cg_driver.proofs.Saying.{steps_follow, source_read, program_refused}
use Rattle.cg_driver.proofs.judge.read_source.Goals as goal

pub read_program-requires : goal.read_program-requires
read_program-requires c = spelled_shaped c.args.source.now (program_of c.in-Ok.program) c.in-Ok.ensures.0

pub returns-in-Ok : goal.returns-in-Ok
returns-in-Ok c =
    steps_follow (IsKernelOf (program_of c.in-Ok.program)) (IsReadSource c.args.source.now)
    (RefusesProgram c.args.file.now (program_of c.in-Ok.program)) (RefusesReading c.args.file.now c.args.source.now)
    (source_read c.args.source.now (program_of c.in-Ok.program) c.if-source-gt-SOURCE_LIMIT.false c.in-Ok.ensures.0 c.in-Ok.ensures.1)
    (program_refused c.args.file.now c.args.source.now (program_of c.in-Ok.program) c.if-source-gt-SOURCE_LIMIT.false c.in-Ok.ensures.0 c.in-Ok.ensures.1) _
    c.read_program.ensures
