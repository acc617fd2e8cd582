use Rattle.cg_surface.specs.Programs.{program_of}
use Rattle.cg_driver.proofs.Saying.{kernel_read}
use Rattle.cg_driver.proofs.judge.read_program.Goals as goal

pub returns-in-Ok : goal.returns-in-Ok
returns-in-Ok c =
    kernel_read (program_of c.args.program.now) c.in-Ok.kernel c.in-Ok.ensures.answers.0 c.in-Ok.ensures.answers.1 c.in-Ok.ensures.answers.2 (c.in-Ok.ensures.lawful c.requires)
