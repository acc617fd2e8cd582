use Rattle.cg_surface.specs.Programs.{program_of}
use Rattle.cg_parser_laws.proofs.Items.{spelled_shaped}
use Rattle.cg_check_tests.proofs.sources.kernel_in.Goals as goal

pub resolved-requires : goal.resolved-requires
resolved-requires c = spelled_shaped _ (program_of c.in-Ok.program) c.in-Ok.ensures.0
