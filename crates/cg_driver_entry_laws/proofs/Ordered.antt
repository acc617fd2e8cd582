-- The items of a program whose names stand have an order, and so its kernel is lawful.
use Rattle.std.proofs.Common.{List}
use Rattle.cg_graphs.specs.Ranks.{in_order}
use Rattle.cg_graphs.specs.RankLaws.{MentionsStandBefore}
use Rattle.cg_core_def.specs.Lawful.{IsLawfulKernel}
use Rattle.cg_surface.specs.Programs.{Entry}
use Rattle.cg_resolve_def.specs.Desugar.{NamesStand, WithinLimits, functions_of}
use Rattle.cg_resolve_def.specs.Mentions.{mentions}
use Rattle.cg_resolve_def.specs.Shaped.{IsShaped}
use Rattle.cg_resolve_laws.proofs.Kernel.{desugared_lawful}
use Rattle.cg_resolve_laws.proofs.Mentioned.{mentions_closed}

-- the kernel of a program whose names stand is lawful, by the law that mentions stand before what mentions them
pub kernel_lawful : MentionsStandBefore → (p : List Entry) → IsShaped p → NamesStand p → WithinLimits p → IsLawfulKernel (functions_of p)
kernel_lawful ordered p shaped names limits =
    desugared_lawful p (in_order (mentions p)) shaped names.names (ordered (mentions p) (mentions_closed p) names.circles) limits.1
