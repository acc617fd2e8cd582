-- The law of desugaring.
use Rattle.std.specs.Prelude.{◌≡◌, ℕ, ◌≤◌, List, []}
use Rattle.cg_graphs.specs.Circles.{IsOrder}
use Rattle.cg_core_def.specs.Lawful.{IsLawfulKernel}
use Rattle.cg_surface.specs.Programs.{Entry}
use Rattle.cg_resolve_def.specs.Desugar.{functions_of, parts_limit}
use Rattle.cg_resolve_def.specs.Faults.{program_faults}
use Rattle.cg_resolve_def.specs.Mentions.{mentions}
use Rattle.cg_resolve_def.specs.Takes.{widest_part}
use Rattle.cg_resolve_def.specs.Shaped.{IsShaped}

-- A program of a shape that the grammar gives, without a fault of names, whose items stand in an order, and in which nothing that is written
-- has more parts than the limit, has a lawful kernel. The limit matters to tuples alone: the names of their components are apart as far as
-- `decimal` tells numbers apart, which is below 10 ^ 64, and without a limit this is false (proofs/Limit.antt).
abbrev pub DesugaredIsLawful : Type 0
DesugaredIsLawful = (entries : List Entry) (order : List ℕ) → IsShaped entries → program_faults entries ≡ [] → IsOrder (mentions entries) order → widest_part entries ≤ parts_limit → IsLawfulKernel (functions_of entries)
