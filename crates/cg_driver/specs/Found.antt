-- What the steps of a command have found, and which quantity each limit bounds (docs/LANGUAGE.md, "Commands" and "Limits").
use Rattle.std.specs.Prelude.{ℕ, List, [], length}
use Rattle.cg_base.specs.declared.limit.Limit.{Limit}
use Rattle.cg_base.specs.declared.limit.Limit.TheVariants.{Source, Nesting, Functions, Fields, Ty, Depth, Instances, Core, Heap, Certificate}
use Rattle.cg_cert.specs.declared.cert.Cert.{Cert}
use Rattle.cg_heap.specs.declared.cell.Cell.{Cell}
use Rattle.cg_heap.specs.declared.cell.Scalar.{Scalar}
use Rattle.cg_lower.specs.Collected.{Copy}
use Rattle.cg_core.specs.Kernels.{Function}
use Rattle.cg_resolve_def.specs.Desugar.{functions_of, functions_limit, parts_limit, type_limit, term_limit, deepest_body}
use Rattle.cg_resolve_def.specs.Takes.{widest_part, largest_type}
use Rattle.cg_parser_def.specs.Bounded.{depth_limit}
use Rattle.cg_surface.specs.Programs.{Entry, program_depth}
use Rattle.cg_value.specs.Values.{Val, gone}

-- what a heap file holds: its cells with their addresses, the scalars of the argument, and the value that they stand for
pub record Argument : Type 0 where
  pub cells : List (ℕ × Cell)
  pub scalars : List Scalar
  pub value : Val

abbrev pub no_argument : Argument
no_argument = record { cells = []; scalars = []; value = gone }

-- the bytes of the source, the program that they spell, its instances with their types and bodies, the bytes of the certificate file, the
-- certificate whose text they are, the position of the entry among the program's functions, the bytes of the heap file, the argument that they
-- hold, and the value and the cost that evaluation gives
pub record Found : Type 0 where
  pub source : List ℕ
  pub program : List Entry
  pub copies : List Copy
  pub certificate : List ℕ
  pub cert : Cert
  pub at : ℕ
  pub heap : List ℕ
  pub argument : Argument
  pub value : Val
  pub cost : ℕ

-- before the first step
abbrev pub nothing : Found
nothing = record { source = []; program = []; copies = []; certificate = []; cert = record { funs = [] }; at = 0; heap = []; argument = no_argument; value = gone; cost = 0 }

abbrev pub with_source : List ℕ → Found → Found
with_source bytes f = record f { source = bytes }

abbrev pub with_program : List Entry → Found → Found
with_program p f = record f { program = p }

abbrev pub with_copies : List Copy → Found → Found
with_copies copies f = record f { copies = copies }

abbrev pub with_certificate : List ℕ → Found → Found
with_certificate bytes f = record f { certificate = bytes }

abbrev pub with_cert : Cert → Found → Found
with_cert cert f = record f { cert = cert }

abbrev pub with_entry : ℕ → Found → Found
with_entry at f = record f { at = at }

abbrev pub with_heap : List ℕ → Found → Found
with_heap bytes f = record f { heap = bytes }

abbrev pub with_argument : Argument → Found → Found
with_argument a f = record f { argument = a }

abbrev pub with_value : Val → ℕ → Found → Found
with_value value cost f = record f { value = value; cost = cost }

-- the kernel of the program
abbrev pub functions : Found → List Function
functions f = functions_of f.program

-- no source has more bytes, no certificate, and no heap file
abbrev pub source_limit : ℕ
source_limit = 1048576

abbrev pub certificate_limit : ℕ
certificate_limit = 67108864

abbrev pub heap_limit : ℕ
heap_limit = 16777216

-- the limits, and what each bounds; those of instances and cores join with the steps that make them
abbrev pub bound : Limit → ℕ
bound Source = source_limit
bound Nesting = depth_limit
bound Functions = functions_limit
bound Fields = parts_limit
bound Ty = type_limit
bound Depth = term_limit
bound Instances = 4096
bound Core = 1048576
bound Heap = heap_limit
bound Certificate = certificate_limit

abbrev pub quantity : Limit → Found → ℕ
quantity Source f = length f.source
quantity Nesting f = program_depth f.program
quantity Functions f = length (functions f)
quantity Fields f = widest_part f.program
quantity Ty f = largest_type f.program
quantity Depth f = deepest_body (functions f)
quantity Instances f = 0
quantity Core f = 0
quantity Heap f = length f.heap
quantity Certificate f = length f.certificate
