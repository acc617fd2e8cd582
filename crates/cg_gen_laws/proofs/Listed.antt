-- The source is accepted, its instances are its functions, and evaluation of the last gives the cell with its number.
use Rattle.std.proofs.Common.{◌≡◌, ℕ, ◌+◌, ◌≤◌, List, [], Option, length, map, refl, sym, subst, ◌∙◌}
use Rattle.std.proofs.lemmas.List.FromFn.{length-map-range_with_len}
use Rattle.std.proofs.lemmas.List.{length-map}
use Rattle.std.specs.List.{range_with_len}
use Rattle.cg_base.specs.declared.fun.Fun.TheVariants.{User}
use Rattle.cg_core.specs.Derivations.{Derivation}
use Rattle.cg_faults.specs.Fails.{AreTypesWithin}
use Rattle.cg_inst.specs.Judged.{IsWithin}
use Rattle.cg_inst_laws.specs.Laws.{entry_of}
use Rattle.cg_lower.specs.Collected.{Copy}
use Rattle.cg_parser_def.specs.Grammar.{Spells}
use Rattle.cg_resolve_def.specs.Desugar.{NamesStand, WithinLimits, functions_of}
use Rattle.cg_surface.specs.Programs.{program_depth}
use Rattle.cg_typing.specs.Accepted.{IsAcceptedKernel}
use Rattle.cg_typing.specs.Instances.{Instance}
use Rattle.cg_typing.specs.Kept.{AreKept}
use Rattle.cg_value.specs.Foreign.{Foreign}
use Rattle.cg_driver_laws.specs.Laws.{copies_over}
use Rattle.cg_gen.specs.Generated.{source}
use Rattle.cg_gen_def.specs.Kernels.{cores, functions}
use Rattle.cg_gen_def.specs.Programs.{program}
use Rattle.cg_gen_def.specs.Results.{cell_after, cost_of}
use Rattle.cg_gen_run_laws.specs.Laws.{EvaluationGives}
use Rattle.cg_driver.specs.Accepted.{IsAcceptedSource}
use Rattle.cg_driver.specs.Found.{source_limit}
use Rattle.cg_driver.specs.Instanced.{HasInstances, bodies_in}
use Rattle.cg_driver.specs.Run.{Evaluates}

-- the source
module _ (n : ℕ) (kernel : functions_of (program n) ≡ functions n) where
  abbrev pub is_accepted : Spells (source n) (program n) → length (source n) ≤ source_limit → NamesStand (program n) → WithinLimits (program n) → program_depth (program n) ≤ 1024
      → IsAcceptedKernel (functions n) → AreTypesWithin (functions n) → IsAcceptedSource (source n) (functions n)
  is_accepted spelled short names written shallow typed types =
      record {
        accepted = record { program = program n; spelled = spelled; names = names; typed = subst IsAcceptedKernel (sym kernel) typed };
        limits = record { short = short; shallow = shallow; written = written; types = subst AreTypesWithin (sym kernel) types };
        kernel = sym kernel;
      }

-- ---- its instances

abbrev pub list : ℕ → List Instance
list n = map (λ i. record { fun = User i; types = [] }) (range_with_len 0 n)

abbrev pub copies : ℕ → List Copy
copies n = copies_over (functions n) (bodies_in (cores n)) (list n)

pub as_many : (n : ℕ) → length (copies n) ≡ n
as_many n =
    length-map (list n) (λ x. (x, entry_of (functions n) (bodies_in (cores n)) x)) ∙ length-map-range_with_len (λ i. record { fun = User i; types = [] }) 0 n

pub has_instances : (n : ℕ) (trees : List (Option Derivation)) → AreKept (functions n) (functions n) (cores n) trees → IsWithin (functions n) (bodies_in (cores n)) (list n)
    → HasInstances (functions n) (copies n)
has_instances n trees kept within = record { cores = cores n; derived = (trees, kept); list = list n; within = within; are = refl }

-- ---- what evaluation gives

pub evaluates : EvaluationGives → (x : Foreign) (before steps : ℕ) (trees : List (Option Derivation))
    → AreKept (functions (before + 1)) (functions (before + 1)) (cores (before + 1)) trees → cost_of (before + 1) ≤ steps
    → Evaluates x (functions (before + 1)) before (cell_after 0) steps (cell_after (before + 1)) (cost_of (before + 1))
evaluates gives x before steps trees kept enough = record { cores = cores (before + 1); derived = (trees, kept); gives = gives x before steps enough }
