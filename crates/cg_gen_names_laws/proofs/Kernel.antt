-- The kernel of the program is that of its functions.
use Rattle.std.proofs.Common.{◌≡◌, ℕ, zero, suc, ◌+◌, ◌≤◌, List, ◌∷◌, refl, sym, ap, ◌∙◌, arith}
use Rattle.std.specs.List.{cons_option, filter_map}
use Rattle.cg_core.specs.Kernels.{Function}
use Rattle.cg_surface.specs.Programs.{Entry}
use Rattle.cg_resolve_def.specs.Desugar.{function_of_entry, functions_of}
use Rattle.cg_gen_def.specs.Kernels.{function_behind}
use Rattle.cg_gen_def.specs.Programs.{body_item, cell_item}
use Rattle.cg_gen_names_laws.specs.Laws.{KernelIsMade}
use Rattle.cg_gen_names_laws.proofs.Body.{function_made, nothing_made}
use Rattle.cg_gen_names_laws.proofs.Known.{Known, known, program_is}
use Rattle.cg_gen_names_laws.proofs.Lists.{functions_are, one_function, spread, two_items}

module _ (entries : List Entry) (n : ℕ) (known : Known entries n) where
  -- the functions of some items
  pub some_made : (i k : ℕ) → i + k ≤ n → filter_map (function_of_entry entries) (spread two_items i k) ≡ spread one_function i k
  some_made i zero within = refl
  some_made i (suc k) within =
      let rest : List Function = filter_map (function_of_entry entries) (spread two_items (suc i) k) in
      ap (λ f. cons_option f (cons_option (function_of_entry entries (body_item i)) rest)) (function_made entries n known i (omega arith))
      ∙ ap (λ f. function_behind i ∷ cons_option f rest) (nothing_made entries n known i)
      ∙ ap (λ fs. function_behind i ∷ fs) (some_made (suc i) k (omega arith))

pub kernel_is_made : KernelIsMade
kernel_is_made n small =
    ap functions_of (program_is n) ∙ some_made (cell_item ∷ spread two_items 0 n) n (known n small) 0 n (omega arith) ∙ sym (functions_are n)
