-- The program is within the limits.
use Rattle.std.proofs.Common.{◌≡◌, ℕ, zero, suc, ◌+◌, ◌≤◌, max, List, [], ◌∷◌, ◌++◌, length, refl, sym, ap, ◌∙◌, subst, arith}
use Rattle.cg_base.specs.Types as kernel
use Rattle.cg_base.specs.Types.{arrow}
use Rattle.cg_surface.specs.Programs.{Entry, entry_depth, program_depth}
use Rattle.cg_resolve_def.specs.Desugar.{WithinLimits, body_depth, deepest_body, functions_of}
use Rattle.cg_resolve_def.specs.Expand.{bodies}
use Rattle.cg_resolve_def.specs.Takes.{largest, largest_from, nodes, widest_entry, widest_part, with_vars, written_from, written_in}
use Rattle.cg_gen_def.specs.Kernels.{body_in, function_behind, subject_in}
use Rattle.cg_gen_def.specs.Programs.{body_item, cell_item, place, subject_of, type_item, type_row, width}
use Rattle.cg_gen_names_laws.specs.Laws.{LimitsAreKept}
use Rattle.cg_gen_names_laws.proofs.Body.{cell_named}
use Rattle.cg_gen_names_laws.proofs.Kernel.{some_made}
use Rattle.cg_gen_names_laws.proofs.Known.{Known, cell_body, its_type, known, program_is}
use Rattle.cg_gen_names_laws.proofs.Lists.{one_function, so_many, spread, two_items}

-- ---- of a function, and of its two items

function_depth : (i : ℕ) → body_depth (function_behind i).body ≡ 5
unfolding function_behind body_in subject_in
function_depth zero = refl
function_depth (suc b) = refl

type_depth : (i : ℕ) → entry_depth (type_item i) ≡ 2
unfolding type_item
type_depth i = refl

item_depth : (i : ℕ) → entry_depth (body_item i) ≡ 5
unfolding body_item subject_of
item_depth zero = refl
item_depth (suc b) = refl

type_width : (i : ℕ) → widest_entry (type_item i) ≡ 0
unfolding type_item
type_width i = refl

item_width : (i : ℕ) → widest_entry (body_item i) ≡ 0
unfolding body_item subject_of
item_width zero = refl
item_width (suc b) = refl

-- ---- of all of them

functions_depth : (i k : ℕ) → deepest_body (spread one_function i k) ≤ 5
functions_depth i zero = omega arith
functions_depth i (suc k) = omega (arith, function_depth i, functions_depth (suc i) k)

items_depth : (i k : ℕ) → program_depth (spread two_items i k) ≤ 5
items_depth i zero = omega arith
items_depth i (suc k) = omega (arith, type_depth i, item_depth i, items_depth (suc i) k)

items_width : (i k : ℕ) → widest_part (spread two_items i k) ≤ 0
items_width i zero = omega arith
items_width i (suc k) = omega (arith, type_width i, item_width i, items_width (suc i) k)

-- ---- types

module _ (entries : List Entry) where
  type_written : (i : ℕ) → written_in entries (type_item i) ≡ with_vars [] (its_type i) ∷ []
  unfolding type_item
  type_written i = refl

  pub nothing_written : (i : ℕ) → written_in entries (body_item i) ≡ []
  unfolding body_item subject_of
  nothing_written zero = refl
  nothing_written (suc b) = refl

  pub two_written : (i k : ℕ) → written_from entries (spread two_items i (suc k)) ≡ with_vars [] (its_type i) ∷ written_from entries (spread two_items (suc i) k)
  two_written i k =
      ap (λ ts. ts ++ (written_in entries (body_item i) ++ written_from entries (spread two_items (suc i) k))) (type_written i)
      ∙ ap (λ ts. with_vars [] (its_type i) ∷ ts ++ written_from entries (spread two_items (suc i) k)) (nothing_written i)

module _ (entries : List Entry) (n : ℕ) (known : Known entries n) where
  type_large : (i : ℕ) → largest (bodies entries) [] (its_type i) ≡ 7
  type_large i j =
      let a = cell_named entries n known (place (type_row i) (width i + 4)) j in
      let b = cell_named entries n known (place (type_row i) (width i + 12)) j in
      max (nodes (arrow a b)) (max (max (nodes a) 0) (max (nodes b) 0))

  items_large : (i k : ℕ) → largest_from (bodies entries) (written_from entries (spread two_items i k)) ≤ 7
  items_large i zero = omega arith
  items_large i (suc k) =
      subst (λ ts. largest_from (bodies entries) ts ≤ 7) (sym (two_written entries i k)) (omega (arith, type_large i, items_large (suc i) k))

cell_large : (entries : List Entry) → largest (bodies entries) [] cell_body ≡ 3
unfolding kernel.to_parts
cell_large entries = refl

-- ---- of the program

limits_of : (n : ℕ) → n ≤ 4096 → WithinLimits (cell_item ∷ spread two_items 0 n) × (program_depth (cell_item ∷ spread two_items 0 n) ≤ 1024)
limits_of n within =
    let entries : List Entry = cell_item ∷ spread two_items 0 n in
    let knows : Known entries n = known n (omega arith) in
    let made : functions_of entries ≡ spread one_function 0 n = some_made entries n knows 0 n (omega arith) in (
      (
        subst (λ fs. length fs ≤ 4096) (sym made) (omega (arith, so_many 0 n)),
        omega (arith, items_width 0 n),
        omega (arith, cell_large entries, items_large entries n knows 0 n),
        subst (λ fs. deepest_body fs ≤ 512) (sym made) (omega (arith, functions_depth 0 n)),
      ),
      omega (arith, items_depth 0 n),
    )

pub limits_are_kept : LimitsAreKept
limits_are_kept n within = subst (λ es. WithinLimits es × (program_depth es ≤ 1024)) (sym (program_is n)) (limits_of n within)
