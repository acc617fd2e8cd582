-- The last function is an entry that may be run, and takes the cell.
use Rattle.std.proofs.Common.{◌≡◌, ◌<◌, ℕ, ◌+◌, true, Some, None, slice_get, sym, refl, ap, ◌∙◌, arith}
use Rattle.std.proofs.lemmas.Option.{slice_get_within}
use Rattle.cg_base.proofs.Options.{some_is}
use Rattle.cg_core.specs.Kernels.{Function}
use Rattle.cg_driver.specs.Entered.{argument_type, entry_type, is_entry}
use Rattle.cg_driver_entry.specs.Entries.{ReachesAbstract}
use Rattle.cg_gen_def.specs.Kernels.{cell_type, function_behind, functions}
use Rattle.cg_gen_typing_laws.proofs.Kernel.{function_of, functions_as_many}
use Rattle.cg_typing.specs.Parts.{taken_by}

last : (before : ℕ) → slice_get (functions (before + 1)) before ≡ Some (function_behind before)
last before = function_of (before + 1) before (omega arith)

is_allowed : (before : ℕ) → is_entry (Some (function_behind before)) ≡ true
unfolding function_behind
is_allowed before = refl

pub allowed : (before : ℕ) → is_entry (slice_get (functions (before + 1)) before) ≡ true
allowed before = ap is_entry (last before) ∙ is_allowed before

takes_cell : (before : ℕ) → taken_by (entry_type (Some (function_behind before))) ≡ cell_type
unfolding function_behind
takes_cell before = refl

pub argument_is : (before : ℕ) → argument_type (functions (before + 1)) before ≡ cell_type
argument_is before = ap (λ o. taken_by (entry_type o)) (last before) ∙ takes_cell before

-- ---- each function has a body

has_body : (i : ℕ) → (function_behind i).body ≡ None → ⊥
unfolding function_behind
has_body i e = absurd (cc)

all_have : (n place : ℕ) (f : Function) → slice_get (functions n) place ≡ Some f → f.body ≡ None → ⊥
all_have n place f stands none =
    let within = slice_get_within (functions n) place f stands in
    let many = functions_as_many n in
    let lt : place < n = omega (arith, within, many) in
    let same = some_is f (function_behind place) (sym stands ∙ function_of n place lt) in
    has_body place (sym (ap (λ g. g.body) same) ∙ none)

pub concrete : (n at : ℕ) → ReachesAbstract (functions n) at → ⊥
concrete n at r = all_have n r.place r.function r.stands r.abstract
