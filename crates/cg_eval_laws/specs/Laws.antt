-- Type soundness of evaluation: a call of a well-typed function on a value that fits is never stuck, and its result fits.
use Rattle.std.specs.Prelude.{◌≡◌, ℕ, Bool, IsTrue, [], Some, slice_get}
use Rattle.cg_base.specs.declared.fun.Fun.TheVariants.{User}
use Rattle.cg_base.specs.Types.{Tau, arrow}
use Rattle.cg_core.specs.Kernels.{Function, kernel_of}
use Rattle.cg_eval_def.specs.Evaluation.{Outcome, spent, stuck, gives, outcome}
use Rattle.cg_eval_def.specs.Foreigns.{IsClosed, table_of, world_of}
use Rattle.cg_typing.specs.declared.checked.Checked.{Checked}
use Rattle.cg_typing.specs.Holds.{kernel_in}
use Rattle.cg_value.specs.Fits.{World, fits}
use Rattle.cg_value.specs.Foreign.{Foreign, IsLawful}
use Rattle.cg_value.specs.Values.{Val, function}

-- what comes of a budget is not stuck, and a value fits
abbrev pub IsSound : World → Tau → Outcome → Type 0
IsSound world t spent = Unit {0}
IsSound world t stuck = ⊥
IsSound world t (gives v left) = IsTrue (fits world t v)

-- A call in a checked source, of a function value that fits an arrow, on a value that fits what the arrow takes: it is sound at what the
-- arrow gives, if all functions in both values are among some from which only known abstract functions are reached.
abbrev pub CallsAreSound : Type 0
CallsAreSound =
    (x : Foreign) → IsLawful x → (checked : Checked) (among : ℕ → Bool) → IsClosed x (kernel_of (kernel_in checked)) among
    → (a b : Tau) (f v : Val) (n : ℕ) → IsTrue (fits (world_of x (kernel_of (kernel_in checked)) among) (arrow a b) f)
    → IsTrue (fits (world_of x (kernel_of (kernel_in checked)) among) a v)
    → IsSound (world_of x (kernel_of (kernel_in checked)) among) b (outcome (table_of x checked) n f v)

-- each function of a checked source without type variables is a value of its type
abbrev pub FunctionsFit : Type 0
FunctionsFit =
    (x : Foreign) (checked : Checked) (among : ℕ → Bool) (i : ℕ) (f : Function) → slice_get (kernel_of (kernel_in checked)) i ≡ Some f → IsTrue (among i)
    → f.vars ≡ [] → IsTrue (fits (world_of x (kernel_of (kernel_in checked)) among) f.ty.ty (function (User i) []))
