-- The functions of a source over a table of abstract functions: of which types they are as values, and how calls are evaluated.
use Rattle.std.specs.Prelude.{◌≡◌, ℕ, Bool, true, false, ◌&&◌, IsTrue, List, [], ◌∷◌, length, Option, Some, None, slice_get}
use Rattle.std.specs.List.{list_all}
use Rattle.std.specs.Option.{option_map}
use Rattle.cg_base.specs.declared.fun.Fun.{Fun}
use Rattle.cg_base.specs.declared.fun.Fun.TheVariants.{User, Lib as OfLib}
use Rattle.cg_base.specs.Types.{Tau}
use Rattle.cg_core.specs.Kernels.{Function, kernel_of}
use Rattle.cg_core.specs.Terms.{Note, Tree}
use Rattle.cg_eval_def.specs.Evaluation.{Table}
use Rattle.cg_core_def.specs.Lawful.{body_mentions}
use Rattle.cg_typing.specs.Functions.{are_good_arguments, asked_by, fun_type, takes_as_many}
use Rattle.cg_typing.specs.declared.checked.Checked.{Checked}
use Rattle.cg_typing.specs.Holds.{cores_in, kept_at, kernel_in}
use Rattle.cg_typing.specs.Instances.{as_arguments, is_closed}
use Rattle.cg_typing.specs.Kept.{maybe_core}
use Rattle.cg_typing.specs.Parts.{taken_by}
use Rattle.cg_value.specs.Fits.{World, fits}
use Rattle.cg_value.specs.Foreign.{Foreign, first_order}
use Rattle.cg_base.specs.Same.{same_type}
use Rattle.cg_value.specs.Values.{Val, gone}

-- ---- values of functions

abbrev pub is_this : Option Tau → Tau → Bool
is_this None t = false
is_this (Some s) t = same_type s t

-- A function at type arguments is a value of a type: there are as many as it takes, they have no type variables, they are what it asks
-- of them, and at them the function's type is this one.
unfoldable pub is_instance : List Function → Fun → List Tau → Tau → Bool
is_instance functions f types t =
    takes_as_many functions f (length types)
    && (list_all is_closed types && (are_good_arguments [] (asked_by functions f) (as_arguments types) && is_this (fun_type functions f (as_arguments types)) t))

-- a function of the source is among these, and one of the library always is
abbrev pub is_among : (ℕ → Bool) → Fun → Bool
is_among among (User i) = among i
is_among among (OfLib lib) = true

-- What functions and abstract types are, where functions of the source are among these.
abbrev pub world_of : Foreign → List Function → (ℕ → Bool) → World
world_of x functions among = record { is_of = λ f types t. is_instance functions f types t && is_among among f; holds = (first_order x).holds }

-- ---- calls

abbrev pub is_empty : {A : Type 0} → List A → Bool
is_empty [] = true
is_empty (x ∷ xs) = false

-- a table knows an abstract function, which then has no type variables
abbrev pub is_known : Foreign → Function → Bool
is_known x f = is_empty f.vars && x.knows f.at.name f.ty.ty

abbrev pub is_taken : Foreign → Option Function → Val → Bool
is_taken x None v = false
is_taken x (Some f) v = is_known x f && fits (first_order x) (taken_by f.ty.ty) v

abbrev pub cost_at : Foreign → Option Function → Val → ℕ
cost_at x None v = 0
cost_at x (Some f) v = x.cost f.at.name v

abbrev pub value_at : Foreign → Option Function → Val → Val
value_at x None v = gone
value_at x (Some f) v = x.value f.at.name v

-- How calls are evaluated: by the core of a function's body where it has one, and else by the table, where this knows the function
-- and the argument fits.
abbrev pub table_over : Foreign → List Function → (ℕ → Option (Tree Note)) → Table
table_over x functions core = record {
  body = λ i types. option_map (λ c. record { term = c; types = types }) (core i);
  takes = λ i v. is_taken x (slice_get functions i) v;
  cost = λ i v. cost_at x (slice_get functions i) v;
  value = λ i v. value_at x (slice_get functions i) v;
}

-- the functions of a checked source, over a table of abstract functions
abbrev pub table_of : Foreign → Checked → Table
table_of x checked = table_over x (kernel_of (kernel_in checked)) (λ i. maybe_core (kept_at (cores_in checked) i))

-- ---- what is reached

-- From these functions only such abstract functions are reached as a table knows: with each of them, all that its body mentions are among
-- them.
pub record IsClosed (x : Foreign) (functions : List Function) (among : ℕ → Bool) : Type 0 where
  pub mentions : (i : ℕ) (f : Function) → slice_get functions i ≡ Some f → IsTrue (among i) → IsTrue (list_all among (body_mentions f.body))
  pub known : (i : ℕ) (f : Function) → slice_get functions i ≡ Some f → IsTrue (among i) → f.body ≡ None → IsTrue (is_known x f)
