-- Evaluation over the copies of a list of instances gives what evaluation over the source gives.
use Rattle.std.specs.Prelude.{◌≡◌, ℕ, Bool, ◌&&◌, IsTrue, List, [], map, slice_get, Option, Some, None}
use Rattle.std.specs.List.{list_any}
use Rattle.std.specs.Option.{option_map}
use Rattle.cg_base.specs.declared.fun.Fun.{Fun}
use Rattle.cg_base.specs.declared.fun.Fun.TheVariants.{User}
use Rattle.cg_base.specs.Types.{Tau, arrow}
use Rattle.cg_core.specs.Kernels.{Function}
use Rattle.cg_core.specs.Terms.{Note, Tree}
use Rattle.cg_eval_def.specs.Evaluation.{Outcome, gives, Table, outcome}
use Rattle.cg_eval_def.specs.Foreigns.{cost_at, is_instance, is_taken, table_of, value_at}
use Rattle.cg_inst.specs.Judged.{core_in, functions_in}
use Rattle.cg_inst.specs.Lists.{IsList, same_instance}
use Rattle.cg_inst_laws.specs.Laws.{entry_of, place_in}
use Rattle.cg_typing.specs.declared.checked.Checked.{Checked}
use Rattle.cg_typing.specs.Instances.{Entry, Instance}
use Rattle.cg_value.specs.Fits.{World, fits}
use Rattle.cg_value.specs.Foreign.{Foreign, IsLawful, first_order}
use Rattle.cg_value.specs.Values.{Val}

-- ---- evaluation over copies

abbrev pub body_in : Option Entry → Option (Tree Note)
body_in None = None
body_in (Some e) = e.body

-- How calls are evaluated over the copies of a list: by the body of the instance, in which no type variable is left, and else by the table
-- of abstract functions. What is not in the list has no body.
abbrev pub copies_table : Foreign → List Function → List Instance → List Entry → Table
copies_table x functions list entries = record {
  body = λ i types. option_map (λ c. record { term = c; types = [] }) (body_in (slice_get entries (place_in list (record { fun = User i; types = types }))));
  takes = λ i v. is_taken x (slice_get functions i) v;
  cost = λ i v. cost_at x (slice_get functions i) v;
  value = λ i v. value_at x (slice_get functions i) v;
}

-- ---- values over a list of instances

-- an instance is one of a list
abbrev pub is_listed : List Instance → Fun → List Tau → Bool
is_listed list f types = list_any (same_instance (record { fun = f; types = types })) list

-- What functions and abstract types are, where functions are the instances of a list. What an abstract type holds is what the table says, also
-- where there are functions in it: no program looks into it.
abbrev pub world_over : Foreign → List Function → List Instance → World
world_over x functions list = record { is_of = λ f types t. is_instance functions f types t && is_listed list f types; holds = (first_order x).holds }

-- a value that is given fits a type
abbrev pub IsFitting : World → Tau → Outcome → Type 0
IsFitting world t (gives v left) = IsTrue (fits world t v)
IsFitting world t o = Unit {0}

-- For a checked source and its list of instances: a call of an instance of the list, on a value that fits what it takes, gives over the copies
-- what it gives over the source, at the same cost with any budget, and its result fits what the instance gives.
pub record IsKept (x : Foreign) (checked : Checked) (list : List Instance) (t : Tau) (n : ℕ) (f v : Val) : Type 0 where
  pub same : outcome (copies_table x (functions_in checked) list (map (entry_of (functions_in checked) (core_in checked)) list)) n f v ≡ outcome (table_of x checked) n f v
  pub fits : IsFitting (world_over x (functions_in checked) list) t (outcome (table_of x checked) n f v)

abbrev pub EvaluationIsKept : Type 0
EvaluationIsKept =
    (x : Foreign) → IsLawful x → (checked : Checked) (list : List Instance) → IsList (functions_in checked) (core_in checked) list
    → (a b : Tau) (f v : Val) (n : ℕ) → IsTrue (fits (world_over x (functions_in checked) list) (arrow a b) f) → IsTrue (fits (world_over x (functions_in checked) list) a v)
    → IsKept x checked list b n f v
