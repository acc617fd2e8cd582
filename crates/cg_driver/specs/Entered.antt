-- What `run` asks of an entry, and its instance (docs/LANGUAGE.md, "Entries").
use Rattle.std.specs.Prelude.{ℕ, Bool, false, ◌&&◌, List, [], Option, Some, None, slice_get}
use Rattle.cg_base.specs.declared.fun.Fun.TheVariants.{User}
use Rattle.cg_base.specs.Types.{Tau, unit}
use Rattle.cg_lower.specs.Collected.{Copy, list_of}
use Rattle.cg_core.specs.Kernels.{Function}
use Rattle.cg_driver_entry.specs.Types.{is_first_order}
use Rattle.cg_eval_def.specs.Foreigns.{is_empty}
use Rattle.cg_typing.specs.Instances.{Instance}
use Rattle.cg_typing.specs.Parts.{given_by, taken_by}
use Rattle.cg_update.specs.Updates.{place_of}

-- The type of an entry is allowed: it has no type variables, and what it takes and gives holds neither function types nor users' abstract types.
abbrev pub is_entry : Option Function → Bool
is_entry None = false
is_entry (Some f) = is_empty f.vars && is_first_order f.ty.ty

-- its type, what it takes and what it gives
abbrev pub entry_type : Option Function → Tau
entry_type None = unit
entry_type (Some f) = f.ty.ty

abbrev pub argument_type : List Function → ℕ → Tau
argument_type functions at = taken_by (entry_type (slice_get functions at))

abbrev pub result_type : List Function → ℕ → Tau
result_type functions at = given_by (entry_type (slice_get functions at))

-- the instance of a function without type variables, and its place among the instances
abbrev pub instance_at : ℕ → Instance
instance_at at = record { fun = User at; types = [] }

abbrev pub entry_place : List Copy → ℕ → Option ℕ
entry_place copies at = place_of (instance_at at) (list_of copies)
