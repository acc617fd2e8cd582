-- What resolving answers: the kernel, or the first fault of names, or the first limit that is passed.
use Rattle.std.specs.Prelude.{◌≡◌, ℕ, ◌<◌, ◌≤◌, List, [], ◌++◌, map, length, slice_get, Option, Some, Result, Ok, Err, ⊤}
use Rattle.std.specs.Global.{Vec}
use Rattle.cg_base.specs.declared.limit.Limit as code
use Rattle.cg_base.specs.declared.limit.Limit.TheVariants as limits
use Rattle.cg_base.specs.declared.place.Place.{Place}
use Rattle.cg_graphs.specs.Circles.{IsOrder, IsFirstCircle, NoCircle}
use Rattle.cg_core.specs.declared.kernel.KBody.{KBody}
use Rattle.cg_core.specs.declared.kernel.KFun.{KFun}
use Rattle.cg_core.specs.declared.kernel.Kernel.{Kernel}
use Rattle.cg_core.specs.Kernels.{Function, Body, function_of, maybe_body_of, kernel_of}
use Rattle.cg_surface.specs.Programs.{Entry}
use Rattle.cg_resolve_def.specs.Desugar.{functions_of, functions_limit, parts_limit, term_limit, body_depth, deepest_body, NamesStand, entry_at, TooMany, TooWide, TooLarge, TooDeep, WithinLimits}
use Rattle.cg_resolve_def.specs.Faults.{unknown, twice, arguments, program_faults}
use Rattle.cg_resolve_def.specs.Mentions.{mentions}
use Rattle.cg_resolve_def.specs.Takes.{missing_fields, widest_part}
use Rattle.cg_resolve_names.specs.Says.{IsFirst}
use Rattle.cg_resolve_takes.specs.Says as takes
use Rattle.cg_resolve.specs.declared.fault.Fault.{Fault}
use Rattle.cg_resolve.specs.declared.fault.Fault.TheVariants.{N1, N2, N3, N4, N5, Limit, Memory}
use Rattle.cg_resolve_sites.specs.declared.fault.TermFault.{TermFault}
use Rattle.cg_resolve_sites.specs.declared.fault.TermFault.TheVariants as terms

-- the name of the item at this position stands at this place
abbrev pub IsPlaceAt : List Entry → ℕ → Place → Type 0
IsPlaceAt entries i p = (e : Entry) × (slice_get entries i ≡ Some e) × ((entry_at e).place ≡ p)

-- the first item that mentions itself through bodies has its name at this place
abbrev pub IsCircleAt : List Entry → Place → Type 0
IsCircleAt entries p = (i : ℕ) × IsFirstCircle (mentions entries) i × IsPlaceAt entries i p

-- this limit is the first that is passed
abbrev pub Passes : List Entry → code.Limit → Type 0
Passes entries limits.Functions = TooMany entries
Passes entries limits.Fields = TooWide entries
Passes entries limits.Ty = TooLarge entries
Passes entries limits.Depth = TooDeep entries
Passes entries other = ⊥

-- The answer is right.
abbrev pub Answers : List Entry → Result Kernel Fault → Type 0
Answers entries (Ok k) = NamesStand entries × WithinLimits entries × (kernel_of k ≡ functions_of entries)
Answers entries (Err (N1 p)) = IsFirst (unknown p) (program_faults entries)
Answers entries (Err (N2 p)) = IsFirst (twice p) (program_faults entries)
Answers entries (Err (N3 p)) = (program_faults entries ≡ []) × IsCircleAt entries p
Answers entries (Err (N4 p)) = IsFirst (arguments p) (program_faults entries)
Answers entries (Err (N5 p)) = (program_faults entries ≡ []) × NoCircle (mentions entries) × takes.IsFirst p (missing_fields entries)
Answers entries (Err (Limit limit)) = NamesStand entries × Passes entries limit
Answers entries (Err Memory) = ⊤

-- ---- of parts

-- an order of the items, or the place of the first circle
abbrev pub OrderSays : List Entry → Result (Vec ℕ) Fault → Type 0
OrderSays entries (Ok order) = IsOrder (mentions entries) order.items
OrderSays entries (Err (N3 p)) = IsCircleAt entries p
OrderSays entries (Err Memory) = ⊤
OrderSays entries (Err other) = ⊥

-- functions and parts are within their limits, or one limit is the first that is passed
abbrev pub CountsSay : List Entry → Result Unit Fault → Type 0
CountsSay entries (Ok done) = (length (functions_of entries) ≤ functions_limit) × (widest_part entries ≤ parts_limit)
CountsSay entries (Err (Limit limits.Functions)) = TooMany entries
CountsSay entries (Err (Limit limits.Fields)) = TooWide entries
CountsSay entries (Err other) = ⊥

-- a body, a function, more functions, and all
abbrev pub IsTooDeep : TermFault → Type 0 → Type 0
IsTooDeep terms.TooDeep passed = passed
IsTooDeep terms.Memory passed = ⊤

abbrev pub MaybeBodySays : Option Body → Result (Option KBody) TermFault → Type 0
MaybeBodySays b (Ok made) = (body_depth b ≤ term_limit) × (maybe_body_of made ≡ b)
MaybeBodySays b (Err fault) = IsTooDeep fault (term_limit < body_depth b)

abbrev pub FunctionSays : Function → Result KFun TermFault → Type 0
FunctionSays f (Ok made) = (body_depth f.body ≤ term_limit) × (function_of made ≡ f)
FunctionSays f (Err fault) = IsTooDeep fault (term_limit < body_depth f.body)

abbrev pub FunctionsSay : List Function → List KFun → List KFun → Result Unit TermFault → Type 0
FunctionsSay fs old new (Ok done) = (deepest_body fs ≤ term_limit) × (map function_of new ≡ map function_of old ++ fs)
FunctionsSay fs old new (Err fault) = IsTooDeep fault (term_limit < deepest_body fs)

abbrev pub KernelSays : List Function → Result Kernel TermFault → Type 0
KernelSays fs (Ok made) = (deepest_body fs ≤ term_limit) × (kernel_of made ≡ fs)
KernelSays fs (Err fault) = IsTooDeep fault (term_limit < deepest_body fs)
