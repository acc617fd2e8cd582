-- From a program to its kernel; whether its names are in order, and the first limit of written things that it passes (docs/LANGUAGE.md,
-- "Names", "Desugaring" and "Limits").
use Rattle.std.specs.Prelude.{◌≡◌, ℕ, ◌+◌, max, ◌<◌, ◌≤◌, List, [], ◌∷◌, length, Option, Some, None}
use Rattle.std.specs.List.{filter_map}
use Rattle.cg_base.specs.declared.kind.Bound.{Bound}
use Rattle.cg_base.specs.declared.place.Place.{Place}
use Rattle.cg_core.specs.declared.at.At.{At}
use Rattle.cg_core.specs.Kernels.{Function, Body}
use Rattle.cg_core.specs.Terms.{Tree, term, Shape, var, unit, bool, lit, fun, op, app, lets, let_bang, if_else, con, case_of, esac, struct, member, take_field, put, cast, annot, Trees, none, more, Named, end, field}
use Rattle.cg_surface.specs.Written.{Written}
use Rattle.cg_surface.specs.Written as types
use Rattle.cg_surface.specs.Programs.{Entry, synonym, abstract, signature, define}
use Rattle.cg_resolve_def.specs.Declared.{Defined, definition_named}
use Rattle.cg_resolve_def.specs.Expand.{bodies, type_in}
use Rattle.cg_resolve_def.specs.Faults.{program_faults, var_names}
use Rattle.cg_graphs.specs.Circles.{NoCircle}
use Rattle.cg_resolve_def.specs.Mentions.{mentions}
use Rattle.cg_resolve_def.specs.Takes.{missing_fields, largest_type, widest_part}
use Rattle.cg_resolve_def.specs.Terms.{body_term, inner_place}

-- ---- the kernel

abbrev pub body_of : List Entry → List (List ℕ) → Option Defined → Option Body
body_of entries vars None = None
body_of entries vars (Some d) = Some (record { param = inner_place d.param; term = body_term entries (bodies entries) vars d.param d.body })

abbrev pub function_of : List Entry → At → List Bound → Written → Function
function_of entries at vars ty =
    record { at = at; vars = vars; ty = record { place = types.place_of ty; ty = type_in entries (var_names vars) ty }; body = body_of entries (var_names vars) (definition_named entries at.name) }

abbrev pub function_of_entry : List Entry → Entry → Option Function
function_of_entry entries (signature at vars places ty) = Some (function_of entries at vars ty)
function_of_entry entries e = None

-- the functions, in the order of their signatures
abbrev pub functions_of : List Entry → List Function
functions_of entries = filter_map (function_of_entry entries) entries

-- ---- limits

-- no program has more signatures, no written thing more parts, no written type more nodes, and no term is deeper
abbrev pub functions_limit : ℕ
functions_limit = 4096

abbrev pub parts_limit : ℕ
parts_limit = 64

abbrev pub type_limit : ℕ
type_limit = 1024

abbrev pub term_limit : ℕ
term_limit = 512

-- how many nodes lie on the longest way down a term
abbrev mutual
  pub depth_of : Tree Place → ℕ
  depth_of (term p shape) = inside shape + 1

  pub inside : Shape Place → ℕ
  inside (var i) = 0
  inside unit = 0
  inside (bool b) = 0
  inside (lit v) = 0
  inside (fun f args) = 0
  inside (op o ts) = deepest ts
  inside (app f x) = max (depth_of f) (depth_of x)
  inside (lets p x y) = max (depth_of x) (depth_of y)
  inside (let_bang s p x y) = max (depth_of x) (depth_of y)
  inside (if_else c x y) = max (depth_of c) (max (depth_of x) (depth_of y))
  inside (con n x) = depth_of x
  inside (case_of c at p x y) = max (depth_of c) (max (depth_of x) (depth_of y))
  inside (esac at x) = depth_of x
  inside (struct fs) = deepest_named fs
  inside (member x at) = depth_of x
  inside (take_field x at p q y) = max (depth_of x) (depth_of y)
  inside (put x at y) = max (depth_of x) (depth_of y)
  inside (cast x) = depth_of x
  inside (annot x a) = depth_of x

  pub deepest : Trees Place → ℕ
  deepest none = 0
  deepest (more t ts) = max (depth_of t) (deepest ts)

  pub deepest_named : Named Place → ℕ
  deepest_named end = 0
  deepest_named (field n t fs) = max (depth_of t) (deepest_named fs)

abbrev pub body_depth : Option Body → ℕ
body_depth None = 0
body_depth (Some b) = depth_of b.term

abbrev pub deepest_body : List Function → ℕ
deepest_body [] = 0
deepest_body (f ∷ fs) = max (body_depth f.body) (deepest_body fs)

-- ---- faults and limits, in their order

-- names are in order, but for circles; and in order at all
pub record NamesStand (entries : List Entry) : Type 0 where
  pub names : program_faults entries ≡ []
  pub circles : NoCircle (mentions entries)
  pub fields : missing_fields entries ≡ []

-- the name at which an item is declared
abbrev pub entry_at : Entry → At
entry_at (synonym at params body) = at
entry_at (abstract at params) = at
entry_at (signature at vars places ty) = at
entry_at (define at param body) = at

-- each limit, where those before it are kept
abbrev pub TooMany : List Entry → Type 0
TooMany entries = functions_limit < length (functions_of entries)

abbrev pub TooWide : List Entry → Type 0
TooWide entries = (length (functions_of entries) ≤ functions_limit) × (parts_limit < widest_part entries)

abbrev pub TooLarge : List Entry → Type 0
TooLarge entries = (length (functions_of entries) ≤ functions_limit) × (widest_part entries ≤ parts_limit) × (type_limit < largest_type entries)

abbrev pub TooDeep : List Entry → Type 0
TooDeep entries = (length (functions_of entries) ≤ functions_limit) × (widest_part entries ≤ parts_limit) × (largest_type entries ≤ type_limit) × (term_limit < deepest_body (functions_of entries))

abbrev pub WithinLimits : List Entry → Type 0
WithinLimits entries = (length (functions_of entries) ≤ functions_limit) × (widest_part entries ≤ parts_limit) × (largest_type entries ≤ type_limit) × (deepest_body (functions_of entries) ≤ term_limit)
