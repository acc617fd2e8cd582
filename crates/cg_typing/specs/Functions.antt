-- Functions that a term mentions: their types at their type arguments, how many of these they take, and what is asked of each.
use Rattle.std.specs.Prelude.{ℕ, nat_eq, Bool, true, false, ◌&&◌, ◌||◌, not, List, [], ◌∷◌, length, map, Option, Some, None, slice_get}
use Rattle.std.specs.Option.{option_map}
use Rattle.cg_base.specs.declared.fun.Fun.{Fun}
use Rattle.cg_base.specs.declared.fun.Fun.TheVariants.{User, Lib as OfLib}
use Rattle.cg_base.specs.declared.fun.Lib.{Lib}
use Rattle.cg_base.specs.declared.fun.Lib.TheVariants.{New, Free, Create, FreeArray, Length, Get, Put, Map, Fold, Seq32, Seq64, Seq32Break}
use Rattle.cg_base.specs.declared.kind.Kinds.{Kinds}
use Rattle.cg_base.specs.Types.{Tau}
use Rattle.cg_core.specs.Kernels.{Function}
use Rattle.cg_core.specs.Terms.{Arg}
use Rattle.cg_core_def.specs.Lawful.{library_arity}
use Rattle.cg_kinds.specs.Kinds.{kinds, subst, is_word}
use Rattle.cg_typing.specs.Library.{library_type}
use Rattle.cg_typing.specs.Parts.{is_cell, has_word_arrays}

abbrev pub arg_types : List Arg → List Tau
arg_types args = map (λ a. a.ty) args

-- the type of a function, if there is one: that of its signature with the type arguments for its variables
abbrev pub fun_type : List Function → Fun → List Arg → Option Tau
fun_type functions (User f) args = option_map (λ g. subst (arg_types args) g.ty.ty) (slice_get functions f)
fun_type functions (OfLib l) args = Some (library_type l (arg_types args))

-- a function has so many type variables; none has, where there is no such function
abbrev pub has_vars : Option Function → ℕ → Bool
has_vars None n = false
has_vars (Some f) n = nat_eq (length f.vars) n

-- so many type arguments are what a function takes
abbrev pub takes_as_many : List Function → Fun → ℕ → Bool
takes_as_many functions (User i) n = has_vars (slice_get functions i) n
takes_as_many functions (OfLib lib) n = nat_eq (library_arity lib) n

-- what is asked of a type argument: the kinds of its variable, to be a record to write of which no field is taken,
-- to be a word, or nothing
pub data Asked : Type 0 where
  these : Kinds → Asked
  a_cell : Asked
  an_element : Asked
  nothing : Asked

abbrev pub asked_by_library : Lib → List Asked
asked_by_library New = a_cell ∷ []
asked_by_library Free = a_cell ∷ []
asked_by_library Create = an_element ∷ []
asked_by_library FreeArray = an_element ∷ []
asked_by_library Length = an_element ∷ []
asked_by_library Get = an_element ∷ []
asked_by_library Put = an_element ∷ []
asked_by_library Map = an_element ∷ []
asked_by_library Fold = an_element ∷ []
asked_by_library Seq32 = []
asked_by_library Seq64 = []
asked_by_library Seq32Break = []

abbrev pub asked_by_user : Option Function → List Asked
asked_by_user None = []
asked_by_user (Some f) = map (λ b. these b.kinds) f.vars

-- what a function asks of its type arguments, in their order; of those behind these, nothing
abbrev pub asked_by : List Function → Fun → List Asked
asked_by functions (User f) = asked_by_user (slice_get functions f)
asked_by functions (OfLib l) = asked_by_library l

-- the first, and the others
abbrev pub next_asked : List Asked → Asked
next_asked [] = nothing
next_asked (x ∷ xs) = x

abbrev pub later_asked : List Asked → List Asked
later_asked [] = []
later_asked (x ∷ xs) = xs

-- each permission of the second is one of the first
abbrev pub has_kinds : Kinds → Kinds → Bool
has_kinds k wanted = (not wanted.drop || k.drop) && ((not wanted.share || k.share) && (not wanted.escape || k.escape))

-- a type is what is asked
abbrev pub meets_asked : List Kinds → Asked → Tau → Bool
meets_asked vars (these wanted) t = has_kinds (kinds vars t) wanted
meets_asked vars a_cell t = is_cell t
meets_asked vars an_element t = is_word t
meets_asked vars nothing t = true

-- each type argument is written with arrays of words alone, and is what is asked
abbrev pub are_good_arguments : List Kinds → List Asked → List Arg → Bool
are_good_arguments vars asked [] = true
are_good_arguments vars asked (a ∷ args) =
    has_word_arrays a.ty && (meets_asked vars (next_asked asked) a.ty && are_good_arguments vars (later_asked asked) args)
