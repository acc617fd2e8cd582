-- What a program declares, and what is declared beforehand (docs/LANGUAGE.md, "Names"). Names are looked up in lists.
use Rattle.std.specs.Prelude.{ℕ, ◌+◌, ◌&&◌, Bool, true, not, nat_le, List, [], ◌∷◌, length, codes, Option, Some, None, if◌then◌else◌}
use Rattle.std.specs.List.{list_any}
use Rattle.std.specs.Option.{option_map}
use Rattle.std.specs.Str.{bytes_eq}
use Rattle.cg_base.specs.declared.kind.Bound.{Bound}
use Rattle.cg_base.specs.declared.kind.Word.TheVariants.{U8, U16, U32, U64}
use Rattle.cg_base.specs.declared.kind.Sigil.TheVariants.{W}
use Rattle.cg_base.specs.declared.fun.Lib.{Lib}
use Rattle.cg_base.specs.declared.fun.Lib.TheVariants.{New, Free, Create, FreeArray, Length, Get, Put, Map, Fold, Seq32, Seq64, Seq32Break}
use Rattle.cg_base.specs.Types.{Tau, word, bool, abs, none}
use Rattle.cg_core.specs.declared.at.At.{At}
use Rattle.cg_surface.specs.Written.{Written}
use Rattle.cg_surface.specs.Patterns.{Pattern}
use Rattle.cg_surface.specs.Exprs.{Expr}
use Rattle.cg_surface.specs.Programs.{Entry, synonym, abstract, signature, define}

-- whether a name is among some
abbrev pub is_among : List (List ℕ) → List ℕ → Bool
is_among names n = list_any (bytes_eq n) names

-- what a table says of a name: its first line counts
abbrev pub looked_up : {A : Type 0} → List (List ℕ × A) → List ℕ → Option A
looked_up [] n = None
looked_up (line ∷ lines) n = if bytes_eq n line.0 then Some line.1 else looked_up lines n

-- a name of a type variable begins with no large letter
abbrev pub is_variable : List ℕ → Bool
is_variable [] = true
is_variable (b ∷ bytes) = not (nat_le 65 b && nat_le b 90)

-- ---- types

-- the types that are declared beforehand, without parameters
abbrev pub plain_types : List (List ℕ × Tau)
plain_types = (codes "U8", word U8) ∷ (codes "U16", word U16) ∷ (codes "U32", word U32) ∷ (codes "U64", word U64) ∷ (codes "Bool", bool) ∷ (codes "SysState", abs (codes "SysState") none W) ∷ []

-- a type of the program: its parameters, and what it is a synonym for, where it is one
pub record Declared : Type 0 where
  pub params : List At
  pub body : Option Written

-- the type of the first item of the name
abbrev pub type_named : List Entry → List ℕ → Option Declared
type_named [] n = None
type_named (synonym at params body ∷ later) n = if bytes_eq n at.name then Some (record { params = params; body = Some body }) else type_named later n
type_named (abstract at params ∷ later) n = if bytes_eq n at.name then Some (record { params = params; body = None }) else type_named later n
type_named (signature at vars places ty ∷ later) n = type_named later n
type_named (define at param body ∷ later) n = type_named later n

-- the arguments of a type that isn't plain: WordArray has one, a user's as many as it has parameters
abbrev pub arity_beside : List Entry → List ℕ → Option Tau → Option ℕ
arity_beside entries n (Some t) = Some 0
arity_beside entries n None = if bytes_eq n (codes "WordArray") then Some 1 else option_map (λ d. length d.params) (type_named entries n)

-- how many arguments a type has, where it is declared
abbrev pub type_arity : List Entry → List ℕ → Option ℕ
type_arity entries n = arity_beside entries n (looked_up plain_types n)

-- ---- functions

-- the functions of the library, with how many type arguments each has
pub record OfLibrary : Type 0 where
  pub lib : Lib
  pub arity : ℕ

abbrev of_library : Lib → ℕ → OfLibrary
of_library l n = record { lib = l; arity = n }

abbrev pub library : List (List ℕ × OfLibrary)
library = (codes "new", of_library New 1) ∷ (codes "free", of_library Free 1) ∷ (codes "wordarray_create", of_library Create 1) ∷ (codes "wordarray_free", of_library FreeArray 1)
    ∷ (codes "wordarray_length", of_library Length 1) ∷ (codes "wordarray_get", of_library Get 1) ∷ (codes "wordarray_put", of_library Put 1)
    ∷ (codes "wordarray_map", of_library Map 3) ∷ (codes "wordarray_fold", of_library Fold 3)
    ∷ (codes "seq32", of_library Seq32 2) ∷ (codes "seq64", of_library Seq64 2) ∷ (codes "seq32_break", of_library Seq32Break 3) ∷ []

-- a function of the program: its position among the signatures, and its type variables
pub record OfProgram : Type 0 where
  pub position : ℕ
  pub vars : List Bound

-- that of the first signature of the name, counted from here
abbrev pub function_from : ℕ → List Entry → List ℕ → Option OfProgram
function_from i [] n = None
function_from i (signature at vars places ty ∷ later) n = if bytes_eq n at.name then Some (record { position = i; vars = vars }) else function_from (i + 1) later n
function_from i (synonym at params body ∷ later) n = function_from i later n
function_from i (abstract at params ∷ later) n = function_from i later n
function_from i (define at param body ∷ later) n = function_from i later n

abbrev pub function_named : List Entry → List ℕ → Option OfProgram
function_named entries n = function_from 0 entries n

-- a definition: its parameter and its body
pub record Defined : Type 0 where
  pub param : Pattern
  pub body : Expr

-- the first definition of the name
abbrev pub definition_named : List Entry → List ℕ → Option Defined
definition_named [] n = None
definition_named (define at param body ∷ later) n = if bytes_eq n at.name then Some (record { param = param; body = body }) else definition_named later n
definition_named (synonym at params body ∷ later) n = definition_named later n
definition_named (abstract at params ∷ later) n = definition_named later n
definition_named (signature at vars places ty ∷ later) n = definition_named later n
