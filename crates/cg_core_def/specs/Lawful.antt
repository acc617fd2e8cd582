-- Lawful kernels (docs/LANGUAGE.md, "Lawful kernels"): positions, functions and type variables are in range; each function has as many type
-- arguments as it takes, `WordArray` one and `SysState` none; each record type, variant type and record has a part, and no name twice; the
-- alternatives of each variant type stand in the byte order of their names; each operator has its number of operands; and no function
-- mentions itself through bodies.
use Rattle.std.specs.Prelude.{◌≡◌, ℕ, suc, ◌+◌, ◌<◌, false, List, [], ◌∷◌, ◌++◌, map, length, slice_get, codes, Option, Some, None, ⊤}
use Rattle.std.specs.Cmp.Lexicographic.{slice_cmp}
use Rattle.std.specs.List.{All, list_any}
use Rattle.std.specs.List.Sorted.{IsStrictlySortedBy}
use Rattle.std.specs.Ordering.{nat_cmp}
use Rattle.std.specs.Str.{bytes_eq}
use Rattle.cg_base.specs.declared.fun.Fun.{Fun}
use Rattle.cg_base.specs.declared.fun.Fun.TheVariants.{User, Lib as OfLib}
use Rattle.cg_base.specs.declared.fun.Lib.{Lib}
use Rattle.cg_base.specs.declared.fun.Lib.TheVariants.{New, Free, Create, FreeArray, Length, Get, Put, Map, Fold, Seq32, Seq64, Seq32Break}
use Rattle.cg_base.specs.declared.place.Place.{Place}
use Rattle.cg_base.specs.Types as types
use Rattle.cg_base.specs.Types.{Tau, Taus, Parts}
use Rattle.cg_graphs.specs.Circles.{NoCircle}
use Rattle.cg_core.specs.declared.op.Op.{Op}
use Rattle.cg_core.specs.declared.op.Op.TheVariants.{Complement, Not}
use Rattle.cg_core.specs.Kernels.{Function, Body}
use Rattle.cg_core.specs.Terms.{Tree, term, Shape, var, unit, bool, lit, fun, op, app, lets, let_bang, if_else, con, case_of, esac, struct, member, take_field, put, cast, annot, Trees, none, more, Named, end, field, Arg}

-- ---- types

-- names that are apart
abbrev pub AreApart : List (List ℕ) → Type 0
AreApart [] = ⊤
AreApart (n ∷ names) = (list_any (bytes_eq n) names ≡ false) × AreApart names

-- names in strictly rising byte order: each is below those behind it
abbrev pub AreRising : List (List ℕ) → Type 0
AreRising names = IsStrictlySortedBy (slice_cmp nat_cmp) names

-- there is one at least
abbrev pub AreSome : List (List ℕ) → Type 0
AreSome [] = ⊥
AreSome (n ∷ names) = ⊤

abbrev pub part_names : Parts → List (List ℕ)
part_names types.end = []
part_names (types.part n t taken ps) = n ∷ part_names ps

abbrev pub types_count : Taus → ℕ
types_count types.none = 0
types_count (types.more t ts) = types_count ts + 1

-- the types that are declared beforehand have their number of arguments
pub record HasArguments (name : List ℕ) (given : ℕ) : Type 0 where
  pub array : name ≡ codes "WordArray" → given ≡ 1
  pub state : name ≡ codes "SysState" → given ≡ 0

abbrev mutual
  -- a type over so many type variables
  pub IsLawfulType : ℕ → Tau → Type 0
  IsLawfulType vars (types.var n) = n < vars
  IsLawfulType vars (types.seen n) = n < vars
  IsLawfulType vars types.unit = Unit {0}
  IsLawfulType vars (types.word w) = Unit {0}
  IsLawfulType vars types.bool = Unit {0}
  IsLawfulType vars (types.arrow a b) = IsLawfulType vars a × IsLawfulType vars b
  IsLawfulType vars (types.abs n ts sigil) = HasArguments n (types_count ts) × AreLawfulTypes vars ts
  IsLawfulType vars (types.variant ps) = AreSome (part_names ps) × AreApart (part_names ps) × AreRising (part_names ps) × AreLawfulParts vars ps
  IsLawfulType vars (types.fields ps sigil) = AreSome (part_names ps) × AreApart (part_names ps) × AreLawfulParts vars ps

  pub AreLawfulTypes : ℕ → Taus → Type 0
  AreLawfulTypes vars types.none = Unit {0}
  AreLawfulTypes vars (types.more t ts) = IsLawfulType vars t × AreLawfulTypes vars ts

  pub AreLawfulParts : ℕ → Parts → Type 0
  AreLawfulParts vars types.end = Unit {0}
  AreLawfulParts vars (types.part n t taken ps) = IsLawfulType vars t × AreLawfulParts vars ps

-- ---- terms

-- how many type arguments a function of the library takes
abbrev pub library_arity : Lib → ℕ
library_arity New = 1
library_arity Free = 1
library_arity Create = 1
library_arity FreeArray = 1
library_arity Length = 1
library_arity Get = 1
library_arity Put = 1
library_arity Map = 3
library_arity Fold = 3
library_arity Seq32 = 2
library_arity Seq64 = 2
library_arity Seq32Break = 3

-- how many operands an operator has
abbrev pub operands : Op → ℕ
operands Complement = 1
operands Not = 1
operands o = 2

abbrev pub terms_count : Trees Place → ℕ
terms_count none = 0
terms_count (more t ts) = terms_count ts + 1

abbrev pub field_names : Named Place → List (List ℕ)
field_names end = []
field_names (field n t fs) = n ∷ field_names fs

-- among functions that take so many type arguments each
module _ (arities : List ℕ) where
  -- so many are what a function takes
  abbrev pub Takes : Fun → ℕ → Type 0
  Takes (User f) given = slice_get arities f ≡ Some given
  Takes (OfLib l) given = library_arity l ≡ given

  module _ (vars : ℕ) where
    abbrev pub IsLawfulArg : Arg → Type 0
    IsLawfulArg a = IsLawfulType vars a.ty

    abbrev mutual
      -- a term in a context of this length
      pub IsLawfulTerm : ℕ → Tree Place → Type 0
      IsLawfulTerm depth (term place shape) = IsLawfulShape depth shape

      pub IsLawfulShape : ℕ → Shape Place → Type 0
      IsLawfulShape depth (var i) = i < depth
      IsLawfulShape depth unit = Unit {0}
      IsLawfulShape depth (bool b) = Unit {0}
      IsLawfulShape depth (lit v) = Unit {0}
      IsLawfulShape depth (fun f args) = Takes f (length args) × All IsLawfulArg args
      IsLawfulShape depth (op o ts) = (terms_count ts ≡ operands o) × AreLawfulTerms depth ts
      IsLawfulShape depth (app f x) = IsLawfulTerm depth f × IsLawfulTerm depth x
      IsLawfulShape depth (lets p x y) = IsLawfulTerm depth x × IsLawfulTerm (suc depth) y
      IsLawfulShape depth (let_bang seen p x y) = All (λ s. s.var < depth) seen × IsLawfulTerm depth x × IsLawfulTerm (suc depth) y
      IsLawfulShape depth (if_else c x y) = IsLawfulTerm depth c × IsLawfulTerm depth x × IsLawfulTerm depth y
      IsLawfulShape depth (con n x) = IsLawfulTerm depth x
      IsLawfulShape depth (case_of c at p x y) = IsLawfulTerm depth c × IsLawfulTerm (suc depth) x × IsLawfulTerm (suc depth) y
      IsLawfulShape depth (esac at x) = IsLawfulTerm depth x
      IsLawfulShape depth (struct fs) = AreSome (field_names fs) × AreApart (field_names fs) × AreLawfulFields depth fs
      IsLawfulShape depth (member x at) = IsLawfulTerm depth x
      IsLawfulShape depth (take_field x at p q y) = IsLawfulTerm depth x × IsLawfulTerm (suc (suc depth)) y
      IsLawfulShape depth (put x at y) = IsLawfulTerm depth x × IsLawfulTerm depth y
      IsLawfulShape depth (cast x) = IsLawfulTerm depth x
      IsLawfulShape depth (annot x a) = IsLawfulTerm depth x × IsLawfulArg a

      pub AreLawfulTerms : ℕ → Trees Place → Type 0
      AreLawfulTerms depth none = Unit {0}
      AreLawfulTerms depth (more t ts) = IsLawfulTerm depth t × AreLawfulTerms depth ts

      pub AreLawfulFields : ℕ → Named Place → Type 0
      AreLawfulFields depth end = Unit {0}
      AreLawfulFields depth (field n t fs) = IsLawfulTerm depth t × AreLawfulFields depth fs

  -- a body, in the context of its argument alone
  abbrev pub IsLawfulBody : ℕ → Option Body → Type 0
  IsLawfulBody vars None = ⊤
  IsLawfulBody vars (Some b) = IsLawfulTerm vars 1 b.term

  pub record IsLawfulFunction (f : Function) : Type 0 where
    pub ty : IsLawfulType (length f.vars) f.ty.ty
    pub body : IsLawfulBody (length f.vars) f.body

-- ---- mentions

-- the functions of the program that a function is
abbrev pub user_of : Fun → List ℕ
user_of (User f) = f ∷ []
user_of (OfLib l) = []

-- the functions of the program in a term
abbrev mutual
  pub term_mentions : Tree Place → List ℕ
  term_mentions (term place shape) = shape_mentions shape

  pub shape_mentions : Shape Place → List ℕ
  shape_mentions (var i) = []
  shape_mentions unit = []
  shape_mentions (bool b) = []
  shape_mentions (lit v) = []
  shape_mentions (fun f args) = user_of f
  shape_mentions (op o ts) = terms_mentions ts
  shape_mentions (app f x) = term_mentions f ++ term_mentions x
  shape_mentions (lets p x y) = term_mentions x ++ term_mentions y
  shape_mentions (let_bang seen p x y) = term_mentions x ++ term_mentions y
  shape_mentions (if_else c x y) = term_mentions c ++ term_mentions x ++ term_mentions y
  shape_mentions (con n x) = term_mentions x
  shape_mentions (case_of c at p x y) = term_mentions c ++ term_mentions x ++ term_mentions y
  shape_mentions (esac at x) = term_mentions x
  shape_mentions (struct fs) = fields_mentions fs
  shape_mentions (member x at) = term_mentions x
  shape_mentions (take_field x at p q y) = term_mentions x ++ term_mentions y
  shape_mentions (put x at y) = term_mentions x ++ term_mentions y
  shape_mentions (cast x) = term_mentions x
  shape_mentions (annot x a) = term_mentions x

  pub terms_mentions : Trees Place → List ℕ
  terms_mentions none = []
  terms_mentions (more t ts) = term_mentions t ++ terms_mentions ts

  pub fields_mentions : Named Place → List ℕ
  fields_mentions end = []
  fields_mentions (field n t fs) = term_mentions t ++ fields_mentions fs

abbrev pub body_mentions : Option Body → List ℕ
body_mentions None = []
body_mentions (Some b) = term_mentions b.term

-- the graph of mentions of a kernel
abbrev pub kernel_mentions : List Function → List (List ℕ)
kernel_mentions functions = map (λ f. body_mentions f.body) functions

-- ---- kernels

pub record IsLawfulKernel (functions : List Function) : Type 0 where
  pub functions_stand : All (IsLawfulFunction (map (λ f. length f.vars) functions)) functions
  pub total : NoCircle (kernel_mentions functions)
