-- Instances: functions at the types that stand for their type variables, what bodies mention at them, and lists of instances whose
-- bodies are derived (docs/LANGUAGE.md, "Instances"). A list may come of a source or be made otherwise.
use Rattle.std.specs.Prelude.{◌≡◌, ℕ, Bool, IsTrue, nat_eq, List, [], ◌∷◌, ◌++◌, map, length, slice_get, Option, Some, None, ⊤}
use Rattle.std.specs.List.{All, list_all}
use Rattle.cg_base.specs.declared.fun.Fun.{Fun}
use Rattle.cg_base.specs.Places.{first_place}
use Rattle.cg_base.specs.Types.{Tau, arrow}
use Rattle.cg_core.specs.Derivations.{Derivation}
use Rattle.cg_core.specs.Kernels.{Function}
use Rattle.cg_core.specs.Terms.{Arg, Note, Tree, term, Shape, fun, op, app, lets, let_bang, if_else, con, case_of, esac, struct, member, take_field, put, cast, annot, Trees, none, more, Named, end, field}
use Rattle.cg_kinds.specs.Kinds.{subst, width}
use Rattle.cg_typing.specs.Functions.{are_good_arguments, arg_types, asked_by, fun_type, takes_as_many}
use Rattle.cg_typing.specs.Rules.{Derives}

-- a function, and the types that stand for its type variables
pub record Instance : Type 0 where
  pub fun : Fun
  pub types : List Tau

-- types as type arguments, which are written nowhere
abbrev pub as_arguments : List Tau → List Arg
as_arguments types = map (λ t. record { place = first_place; ty = t }) types

-- a type without type variables
abbrev pub is_closed : Tau → Bool
is_closed t = nat_eq (width t) 0

-- an instance is one of its function: there are as many types as this takes, they have no type variables, and they are what it asks
pub record IsGood (functions : List Function) (x : Instance) : Type 0 where
  pub many : IsTrue (takes_as_many functions x.fun (length x.types))
  pub closed : IsTrue (list_all is_closed x.types)
  pub good : IsTrue (are_good_arguments [] (asked_by functions x.fun) (as_arguments x.types))

-- the nodes of a core in reading order: a node stands before its parts
abbrev mutual
  pub nodes_of : Tree Note → List (Tree Note)
  nodes_of (term note shape) = term note shape ∷ nodes_below shape

  pub nodes_below : Shape Note → List (Tree Note)
  nodes_below (op o ts) = nodes_of_all ts
  nodes_below (app f x) = nodes_of f ++ nodes_of x
  nodes_below (lets binder e k) = nodes_of e ++ nodes_of k
  nodes_below (let_bang observers binder e k) = nodes_of e ++ nodes_of k
  nodes_below (if_else c x y) = nodes_of c ++ nodes_of x ++ nodes_of y
  nodes_below (con name e) = nodes_of e
  nodes_below (case_of e at binder x y) = nodes_of e ++ nodes_of x ++ nodes_of y
  nodes_below (esac at e) = nodes_of e
  nodes_below (struct fs) = nodes_of_fields fs
  nodes_below (member e at) = nodes_of e
  nodes_below (take_field e at rest binder k) = nodes_of e ++ nodes_of k
  nodes_below (put e at x) = nodes_of e ++ nodes_of x
  nodes_below (cast e) = nodes_of e
  nodes_below (annot e a) = nodes_of e
  nodes_below leaf = []

  pub nodes_of_all : Trees Note → List (Tree Note)
  nodes_of_all none = []
  nodes_of_all (more t ts) = nodes_of t ++ nodes_of_all ts

  pub nodes_of_fields : Named Note → List (Tree Note)
  nodes_of_fields end = []
  nodes_of_fields (field name t fs) = nodes_of t ++ nodes_of_fields fs

-- what a node mentions, where these types stand for the type variables
abbrev pub mentioned_at : List Tau → Tree Note → List Instance
mentioned_at types (term note (fun f args)) = record { fun = f; types = map (subst types) (arg_types args) } ∷ []
mentioned_at types _ = []

-- what these nodes mention, in order
unfoldable pub mentioned_in : List Tau → List (Tree Note) → List Instance
mentioned_in types [] = []
mentioned_in types (t ∷ ts) = mentioned_at types t ++ mentioned_in types ts

-- the instances that a body mentions, in reading order
abbrev pub mentioned : List Tau → Tree Note → List Instance
mentioned types core = mentioned_in types (nodes_of core)

-- an entry of a list of instances: its type, and its body, where it has one
pub record Entry : Type 0 where
  pub ty : Tau
  pub body : Option (Tree Note)

-- a body is derived in the context of the argument alone, checked against the result
pub record IsDerivedBody (functions : List Function) (argument result : Tau) (core : Tree Note) : Type 0 where
  pub tree : Derivation
  pub derives : Derives functions [] (Some argument ∷ []) tree (Some result) core

abbrev pub IsDerivedMaybe : List Function → Tau → Tau → Option (Tree Note) → Type 0
IsDerivedMaybe functions argument result None = ⊤
IsDerivedMaybe functions argument result (Some core) = IsDerivedBody functions argument result core

-- an instance is in a list
pub record IsIn (list : List Instance) (x : Instance) : Type 0 where
  pub place : ℕ
  pub there : slice_get list place ≡ Some x

abbrev pub MentionsOnly : List Instance → Option (Tree Note) → Type 0
MentionsOnly list None = ⊤
MentionsOnly list (Some core) = All (IsIn list) (mentioned [] core)

-- an entry of a list: its type is an arrow, that of its function at its types; its body is derived at that type, and mentions only
-- instances of the list
pub record IsEntry (functions : List Function) (list : List Instance) (x : Instance) (e : Entry) : Type 0 where
  pub argument : Tau
  pub result : Tau
  pub is_arrow : e.ty ≡ arrow argument result
  pub is : fun_type functions x.fun (as_arguments x.types) ≡ Some e.ty
  pub derived : IsDerivedMaybe functions argument result e.body
  pub mentions : MentionsOnly list e.body

-- a list of instances with arrow types and bodies that are derived and mention only instances of the list
pub record AreInstances (functions : List Function) (list : List Instance) (entries : List Entry) : Type 0 where
  pub as_many : length entries ≡ length list
  pub each : (i : ℕ) (x : Instance) (e : Entry) → slice_get list i ≡ Some x → slice_get entries i ≡ Some e → IsEntry functions list x e
