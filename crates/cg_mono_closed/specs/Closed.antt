-- Cores in which no type variable stands.
use Rattle.std.specs.Prelude.{◌≡◌, Bool, true, false, ◌&&◌, IsTrue, List, [], ◌∷◌}
use Rattle.std.specs.List.{list_all}
use Rattle.cg_base.specs.Types.{Tau, var, seen, unit, word, bool, arrow, abs, variant, fields, Taus, none, more, Parts, end, part}
use Rattle.cg_core.specs.Terms.{Arg, Note, Tree, term, Shape, fun, annot}
use Rattle.cg_typing.specs.Instances.{nodes_of}
use Rattle.cg_typing.specs.Subst.{subst_core}

abbrev mutual
  -- no type variable stands in a type
  pub closed : Tau → Bool
  closed (var n) = false
  closed (seen n) = false
  closed unit = true
  closed (word w) = true
  closed bool = true
  closed (arrow a b) = closed a && closed b
  closed (abs name ts sigil) = closed_all ts
  closed (variant ps) = closed_parts ps
  closed (fields ps sigil) = closed_parts ps

  pub closed_all : Taus → Bool
  closed_all none = true
  closed_all (more t ts) = closed t && closed_all ts

  pub closed_parts : Parts → Bool
  closed_parts end = true
  closed_parts (part x t taken ps) = closed t && closed_parts ps

-- nor in the types that are written at a node
abbrev pub closed_arg : Arg → Bool
closed_arg a = closed a.ty

abbrev pub closed_shape : Shape Note → Bool
closed_shape (fun f args) = list_all closed_arg args
closed_shape (annot e a) = closed_arg a
closed_shape shape = true

-- nor in a node's own types
abbrev pub closed_node : Tree Note → Bool
closed_node (term note shape) = closed note.ty && closed_shape shape

-- nor in any node of a core
abbrev pub closed_core : Tree Note → Bool
closed_core c = list_all closed_node (nodes_of c)

-- types for type variables change nothing of a core in which none stands
abbrev pub ClosedCoresStay : Type 0
ClosedCoresStay = (c : Tree Note) → IsTrue (closed_core c) → (types : List Tau) → subst_core types c ≡ c
