-- Steps of the pass that need no term: how a node is reached.
use Rattle.std.specs.Prelude.{Bool, true, false, ◌&&◌, Option, List, [], ◌∷◌, Ok}
use Rattle.cg_base.specs.declared.kind.Kinds.{Kinds}
use Rattle.cg_base.specs.declared.place.Place.{Place}
use Rattle.cg_base.specs.Types.{Tau}
use Rattle.cg_core.specs.declared.derivation.Mark.{Mark}
use Rattle.cg_core.specs.declared.derivation.Node.{Node}
use Rattle.cg_core.specs.declared.derivation.Node.TheVariants as nodes
use Rattle.cg_core.specs.declared.term.Seen.{Seen}
use Rattle.cg_core.specs.Terms.{Named}
use Rattle.cg_certcheck_def.specs.Events.{is_some, name_at, strings_at, one_string, field_strings, meets}
use Rattle.cg_certcheck_def.specs.Pass.{Out, Cursor, bind, row, stands, step}
use Rattle.cg_certcheck_def.specs.Tests.{same_node, drops_all}
use Rattle.cg_typing.specs.Contexts.{Context}
use Rattle.cg_typing.specs.Trees.{first_marks, leaf}

-- the mark strings of the node that stands here, which is of this rule
unfoldable pub found : Cursor → Node → Out (List (List Mark))
found at node = stands at.next (is_some at.nodes) (row at.next (same_node (name_at at.nodes) node) (Ok (strings_at at.nodes)))

abbrev pub is_none : List (List Mark) → Bool
is_none [] = true
is_none (string ∷ strings) = false

-- behind a node without marks
unfoldable pub leaf_reached : Cursor → Node → Out Cursor
leaf_reached at node = bind (found at node) (λ strings. row at.next (is_none strings) (Ok (step at)))

-- behind a leaf of this type, of whose context it is known whether it may end here
unfoldable pub leaf_tested : Option Tau → Tau → Node → Bool → Cursor → Out Cursor
leaf_tested direction t node holds at = bind (leaf_reached at node) (λ behind. row at.next (holds && meets direction t) (Ok behind))

-- the marks of a split, and what is behind its node
pub record Split : Type 0 where
  pub marks : List Mark
  pub at : Cursor

-- the mark strings of a record, and what is behind its node
pub record Strings : Type 0 where
  pub marks : List (List Mark)
  pub at : Cursor

module _ (vars : List Kinds) where
  unfoldable pub split_reached : List Seen → Context → Node → Cursor → Out Split
  split_reached observers g node at =
      bind (found at node) (λ strings. row at.next (one_string vars observers strings g) (Ok (record { marks = first_marks strings; at = step at })))

  unfoldable pub record_reached : Named Place → Context → Cursor → Out Strings
  record_reached fs g at =
      bind (found at nodes.Struct) (λ strings. row at.next (field_strings vars fs strings g) (Ok (record { marks = strings; at = step at })))

  -- behind a literal that stands left of its guide
  unfoldable pub literal_reached : Context → Cursor → Out Cursor
  literal_reached g at = bind (leaf_reached at nodes.Lit) (λ behind. row at.next (drops_all vars g) (Ok behind))
