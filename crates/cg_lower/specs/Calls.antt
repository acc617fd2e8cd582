-- Which instances call which by their names, and which are of which arrow type (docs/LANGUAGE.md, "The C of instances", functions).
use Rattle.std.specs.Prelude.{◌≡◌, ℕ, ◌+◌, true, List, [], ◌∷◌, ◌++◌, Some, get_or, length, map, replicate, set, slice_get}
use Rattle.std.specs.List.{flat_map}
use Rattle.cg_base.specs.Same.{same_type}
use Rattle.cg_base.specs.Types.{Tau}
use Rattle.cg_lower.specs.Collected.{Copy, nodes_maybe}
use Rattle.cg_core.specs.Terms.{Note, Tree, term, fun, app}
use Rattle.cg_lower_tables.specs.Found.{Known}
use Rattle.cg_lower_def.specs.Dispatch.{tags_from}
use Rattle.cg_lower_def.specs.Lowered.{Whole, place}
use Rattle.cg_typing.specs.Instances.{Entry}

-- ---- calls by name

module _ (whole : Whole) where
  -- the place of the instance that this function is, where it is named
  abbrev pub named_place : Tree Note → List ℕ
  named_place (term note (fun f args)) = place whole f args ∷ []
  named_place f = []

  -- the place of the instance that a node calls by its name
  abbrev pub calls_at : Tree Note → List ℕ
  calls_at (term note (app f x)) = named_place f
  calls_at t = []

  -- the instances that the body of one calls by their names
  abbrev pub calls_of : Copy → List ℕ
  calls_of c = flat_map calls_at (nodes_maybe c.1.body)

  -- as nodes of a graph, whose first nodes are the arrow types
  abbrev pub nodes_called : List ℕ → List ℕ
  nodes_called ks = map (λ k. length whole.arrows + k) ks

  -- The graph of calls by name. Its first nodes are the functions of arrow types, of which nothing is said, and behind them stand the
  -- instances.
  abbrev pub calls_in : List Copy → List (List ℕ)
  calls_in copies = replicate (length whole.arrows) [] ++ map (λ (c : Copy). nodes_called (calls_of c)) copies

-- what is looked up, as what is known of the whole
abbrev pub whole_by : Known → Whole
whole_by known = record { numbered = λ t. 0; arrows = known.arrows; list = known.list }

-- ---- instances by their arrow types

-- no two of these arrow types are one
abbrev pub AreApart : List Tau → Type 0
AreApart arrows = (i j : ℕ) (t u : Tau) → slice_get arrows i ≡ Some t → slice_get arrows j ≡ Some u → same_type t u ≡ true → i ≡ j

-- a place joins those of a number, where there are some
abbrev pub put_tag : List (List ℕ) → ℕ → ℕ → List (List ℕ)
put_tag tags number k = set tags number (get_or tags number [] ++ k ∷ [])

-- for each arrow type the places of the entries that are of it
abbrev pub tags_of : List Entry → List Tau → List (List ℕ)
tags_of entries arrows = map (λ t. tags_from 0 t entries) arrows
