-- Parts of which no two have one name, and mentions of what stands among some places of a list of instances.
use Rattle.std.specs.Prelude.{ℕ, Bool, true, false, ◌&&◌, not, List, Option, Some, None}
use Rattle.std.specs.List.{list_all}
use Rattle.cg_base.specs.Types.{Parts, end, part}
use Rattle.cg_core.specs.Terms.{Note, Tree, term, fun}
use Rattle.cg_typing.specs.Functions.{arg_types}
use Rattle.cg_typing.specs.Instances.{Instance, is_closed}
use Rattle.cg_typing.specs.Parts.{is_there, part_named}
use Rattle.cg_update.specs.Updates.{place_of}

-- no two of the parts have one name
unfoldable pub are_apart : Parts → Bool
are_apart end = true
are_apart (part name t taken ps) = not (is_there (part_named name ps)) && are_apart ps

-- Among some places of a list of instances:
module _ (list : List Instance) (among : ℕ → Bool) where
  abbrev pub is_place_among : Option ℕ → Bool
  is_place_among None = false
  is_place_among (Some k) = among k

  -- what a node mentions, without type variables, stands among them
  abbrev pub is_mention_among : Tree Note → Bool
  is_mention_among (term note (fun f args)) =
      list_all is_closed (arg_types args) && is_place_among (place_of (record { fun = f; types = arg_types args }) list)
  is_mention_among t = true
