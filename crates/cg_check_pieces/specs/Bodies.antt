-- What a checker keeps: of a body its core and its derivation, and of functions the two lists of these.
use Rattle.std.specs.Prelude.{Option, Some, None, Result, Ok, Err, List, [], ◌∷◌, ◌++◌, map}
use Rattle.cg_core.specs.Derivations.{Derivation, derivation_of}
use Rattle.cg_core.specs.Kernels.{the_core}
use Rattle.cg_core.specs.Terms.{Tree, Note}
use Rattle.cg_check_pieces.specs.declared.kept.KeptBodies.{KeptBodies}
use Rattle.cg_check_pieces.specs.declared.kept.KeptBody.{KeptBody}
use Rattle.cg_typing.specs.Kept.{maybe_core, maybe_tree}

-- a core and a derivation
abbrev pub Both : Type 0
Both = Tree Note × Derivation

abbrev pub both_of : KeptBody → Both
both_of k = (the_core k.core, derivation_of k.tree)

-- of a function, which has a body or none
abbrev pub maybe_both : Option KeptBody → Option Both
maybe_both None = None
maybe_both (Some k) = Some (both_of k)

abbrev pub core_in : Option Both → Option (Tree Note)
core_in None = None
core_in (Some both) = Some both.0

abbrev pub tree_in : Option Both → Option Derivation
tree_in None = None
tree_in (Some both) = Some both.1

-- of functions
abbrev pub Lists : Type 0
Lists = List (Option (Tree Note)) × List (Option Derivation)

abbrev pub lists_of : KeptBodies → Lists
lists_of k = (map maybe_core k.cores, map maybe_tree k.trees)

abbrev pub lists_in : List (Option Both) → Lists
lists_in kept = (map core_in kept, map tree_in kept)

abbrev pub no_lists : Lists
no_lists = ([], [])

abbrev pub joined : Lists → Lists → Lists
joined xs ys = (xs.0 ++ ys.0, xs.1 ++ ys.1)

abbrev pub one_more : Lists → Option Both → Lists
one_more xs both = joined xs (core_in both ∷ [], tree_in both ∷ [])

-- the answer of a pass, whatever its faults are, as two lists
abbrev pub as_lists : {E : Type 0} → Result (List (Option Both)) E → Result Lists E
as_lists (Ok kept) = Ok (lists_in kept)
as_lists (Err fault) = Err fault
