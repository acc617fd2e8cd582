-- Contexts of the second checker, and what is asked of them.
use Rattle.std.specs.Prelude.{Bool, true, false, ◌&&◌, ◌||◌, not, cond, Option, Some, None, List, [], ◌∷◌, map}
use Rattle.cg_base.specs.declared.kind.Kinds.{Kinds}
use Rattle.cg_base.specs.Types.{Tau, type_of}
use Rattle.cg_certcheck_context.specs.declared.context.Entry.{Entry}
use Rattle.cg_certcheck_context.specs.declared.context.Entry.TheVariants.{Gone as Absent, Present, Droppable, Observed}
use Rattle.cg_core.specs.declared.derivation.Mark.{Mark}
use Rattle.cg_core.specs.declared.derivation.Mark.TheVariants.{Gone, Left, Right, Both, Seen}
use Rattle.cg_kinds.specs.Kinds.{bang, kinds}
use Rattle.cg_certcheck_def.specs.Tests.{splits}
use Rattle.cg_typing.specs.Contexts.{Context, second}

-- whether a type may be dropped, and shared too where that is said
abbrev pub is_found : List Kinds → Bool → Tau → Bool
is_found vars shared t = (kinds vars t).drop && (not shared || (kinds vars t).share)

-- a type of which this was found: this one if it is so, else this one as observed
abbrev pub found_type : List Kinds → Bool → Tau → Tau
found_type vars shared t = cond (is_found vars shared t) t (bang t)

-- a variable of a context: gone, or present with its own type, with one that may be dropped, or as observed
abbrev pub entry_of : List Kinds → Entry → Option Tau
entry_of vars Absent = None
entry_of vars (Present t) = Some (type_of t.now)
entry_of vars (Droppable t shared) = Some (found_type vars shared (type_of t.now))
entry_of vars (Observed t) = Some (bang (type_of t.now))

abbrev pub context_of : List Kinds → List Entry → Context
context_of vars = map (entry_of vars)

-- a mark fits a present entry that may be shared or not, and is among the observers or not
abbrev pub fits_present : Bool → Bool → Mark → Bool
fits_present shared observed Gone = false
fits_present shared observed Left = not observed
fits_present shared observed Right = not observed
fits_present shared observed Both = shared && not observed
fits_present shared observed Seen = observed

-- each mark string splits what the one before it leaves
abbrev pub split_in_turn : List Kinds → List (List Mark) → Context → Bool
split_in_turn vars [] g = true
split_in_turn vars (string ∷ strings) g = splits vars [] string g && split_in_turn vars strings (second string g)
