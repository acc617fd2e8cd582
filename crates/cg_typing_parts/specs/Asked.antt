-- What fails of the type arguments of a function: the first that does, judged in their order, each first by its arrays (T14), and then
-- by what the function asks of it (docs/LANGUAGE.md, "Typing": K1, T13, T14).
use Rattle.std.specs.Prelude.{List, [], ◌∷◌, Option, Some, None, if◌then◌else◌}
use Rattle.cg_base.specs.declared.kind.Kinds.{Kinds}
use Rattle.cg_base.specs.declared.place.Place.{Place}
use Rattle.cg_base.specs.Types.{Tau}
use Rattle.cg_core.specs.Terms.{Arg}
use Rattle.cg_faults.specs.declared.rule.Rule.{Rule}
use Rattle.cg_faults.specs.declared.rule.Rule.TheVariants.{K1, T13, T14}
use Rattle.cg_kinds.specs.Kinds.{kinds, is_word}
use Rattle.cg_typing_parts.specs.declared.function.Demand.{Demand}
use Rattle.cg_typing_parts.specs.declared.function.Demand.TheVariants.{Permissions, Cell, Element, Nothing}
use Rattle.cg_typing.specs.Functions.{Asked, these, a_cell, an_element, nothing, next_asked, later_asked, has_kinds}
use Rattle.cg_typing.specs.Parts.{is_cell, has_word_arrays}

-- the rule that a type fails of what is asked
abbrev pub unmet : List Kinds → Asked → Tau → Option Rule
unmet vars (these wanted) t = if has_kinds (kinds vars t) wanted then None else Some K1
unmet vars a_cell t = if is_cell t then None else Some T13
unmet vars an_element t = if is_word t then None else Some T14
unmet vars nothing t = None

-- the rule that a type argument fails
abbrev pub asked_fault : List Kinds → Asked → Tau → Option Rule
asked_fault vars asked t = if has_word_arrays t then unmet vars asked t else Some T14

-- a rule that is failed here, or what comes after
abbrev pub failed_at : Place → Option Rule → Option (Rule × Place) → Option (Rule × Place)
failed_at place None later = later
failed_at place (Some rule) later = Some (rule, place)

-- the first type argument that fails, by which rule and at which place
abbrev pub arguments_fault : List Kinds → List Asked → List Arg → Option (Rule × Place)
arguments_fault vars asked [] = None
arguments_fault vars asked (a ∷ args) =
    failed_at a.place (asked_fault vars (next_asked asked) a.ty) (arguments_fault vars (later_asked asked) args)

-- what is asked of one type argument, as the program has it
abbrev pub the_asked : Demand → Asked
the_asked (Permissions wanted) = these wanted
the_asked Cell = a_cell
the_asked Element = an_element
the_asked Nothing = nothing
