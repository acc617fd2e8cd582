-- Iterators: the indices of their turns, what a turn is asked, and what comes of what it gives (docs/LANGUAGE.md, "Evaluation").
use Rattle.std.specs.Prelude.{ℕ, zero, suc, ◌+◌, Bool, true, false, List, [], ◌∷◌, codes, length, min, nat_eq, nat_lt, Option, Some, None, get_or, if◌then◌else◌}
use Rattle.cg_base.specs.declared.fun.Lib.{Lib}
use Rattle.cg_base.specs.declared.fun.Lib.TheVariants.{Map, Fold, Seq32, Seq64, Seq32Break}
use Rattle.cg_value.specs.Forms.{elements_in, field, has_name, number_in, pair, with_element}
use Rattle.cg_value.specs.Values.{Val, number, nothing, chosen, parts, to_vals}

-- whether a function of the library is one
abbrev pub is_iterator : Lib → Bool
is_iterator Map = true
is_iterator Fold = true
is_iterator Seq32 = true
is_iterator Seq64 = true
is_iterator Seq32Break = true
is_iterator _ = false

-- Iterators, whose argument is a record: `map` and `fold` have an array at 0 and the bounds at 1 and 2, `seq` the bounds at 0 and 1 and
-- the step at 2, and each the function at 3, what is handed on at 4 and what is observed at 5.

-- the numbers from i on by steps, below an end; as many as the first number allows, which an end of n always does
unfoldable pub counted : ℕ → ℕ → ℕ → ℕ → List ℕ
counted zero i to step = []
counted (suc n) i to step = if nat_lt i to then i ∷ counted n (i + step) to step else []

-- the same, and none where the step is 0
unfoldable pub indices_from : ℕ → ℕ → ℕ → List ℕ
indices_from i to step = if nat_eq step zero then [] else counted to i to step

-- the indices from the next one on, if there is one
abbrev pub upcoming : ℕ → ℕ → Option ℕ → List ℕ
upcoming to step None = []
upcoming to step (Some i) = i ∷ indices_from (i + step) to step

-- where the indices of the turns begin, where they end, and by what steps they go
abbrev pub first_index : Lib → Val → ℕ
first_index Map x = number_in (field x 1)
first_index Fold x = number_in (field x 1)
first_index _ x = number_in (field x 0)

abbrev pub end_index : Lib → Val → ℕ
end_index Map x = min (number_in (field x 2)) (length (elements_in (field x 0)))
end_index Fold x = min (number_in (field x 2)) (length (elements_in (field x 0)))
end_index _ x = number_in (field x 1)

abbrev pub step_of : Lib → Val → ℕ
step_of Map x = 1
step_of Fold x = 1
step_of _ x = number_in (field x 2)

-- the indices of the turns
abbrev pub indices : Lib → Val → List ℕ
indices lib x = indices_from (first_index lib x) (end_index lib x) (step_of lib x)

-- The argument of the turn at an index, where `seen` is observed, over an array a (of `seq` whatever stands there), where s is handed on.
abbrev pub asked : Lib → Val → ℕ → Val → Val → Val
asked Map seen i a s = parts (to_vals (number (get_or (elements_in a) i zero) ∷ s ∷ seen ∷ []))
asked Fold seen i a s = parts (to_vals (number (get_or (elements_in a) i zero) ∷ s ∷ seen ∷ []))
asked _ seen i a s = parts (to_vals (s ∷ seen ∷ number i ∷ []))

-- a turn that gave this is the last
abbrev pub stops : Lib → Val → Bool
stops Seq32Break v = has_name (codes "Break") (field v 1)
stops _ v = false

-- the array for the next turn, by what the turn at an index gave: `map` puts the new element in
abbrev pub changed : Lib → ℕ → Val → Val → Val
changed Map i a v = with_element a i (number_in (field v 0))
changed _ i a v = a

-- what is handed on to the next turn
abbrev pub carried : Lib → Val → Val
carried Map v = field v 1
carried Seq32Break v = field v 0
carried _ v = v

-- what is given where no turn was the last
abbrev pub ended : Lib → Val → Val → Val
ended Map a s = pair a s
ended Seq32Break a s = pair s (chosen (codes "Iterate") nothing)
ended _ a s = s
