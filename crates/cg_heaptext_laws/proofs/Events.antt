-- What is asked of each thing that is met as a value is read.
use Rattle.std.proofs.Common.{ℕ, ◌^◌, Bool, List, [], ◌∷◌, map, Option, Some, None, if◌then◌else◌}
use Rattle.cg_base.specs.declared.place.Place.{Place}
use Rattle.cg_base.specs.Types.{word, Taus, none, more}
use Rattle.cg_base.specs.Words.{bits}
use Rattle.cg_heaptext_def.specs.Reading.{Event, misfit, counted, mention, events_within, is_array_name, is_system, misfit_cell}
use Rattle.cg_heaptext_def.specs.Trees.{Numeral, Cell, elements, answers}
use Rattle.cg_heaptext_laws.proofs.Each.{Each, each_if}

-- it is no misfit
abbrev pub Fits : Event → Type 0
Fits (misfit p) = ⊥
Fits (counted n bound) = Unit {0}
Fits (mention p q t) = Unit {0}

-- it is no mention
abbrev pub IsPlain : Event → Type 0
IsPlain (misfit p) = Unit {0}
IsPlain (counted n bound) = Unit {0}
IsPlain (mention p q t) = ⊥

-- ---- where nothing is mentioned

pub plain_cell : (o : Option Cell) → Each IsPlain (misfit_cell o)
plain_cell None = tt
plain_cell (Some c) = (tt, tt)

plain_numbers : (bound : Numeral → Event) → ((n : Numeral) → IsPlain (bound n)) → (ns : List Numeral) → Each IsPlain (map bound ns)
plain_numbers bound h [] = tt
plain_numbers bound h (n ∷ ns) = (h n, plain_numbers bound h ns)

-- in the cell of an allocator or of an array
pub plain_within : (name : List ℕ) (ts : Taus) (o : Option Cell) → Each IsPlain (events_within name ts o)
plain_within name none (Some (answers p bs)) = each_if IsPlain (is_system name) [] (misfit p ∷ []) tt (tt, tt)
plain_within name (more (word w) none) (Some (elements p ns)) =
    each_if IsPlain (is_array_name name) (map (λ n. counted n (2 ^ bits w)) ns) (misfit p ∷ []) (plain_numbers (λ n. counted n (2 ^ bits w)) (λ n. tt) ns) (tt, tt)
plain_within name ts o = plain_cell o

-- where a field is taken
pub plain_mark : (b : Bool) (p : Place) → Each IsPlain (if b then [] else misfit p ∷ [])
plain_mark b p = each_if IsPlain b [] (misfit p ∷ []) tt (tt, tt)
