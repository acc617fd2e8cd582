-- What is held of a cell that is read is small, where what is met in it is narrow.
use Rattle.std.proofs.Common.{◌≡◌, ℕ, ◌^◌, true, List, [], ◌∷◌, map, Option, Some, refl}
use Rattle.cg_base.specs.declared.kind.Word.{Word}
use Rattle.cg_base.specs.Types.{Tau, word, abs, fields, Taus, none, more}
use Rattle.cg_base.specs.Words.{bits}
use Rattle.cg_heaptext_def.specs.Reading.{misfit, counted, events_all, events_within, have_names, held_at, is_array_name}
use Rattle.cg_heaptext_def.specs.Small.{is_small_cell}
use Rattle.cg_heaptext_def.specs.Trees as written
use Rattle.cg_heaptext_def.specs.Trees.{Numeral, amount, Cell, elements, answers, names_in, values_in}
use Rattle.cg_heaptext_laws.proofs.Each.{Each, each_true}
use Rattle.cg_heaptext_laws.proofs.Shapes.{opened}
use Rattle.cg_heaptext_laws.proofs.SmallReads.{IsSized}
use Rattle.cg_heaptext_laws.proofs.SmallScalars.{IsLow, small_numbers, widest}
use Rattle.cg_heaptext_laws.proofs.SmallValues.{IsNarrow, small_all}

-- elements of a word
each_low : (w : Word) (ns : List Numeral) → Each IsNarrow (map (λ n. counted n (2 ^ bits w)) ns) → Each IsLow ns
each_low w [] f = tt
each_low w (n ∷ ns) f = (widest w (amount n) f.0, each_low w ns f.1)

-- the cell of an allocator, or of an array
small_within : (name : List ℕ) (ts : Taus) (t : Option Tau) (c : Cell) → Each IsNarrow (events_within name ts (Some c)) → is_small_cell (held_at t c) ≡ true
small_within name none t (answers p bs) f = refl
small_within name (more (word w) none) t (elements p ns) f =
    small_numbers ns (each_low w ns (each_true IsNarrow (is_array_name name) (map (λ n. counted n (2 ^ bits w)) ns) (misfit p ∷ []) (λ g. g.0) f).1)
small_within name ts t c f = absurd f.0

pub small_cell : (cells : ℕ → Option Cell) (s : Tau) (c : Cell) → IsSized s → Each IsNarrow (opened cells s (Some c)) → is_small_cell (held_at (Some s) c) ≡ true
small_cell cells (abs name ts s) c h f = small_within name ts (Some (abs name ts s)) c f
small_cell cells (fields ps s) (written.slots p fs) h f =
    small_all cells ps (values_in fs) h (each_true IsNarrow (have_names ps (names_in fs)) (events_all cells ps (values_in fs)) (misfit p ∷ []) (λ g. g.0) f).1
small_cell cells (fields ps s) (elements p ns) h f = absurd f.0
small_cell cells (fields ps s) (answers p bs) h f = absurd f.0
small_cell cells t c h f = absurd h
