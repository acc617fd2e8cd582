-- Iterators are refined, where what they call is.
use Rattle.std.proofs.Common.{◌≡◌, ℕ, IsTrue, List, refl, sym, subst as at}
use Rattle.cg_base.specs.declared.fun.Lib.{Lib}
use Rattle.cg_base.specs.declared.fun.Lib.TheVariants.{Map, Fold, Seq32, Seq64, Seq32Break}
use Rattle.cg_base.specs.declared.kind.Sigil.TheVariants.{R, W}
use Rattle.cg_base.specs.declared.kind.Word.{Word as Width}
use Rattle.cg_base.specs.declared.kind.Word.TheVariants.{U32, U64}
use Rattle.cg_base.specs.Types.{Tau, word, arrow}
use Rattle.cg_eval_def.specs.Evaluation as values
use Rattle.cg_eval_def.specs.Evaluation.{Run, Table}
use Rattle.cg_heap.specs.Calls.{heap_of}
use Rattle.cg_kinds.specs.Kinds.{bang, is_word}
use Rattle.cg_base.proofs.Counts.{no_steps as never}
use Rattle.cg_heap.specs.declared.cell.Scalar.{Scalar}
use Rattle.cg_heap.specs.Reps.{HeapWorld, Holds}
use Rattle.cg_heap.specs.Steps.{IsFine}
use Rattle.cg_refine.proofs.Then.{F}
use Rattle.cg_refine_def.specs.Refined.{IsRefined, side_of}
use Rattle.cg_refine_laws.proofs.Arrays.{over_array_refined}
use Rattle.cg_refine_laws.proofs.Breaks.{third_turns}
use Rattle.cg_refine_laws.proofs.Folds.{fold_turns}
use Rattle.cg_refine_laws.proofs.Loops.{first_turns, loop_refined, second_turns}
use Rattle.cg_refine_laws.proofs.Maps.{map_turns}
use Rattle.cg_refine_laws.specs.Laws.{IteratorsAreRefined, TurnsRefine, is_over}
use Rattle.cg_typing.specs.Library.{array, given, library_type, over_array, pair, stopped, turn_of_array}
use Rattle.cg_typing.specs.Parts.{given_by, taken_by}
use Rattle.cg_update.specs.Calls.{Program}
use Rattle.cg_update.specs.Outcomes.{State}
use Rattle.cg_update.specs.Updates as updates
use Rattle.cg_update.specs.Updates.{Calls}
use Rattle.cg_value.specs.Values.{Val}

-- what a fold and a map take, over elements of a type
abbrev fold_takes : Tau → Tau → Tau → Tau
fold_takes t c o = over_array (bang (array t)) (arrow (turn_of_array t c o) c) c o

abbrev map_takes : Tau → Tau → Tau → Tau
map_takes t c o = over_array (array t) (arrow (turn_of_array t c o) (pair t c)) c o

module _ (p : Program) (world : HeapWorld) (table : Table) (run : Run) (calls : Calls) where
  -- an iterator is refined, from one type to another
  abbrev RefinesAt : Lib → List Tau → Tau → Tau → Type 0
  RefinesAt lib types t u =
      (s : State) (us : List Scalar) (v : Val) → Holds world (heap_of s.store) t us v → IsFine (side_of s (F s W t us) (F s R t us)) → (left : ℕ)
      → IsRefined world s (F s W t us) (F s R t us) u (values.iterated table run lib v left) (updates.iterated p calls lib types (record { ty = t; scalars = us }) s left)

  -- what the law says of one function
  abbrev pub IteratorRefines : Lib → List Tau → Type 0
  IteratorRefines lib types = RefinesAt lib types (taken_by (library_type lib types)) (given_by (library_type lib types))

  module _ (call : TurnsRefine p world table run calls) (types : List Tau) where
    -- a loop over 32 bits
    pub seq32_refined : IteratorRefines Seq32 types
    seq32_refined s us v k f left =
        loop_refined world Seq32 types U32 (given types 0) (given types 1) (given types 0) us v s p table run calls call
        (first_turns world types (given types 0) (given types 1) us v) refl refl k f left

    -- over 64 bits
    pub seq64_refined : IteratorRefines Seq64 types
    seq64_refined s us v k f left =
        loop_refined world Seq64 types U64 (given types 0) (given types 1) (given types 0) us v s p table run calls call
        (second_turns world types (given types 0) (given types 1) us v) refl refl k f left

    -- one that a turn may end
    pub seq32_break_refined : IteratorRefines Seq32Break types
    seq32_break_refined s us v k f left =
        loop_refined world Seq32Break types U32 (given types 0) (given types 2) (pair (given types 0) (stopped (given types 1))) us v s p table run calls call
        (third_turns world types (given types 0) (given types 1) (given types 2) us v) refl refl k f left

    -- a fold over an array of words
    fold_at : (w : Width) → given types 0 ≡ word w → (c o : Tau) → RefinesAt Fold types (fold_takes (word w) c o) c
    unfolding bang
    fold_at w e c o s us v k f left =
        over_array_refined world Fold types w R c o c c us v s k p table run calls call (fold_turns world types w e c o us v) refl refl f left

    -- a fold
    pub fold_refined : IsTrue (is_over Fold types) → IteratorRefines Fold types
    fold_refined over = folds (given types 0) over refl
      where
        folds : (t : Tau) → IsTrue (is_word t) → given types 0 ≡ t → IteratorRefines Fold types
        folds (word w) over e = at (λ t. RefinesAt Fold types (fold_takes t (given types 1) (given types 2)) (given types 1)) (sym e) (fold_at w e (given types 1) (given types 2))
        folds _ over e = never over

    -- a map over an array of words
    map_at : (w : Width) → given types 0 ≡ word w → (c o : Tau) → RefinesAt Map types (map_takes (word w) c o) (pair (array (word w)) c)
    map_at w e c o s us v k f left =
        over_array_refined world Map types w W c o (pair (word w) c) (pair (array (word w)) c) us v s k p table run calls call (map_turns world types w e c o us v) refl refl f left

    -- a map
    pub map_refined : IsTrue (is_over Map types) → IteratorRefines Map types
    map_refined over = maps (given types 0) over refl
      where
        maps : (t : Tau) → IsTrue (is_word t) → given types 0 ≡ t → IteratorRefines Map types
        maps (word w) over e =
            at (λ t. RefinesAt Map types (map_takes t (given types 1) (given types 2)) (pair (array t) (given types 1))) (sym e) (map_at w e (given types 1) (given types 2))
        maps _ over e = never over

-- iterators are refined
pub iterators_are_refined : IteratorsAreRefined
iterators_are_refined p world table run calls call Map types i over s us v = map_refined p world table run calls call types over s us v
iterators_are_refined p world table run calls call Fold types i over s us v = fold_refined p world table run calls call types over s us v
iterators_are_refined p world table run calls call Seq32 types i over s us v = seq32_refined p world table run calls call types s us v
iterators_are_refined p world table run calls call Seq64 types i over s us v = seq64_refined p world table run calls call types s us v
iterators_are_refined p world table run calls call Seq32Break types i over s us v = seq32_break_refined p world table run calls call types s us v
iterators_are_refined p world table run calls call _ types i over s us v = never i
