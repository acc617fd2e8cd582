-- Folds, which read an array and write nothing of it.
use Rattle.std.proofs.Common.{◌≡◌, ℕ, List, refl}
use Rattle.cg_base.proofs.Counts.{no_steps as never}
use Rattle.cg_base.specs.declared.fun.Lib.TheVariants.{Fold}
use Rattle.cg_base.specs.declared.kind.Sigil.TheVariants.{R, W}
use Rattle.cg_base.specs.declared.kind.Word.{Word as Width}
use Rattle.cg_base.specs.Types.{Tau, word}
use Rattle.cg_heap.specs.Calls.{heap_of}
use Rattle.cg_heap.specs.declared.cell.Scalar.{Scalar}
use Rattle.cg_heap.specs.Reps.{Heap, HeapWorld, foot}
use Rattle.cg_heap_laws.proofs.Bang.{bang_foot}
use Rattle.cg_kinds.specs.Kinds.{bang}
use Rattle.cg_lib_value.specs.Library.{first_type}
use Rattle.cg_refine_laws.proofs.Arrays.{array_argument, array_of, array_there, asked_foot, asked_held}
use Rattle.cg_refine_laws.proofs.Turns.{AreTurns}
use Rattle.cg_refine_laws.proofs.Unchanged.{given_last, handed_on}
use Rattle.cg_typing.specs.Library.{turn_of_array}
use Rattle.cg_update.specs.Turns.{Argument, field_in}
use Rattle.cg_value.specs.Forms.{field}
use Rattle.cg_value.specs.Values.{Val}

-- an array that is observed isn't written
unwritten_array : (h : Heap) (w : Width) (us : List Scalar) (q : ℕ) → foot h W (array_of w R) us q ≡ 0
unfolding foot
unwritten_array h w us q = refl

module _ (world : HeapWorld) (types : List Tau) (w : Width) (e : first_type types ≡ word w) (c o : Tau) (us : List Scalar) (value : Val) where
  abbrev x : Argument
  x = array_argument w R c o c us

  -- the turns of a fold
  pub fold_turns : (Index : ℕ → Type 0) → AreTurns world Fold types x (array_of w R) c (bang o) (turn_of_array (word w) c o) c c value Index
  fold_turns Index = record {
    quiet = λ s q. (bang_foot (heap_of s.store) q o (field_in x 5)).0;
    asks = λ s i a y ws b k l n. asked_held world s.store w R (field_in x 0) a k c o ws (field_in x 5) y (field value 5) i l n;
    reaches = λ s i a y ws k l n m q. asked_foot world s.store w R (field_in x 0) a k c o ws (field_in x 5) y (field value 5) i l n m q;
    array = λ s a k. array_there world s.store w R (field_in x 0) a k types e;
    stops = λ s ws v k. refl;
    stopped = λ s a v ws left e k. never e;
    goes_on = λ s i a v ws e k. handed_on world Fold types x (array_of w R) c (bang o) (turn_of_array (word w) c o) value s a v ws k;
    ended = λ s a y ws left k.
        given_last world Fold types x (array_of w R) c (bang o) (turn_of_array (word w) c o) value s
        (λ q. unwritten_array (heap_of s.store) w (field_in x 0) q) (λ q. (bang_foot (heap_of s.store) q o (field_in x 5)).0) a y ws left k;
  }
