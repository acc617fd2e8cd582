-- Loops over numbers: what they are asked, and their turns.
use Rattle.std.proofs.Common.{◌≡◌, ℕ, ◌+◌, ◌^◌, ◌<◌, codes, List, [], ◌∷◌, ◌++◌, refl, sym, ap, ◌∙◌, append_assoc, arith, subst as at}
use Rattle.cg_base.proofs.Counts.{no_steps as never}
use Rattle.cg_base.specs.declared.fun.Lib.{Lib}
use Rattle.cg_base.specs.declared.fun.Lib.TheVariants.{Seq32, Seq64}
use Rattle.cg_base.specs.declared.kind.Sigil.{Sigil}
use Rattle.cg_base.specs.declared.kind.Sigil.TheVariants.{R, W, U}
use Rattle.cg_base.specs.declared.kind.Word.{Word as Width}
use Rattle.cg_base.specs.declared.kind.Word.TheVariants.{U32, U64}
use Rattle.cg_base.specs.Types.{Tau, word, arrow, fields, Parts, end}
use Rattle.cg_base.specs.Words.{bits}
use Rattle.cg_eval_def.specs.Evaluation as values
use Rattle.cg_eval_def.specs.Evaluation.{Run, Table}
use Rattle.cg_eval_laws.proofs.Turns.{Each, each_so, indices_below}
use Rattle.cg_eval_operations.specs.Iterators as on_values
use Rattle.cg_eval_operations.specs.Iterators.{indices_from}
use Rattle.cg_heap.specs.Calls.{heap_of}
use Rattle.cg_heap.specs.declared.cell.Scalar.{Scalar}
use Rattle.cg_heap.specs.declared.cell.Scalar.TheVariants.{Word}
use Rattle.cg_heap.specs.Reps.{Heap, HeapWorld, Holds, HoldsAll, first_number, foot, foot_all}
use Rattle.cg_heap.specs.Steps.{IsFine}
use Rattle.cg_heap_laws.proofs.Bang.{bang_foot}
use Rattle.cg_kinds.specs.Kinds.{bang}
use Rattle.cg_refine.proofs.Records.{front_foot, unboxed_foot}
use Rattle.cg_refine.proofs.Sequence.{fine_as}
use Rattle.cg_refine.proofs.Then.{F}
use Rattle.cg_refine.proofs.Variants.{word_foot}
use Rattle.cg_refine_def.specs.Refined.{IsRefined, side_of}
use Rattle.cg_refine_laws.proofs.Fields.{record_foot, sum_of_two}
use Rattle.cg_refine_laws.proofs.Turns.{AreKept, AreTurns, Between, iterated_refined}
use Rattle.cg_refine_laws.proofs.Unchanged.{given_last, handed_on}
use Rattle.cg_refine_laws.specs.Laws.{TurnsRefine}
use Rattle.cg_typing.specs.Library.{turn_of_loop, whole}
use Rattle.cg_update.specs.Calls.{Program}
use Rattle.cg_update.specs.Machines.{type_of_part}
use Rattle.cg_update.specs.Outcomes.{State}
use Rattle.cg_update.specs.Turns as on_scalars
use Rattle.cg_update.specs.Turns.{Argument, field_in}
use Rattle.cg_update.specs.Updates as updates
use Rattle.cg_update.specs.Updates.{Calls}
use Rattle.cg_update_laws.proofs.Forms.{place_of_held}
use Rattle.cg_update_laws.proofs.Named.{front_held, is_untaken}
use Rattle.cg_value.specs.Forms.{field, number_in}
use Rattle.cg_value.specs.Values as vals
use Rattle.cg_value.specs.Values.{Val, number, parts, to_vals}

-- the argument of a loop
abbrev pub loop_parts : Width → Tau → Tau → Tau → Parts
loop_parts w f c o =
    whole (codes "frm") (word w) (whole (codes "to") (word w) (whole (codes "step") (word w) (whole (codes "f") f (whole (codes "acc") c (whole (codes "obsv") (bang o) end)))))

abbrev pub loop_argument : Width → Tau → Tau → Tau → List Scalar → Argument
loop_argument w c o result us = record { ty = fields (loop_parts w (arrow (turn_of_loop w c o) result) c o) U; scalars = us }

-- what a turn takes
abbrev index_part : Width → Parts
index_part w = whole (codes "idx") (word w) end

abbrev seen_part : Width → Tau → Parts
seen_part w o = whole (codes "obsv") (bang o) (index_part w)

abbrev turn_parts : Width → Tau → Tau → Parts
turn_parts w c o = whole (codes "acc") c (seen_part w o)

module _ (world : HeapWorld) (h : Heap) where
  -- a number of a word
  pub number_held : (w : Width) (us : List Scalar) (v : Val) → Holds world h (word w) us v → (number_in v ≡ first_number us) × (first_number us < 2 ^ bits w)
  unfolding Holds number_in
  number_held w us v k = (ap number_in k.2, k.1)

  -- and a number that is one
  pub word_held : (w : Width) (n : ℕ) → n < 2 ^ bits w → Holds world h (word w) (Word n ∷ []) (number n)
  unfolding Holds
  word_held w n l = (refl, l, refl)

  module _ (w : Width) (c o : Tau) (us ws : List Scalar) (v seen : Val) (i : ℕ) (k : Holds world h c us v) (l : Holds world h (bang o) ws seen) where
    -- what a turn is asked
    pub asked_held : i < 2 ^ bits w → Holds world h (turn_of_loop w c o) (us ++ ws ++ Word i ∷ []) (parts (to_vals (v ∷ seen ∷ number i ∷ [])))
    unfolding Holds to_vals
    asked_held m = (
      _,
      tt {0},
      at (λ z. HoldsAll world h (turn_parts w c o) z (to_vals (v ∷ seen ∷ number i ∷ []))) (sym (append_assoc us ws (Word i ∷ [])))
          (front_held world h (codes "acc") c (seen_part w o) us (ws ++ Word i ∷ []) v (to_vals (seen ∷ number i ∷ [])) k
          (front_held world h (codes "obsv") (bang o) (index_part w) ws (Word i ∷ []) seen (to_vals (number i ∷ [])) l
          (front_held world h (codes "idx") (word w) end (Word i ∷ []) [] (number i) vals.none (word_held w i m) refl))),
      refl,
    )

    -- an index reaches nothing
    index_foot : (m : Sigil) (q : ℕ) → foot_all h m (index_part w) (Word i ∷ []) q ≡ 0
    unfolding foot
    index_foot m q = omega arith

    -- it reaches what is handed on, and what is observed
    pub asked_foot : (m : Sigil) (q : ℕ) → foot h m (turn_of_loop w c o) (us ++ ws ++ Word i ∷ []) q ≡ foot h m c us q + foot h m (bang o) ws q
    asked_foot m q =
        sum_of_two _ _ _ _ _ (unboxed_foot world h (turn_parts w c o) (us ++ ws ++ Word i ∷ []) m q)
        (ap (λ z. foot_all h m (turn_parts w c o) z q) (append_assoc us ws (Word i ∷ [])) ∙ front_foot world h (codes "acc") c (seen_part w o) us (ws ++ Word i ∷ []) v k m q)
        (front_foot world h (codes "obsv") (bang o) (index_part w) ws (Word i ∷ []) seen l m q ∙ ap (λ z. foot h m (bang o) ws q + z) (index_foot m q))

-- ---- the argument

-- words and functions reach nothing
only_two : (z a b c f x y : ℕ) → z ≡ a + (b + (c + (f + (x + (y + 0))))) → a ≡ 0 → b ≡ 0 → c ≡ 0 → f ≡ 0 → x + (0 + y) ≡ z
only_two z a b c f x y e i j k l = omega arith

module _ (world : HeapWorld) (lib : Lib) (types : List Tau) (w : Width) (c o result : Tau) (us : List Scalar) (value : Val) (s : State) where
  abbrev x : Argument
  x = loop_argument w c o result us

  abbrev arg_type : Tau
  arg_type = fields (loop_parts w (arrow (turn_of_loop w c o) result) c o) U

  -- the argument reaches what its fields do
  argument_foot : Holds world (heap_of s.store) arg_type us value → (m : Sigil) (q : ℕ)
      → Between world lib types x (word w) c (bang o) (turn_of_loop w c o) result result value s m (field_in x 4) q ≡ F s m arg_type us q
  unfolding type_of_part foot
  argument_foot k m q =
      only_two _ _ _ _ _ _ _ (record_foot world (heap_of s.store) (loop_parts w (arrow (turn_of_loop w c o) result) c o) us value k refl m q)
      refl refl refl refl

  -- a loop begins with its argument
  loop_begins : Holds world (heap_of s.store) arg_type us value → IsFine (side_of s (F s W arg_type us) (F s R arg_type us))
      → AreKept world lib types x (word w) c (bang o) (turn_of_loop w c o) result result value s (field value 0) (field value 4) (field_in x 4)
  unfolding type_of_part is_untaken
  loop_begins k f = record {
    array = place_of_held world (heap_of s.store) 0 (loop_parts w (arrow (turn_of_loop w c o) result) c o) us value k refl;
    carried = place_of_held world (heap_of s.store) 4 (loop_parts w (arrow (turn_of_loop w c o) result) c o) us value k refl;
    seen = place_of_held world (heap_of s.store) 5 (loop_parts w (arrow (turn_of_loop w c o) result) c o) us value k refl;
    fine =
        fine_as s (F s W arg_type us) (F s R arg_type us) (Between world lib types x (word w) c (bang o) (turn_of_loop w c o) result result value s W (field_in x 4))
        (Between world lib types x (word w) c (bang o) (turn_of_loop w c o) result result value s R (field_in x 4)) f (argument_foot k W) (λ q. omega (arith, argument_foot k R q));
  }

  -- a loop whose indices are those of its bounds is refined where its turns are as said
  pub loop_refined : (p : Program) (table : Table) (run : Run) (calls : Calls) → TurnsRefine p world table run calls
      → AreTurns world lib types x (word w) c (bang o) (turn_of_loop w c o) result result value (λ i. i < 2 ^ bits w)
      → on_values.indices lib value ≡ indices_from (number_in (field value 0)) (number_in (field value 1)) (number_in (field value 2))
      → on_scalars.indices lib x s.store ≡ indices_from (first_number (field_in x 0)) (first_number (field_in x 1)) (first_number (field_in x 2))
      → Holds world (heap_of s.store) arg_type us value → IsFine (side_of s (F s W arg_type us) (F s R arg_type us)) → (left : ℕ)
      → IsRefined world s (F s W arg_type us) (F s R arg_type us) result (values.iterated table run lib value left) (updates.iterated p calls lib types x s left)
  unfolding type_of_part is_untaken
  loop_refined p table run calls call t ev es k f left =
      iterated_refined world lib types x (word w) c (bang o) (turn_of_loop w c o) result result value p table run calls call (λ i. i < 2 ^ bits w) t refl s
      (place_of_held world (heap_of s.store) 3 (loop_parts w (arrow (turn_of_loop w c o) result) c o) us value k refl)
      (ev ∙ ap (λ n. indices_from n (number_in (field value 1)) (number_in (field value 2))) from_is.0
      ∙ ap (λ n. indices_from (first_number (field_in x 0)) n (number_in (field value 2))) to_is.0
      ∙ ap (λ n. indices_from (first_number (field_in x 0)) (first_number (field_in x 1)) n) step_is.0 ∙ sym es)
      (at (Each (λ i. i < 2 ^ bits w)) (sym es)
      (each_so (λ i. i < first_number (field_in x 1)) (λ i. i < 2 ^ bits w) (λ i e. let top = to_is.1 in omega (arith, e, top)) _
      (indices_below (first_number (field_in x 0)) (first_number (field_in x 1)) (first_number (field_in x 2)))))
      (loop_begins k f) (F s W arg_type us) (F s R arg_type us) (argument_foot k W) (argument_foot k R) left
    where
      from_is : (number_in (field value 0) ≡ first_number (field_in x 0)) × (first_number (field_in x 0) < 2 ^ bits w)
      from_is = number_held world (heap_of s.store) w _ _ (place_of_held world (heap_of s.store) 0 (loop_parts w (arrow (turn_of_loop w c o) result) c o) us value k refl)

      to_is : (number_in (field value 1) ≡ first_number (field_in x 1)) × (first_number (field_in x 1) < 2 ^ bits w)
      to_is = number_held world (heap_of s.store) w _ _ (place_of_held world (heap_of s.store) 1 (loop_parts w (arrow (turn_of_loop w c o) result) c o) us value k refl)

      step_is : (number_in (field value 2) ≡ first_number (field_in x 2)) × (first_number (field_in x 2) < 2 ^ bits w)
      step_is = number_held world (heap_of s.store) w _ _ (place_of_held world (heap_of s.store) 2 (loop_parts w (arrow (turn_of_loop w c o) result) c o) us value k refl)

-- ---- the loops that hand on what they give
module _ (world : HeapWorld) (types : List Tau) (c o : Tau) (us : List Scalar) (value : Val) where
  -- over 32 bits
  pub first_turns : AreTurns world Seq32 types (loop_argument U32 c o c us) (word U32) c (bang o) (turn_of_loop U32 c o) c c value (λ i. i < 2 ^ bits U32)
  first_turns = record {
    quiet = λ s q. (bang_foot (heap_of s.store) q o (field_in (loop_argument U32 c o c us) 5)).0;
    asks = λ s i a y ws b k l n. asked_held world (heap_of s.store) U32 c o ws (field_in (loop_argument U32 c o c us) 5) y (field value 5) i l n b;
    reaches = λ s i a y ws k l n m q. asked_foot world (heap_of s.store) U32 c o ws (field_in (loop_argument U32 c o c us) 5) y (field value 5) i l n m q;
    array = λ s a k. refl;
    stops = λ s ws v k. refl;
    stopped = λ s a v ws left e k. never e;
    goes_on = λ s i a v ws e k. handed_on world Seq32 types (loop_argument U32 c o c us) (word U32) c (bang o) (turn_of_loop U32 c o) value s a v ws k;
    ended = λ s a y ws left k.
        given_last world Seq32 types (loop_argument U32 c o c us) (word U32) c (bang o) (turn_of_loop U32 c o) value s
        (λ q. word_foot (heap_of s.store) U32 (field_in (loop_argument U32 c o c us) 0) W q) (λ q. (bang_foot (heap_of s.store) q o (field_in (loop_argument U32 c o c us) 5)).0) a y ws left k;
  }

  -- over 64 bits
  pub second_turns : AreTurns world Seq64 types (loop_argument U64 c o c us) (word U64) c (bang o) (turn_of_loop U64 c o) c c value (λ i. i < 2 ^ bits U64)
  second_turns = record {
    quiet = λ s q. (bang_foot (heap_of s.store) q o (field_in (loop_argument U64 c o c us) 5)).0;
    asks = λ s i a y ws b k l n. asked_held world (heap_of s.store) U64 c o ws (field_in (loop_argument U64 c o c us) 5) y (field value 5) i l n b;
    reaches = λ s i a y ws k l n m q. asked_foot world (heap_of s.store) U64 c o ws (field_in (loop_argument U64 c o c us) 5) y (field value 5) i l n m q;
    array = λ s a k. refl;
    stops = λ s ws v k. refl;
    stopped = λ s a v ws left e k. never e;
    goes_on = λ s i a v ws e k. handed_on world Seq64 types (loop_argument U64 c o c us) (word U64) c (bang o) (turn_of_loop U64 c o) value s a v ws k;
    ended = λ s a y ws left k.
        given_last world Seq64 types (loop_argument U64 c o c us) (word U64) c (bang o) (turn_of_loop U64 c o) value s
        (λ q. word_foot (heap_of s.store) U64 (field_in (loop_argument U64 c o c us) 0) W q) (λ q. (bang_foot (heap_of s.store) q o (field_in (loop_argument U64 c o c us) 5)).0) a y ws left k;
  }
