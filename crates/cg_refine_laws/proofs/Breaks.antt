-- Loops that a turn may end.
use Rattle.std.proofs.Common.{◌≡◌, ℕ, zero, suc, ◌+◌, ◌^◌, ◌<◌, true, false, codes, List, [], ◌∷◌, ◌++◌, refl, ◌∙◌, arith}
use Rattle.cg_base.specs.declared.fun.Lib.TheVariants.{Seq32Break}
use Rattle.cg_base.specs.declared.kind.Sigil.{Sigil}
use Rattle.cg_base.specs.declared.kind.Sigil.TheVariants.{R, W}
use Rattle.cg_base.specs.declared.kind.Word.TheVariants.{U32}
use Rattle.cg_base.specs.Types.{Tau, unit, word, variant, Parts, end, part}
use Rattle.cg_base.specs.Words.{bits}
use Rattle.cg_eval_def.specs.Evaluation as values
use Rattle.cg_eval_operations.specs.Iterators as on_values
use Rattle.cg_heap.specs.Calls.{heap_of}
use Rattle.cg_heap.specs.declared.cell.Scalar.{Scalar}
use Rattle.cg_heap.specs.declared.cell.Scalar.TheVariants.{Word}
use Rattle.cg_heap.specs.Reps.{Heap, HeapWorld, Holds, first_number, foot, foot_at, tail}
use Rattle.cg_heap_laws.proofs.Bang.{bang_foot}
use Rattle.cg_kinds.specs.Kinds.{bang}
use Rattle.cg_refine.proofs.Sequence.{given_now, reached_none}
use Rattle.cg_refine.proofs.Then.{F}
use Rattle.cg_refine.proofs.Variants.{made_foot, others_foot, word_foot}
use Rattle.cg_refine_def.specs.Refined.{IsRefined}
use Rattle.cg_refine_laws.proofs.Fields.{pair_foot, pair_held, record_foot}
use Rattle.cg_refine_laws.proofs.Loops.{asked_foot, asked_held, loop_argument}
use Rattle.cg_refine_laws.proofs.Turns.{AreKept, AreLeft, AreTurns, Behind, Between, IsOnward}
use Rattle.cg_typing.specs.Library.{pair, stopped, turn_of_loop, whole}
use Rattle.cg_update.specs.Machines.{type_of_part}
use Rattle.cg_update.specs.Outcomes.{State, gives}
use Rattle.cg_update.specs.Turns as on_scalars
use Rattle.cg_update.specs.Turns.{Argument, field_in, field_of}
use Rattle.cg_update.specs.Among.{are_apart}
use Rattle.cg_update_laws.proofs.Forms.{con_held, name_held, nothing_held, place_of_held}
use Rattle.cg_update_laws.proofs.Named.{is_untaken}
use Rattle.cg_value.specs.Forms as forms
use Rattle.cg_value.specs.Forms.{field, has_name}
use Rattle.cg_value.specs.Values.{Val, chosen, nothing}

-- what a turn gives
abbrev pair_parts : Tau → Tau → Parts
pair_parts c b = whole (codes "p1") c (whole (codes "p2") (stopped b) end)

-- how a loop ends of which no turn was the last
abbrev iterate_row : Tau → List Scalar
iterate_row b = on_scalars.chosen_in (codes "Iterate") (stopped b) (Word 0 ∷ [])

abbrev iterate_value : Val
iterate_value = chosen (codes "Iterate") nothing

-- a sum of which the second part is nothing
second_is_none : (a b c d : ℕ) → a ≡ b + (c + 0) → d ≡ c → d ≡ 0 → a ≡ b
second_is_none a b c d e f g = omega arith

module _ (world : HeapWorld) (h : Heap) (c b : Tau) where
  -- Iterate holds
  iterate_held : Holds world h (stopped b) (iterate_row b) iterate_value
  iterate_held = con_held world h (codes "Iterate") (stopped b) (Word 0 ∷ []) nothing refl (nothing_held world h)

  -- and reaches nothing
  iterate_foot : (m : Sigil) (q : ℕ) → foot h m (stopped b) (iterate_row b) q ≡ 0
  unfolding foot
  iterate_foot m q = made_foot world h (codes "Iterate") (stopped b) (Word 0 ∷ []) nothing refl (nothing_held world h) m q

  -- without Break there is nothing to reach
  unbroken_at : (m : Sigil) (q n : ℕ) (ws : List Scalar) → foot_at h m (part (codes "Break") b true (part (codes "Iterate") unit false end)) n ws q ≡ 0
  unfolding foot
  unbroken_at m q zero ws = refl
  unbroken_at m q (suc zero) ws = refl
  unbroken_at m q (suc (suc n)) ws = refl

  -- so it is with a variant of which Break is taken
  unbroken_foot : (m : Sigil) (q : ℕ) (ws : List Scalar) → foot h m (variant (part (codes "Break") b true (part (codes "Iterate") unit false end))) ws q ≡ 0
  unfolding foot
  unbroken_foot m q ws = unbroken_at m q (first_number ws) (tail ws)

  -- a turn that isn't the last reaches what it hands on
  onward_foot : (ws : List Scalar) (v : Val) → Holds world h (pair c (stopped b)) ws v → has_name (codes "Break") (field v 1) ≡ false
      → (m : Sigil) (q : ℕ) → foot h m (pair c (stopped b)) ws q ≡ foot h m c (field_of (pair c (stopped b)) ws 0) q
  unfolding type_of_part is_untaken
  onward_foot ws v k e m q =
      second_is_none _ _ _ _ (record_foot world h (pair_parts c b) ws v k refl m q)
      (others_foot world h (codes "Break") (stopped b) (field_of (pair c (stopped b)) ws 1) (field v 1) (place_of_held world h 1 (pair_parts c b) ws v k refl) refl e m q)
      (unbroken_foot m q (field_of (pair c (stopped b)) ws 1))

-- ---- the turns
module _ (world : HeapWorld) (types : List Tau) (c b o : Tau) (us : List Scalar) (value : Val) where
  abbrev given : Tau
  given = pair c (stopped b)

  abbrev x : Argument
  x = loop_argument U32 c o given us

  abbrev Left : State → Val → Val → List Scalar → Type 0
  Left s a v ws = AreLeft world Seq32Break types x (word U32) c (bang o) (turn_of_loop U32 c o) given given value s a v ws

  abbrev Kept : State → Val → Val → List Scalar → Type 0
  Kept s a y ws = AreKept world Seq32Break types x (word U32) c (bang o) (turn_of_loop U32 c o) given given value s a y ws

  abbrev behind : State → Sigil → List Scalar → ℕ → ℕ
  behind s m ws q = Behind world Seq32Break types x (word U32) c (bang o) (turn_of_loop U32 c o) given given value s m ws q

  abbrev between : State → Sigil → List Scalar → ℕ → ℕ
  between s m ws q = Between world Seq32Break types x (word U32) c (bang o) (turn_of_loop U32 c o) given given value s m ws q

  -- the bounds aren't written, nor is what is observed
  no_word : (s : State) (q : ℕ) → F s W (word U32) (field_in x 0) q ≡ 0
  no_word s q = word_foot (heap_of s.store) U32 (field_in x 0) W q

  unwritten : (s : State) (q : ℕ) → F s W (bang o) (field_in x 5) q ≡ 0
  unwritten s q = (bang_foot (heap_of s.store) q o (field_in x 5)).0

  -- a turn is the last on both sides
  same_stop : (s : State) (ws : List Scalar) (v : Val) → Holds world (heap_of s.store) given ws v → on_values.stops Seq32Break v ≡ on_scalars.stops Seq32Break x ws
  unfolding type_of_part is_untaken are_apart
  same_stop s ws v k =
      name_held world (heap_of s.store) (codes "Break") (stopped b) (field_of given ws 1) (field v 1) refl (place_of_held world (heap_of s.store) 1 (pair_parts c b) ws v k refl) refl

  -- the last gives what it gave
  last_given : (s : State) (a v : Val) (ws : List Scalar) (left : ℕ) → Left s a v ws → IsRefined world s (behind s W ws) (behind s R ws) given (values.gives v left) (gives ws s left)
  last_given s a v ws left k =
      given_now world s (behind s W ws) (behind s R ws) given v left ws k.fine k.given (λ q. omega (arith, no_word s q, unwritten s q)) (λ q i. omega arith)

  -- another hands on its first part
  more_given : (s : State) (a v : Val) (ws : List Scalar) → on_scalars.stops Seq32Break x ws ≡ false → Left s a v ws
      → IsOnward world Seq32Break types x (word U32) c (bang o) (turn_of_loop U32 c o) given given value s s ws (field_of given ws 0) a (field v 0)
  unfolding type_of_part is_untaken
  more_given s a v ws e k =
      let same : (m : Sigil) (q : ℕ) → F s m given ws q ≡ F s m c (field_of given ws 0) q = onward_foot world (heap_of s.store) c b ws v k.given (same_stop s ws v k.given ∙ e) in
      record {
        array = k.array;
        carried = place_of_held world (heap_of s.store) 0 (pair_parts c b) ws v k.given refl;
        seen = k.seen;
        reached =
            reached_none s (behind s W ws) (behind s R ws) (between s W (field_of given ws 0)) (between s R (field_of given ws 0)) k.fine
            (λ q. omega (arith, same W q)) (λ q i. omega (arith, same R q));
      }

  -- and where none was the last, that is given with what is handed on
  none_last : (s : State) (a y : Val) (ws : List Scalar) (left : ℕ) → Kept s a y ws
      → IsRefined world s (between s W ws) (between s R ws) given (values.gives (forms.pair y iterate_value) left) (gives (ws ++ iterate_row b) s left)
  none_last s a y ws left k =
      let h = heap_of s.store in
      let both : (m : Sigil) (q : ℕ) → F s m given (ws ++ iterate_row b) q ≡ F s m c ws q + F s m (stopped b) (iterate_row b) q =
      pair_foot world h c (stopped b) ws (iterate_row b) y iterate_value k.carried (iterate_held world h c b) in
      given_now world s (between s W ws) (between s R ws) given (forms.pair y iterate_value) left (ws ++ iterate_row b) k.fine
      (pair_held world h c (stopped b) ws (iterate_row b) y iterate_value k.carried (iterate_held world h c b))
      (λ q. omega (arith, both W q, iterate_foot world h c b W q, no_word s q, unwritten s q)) (λ q i. omega (arith, both R q, iterate_foot world h c b R q))

  -- the turns of a loop that a turn may end
  pub third_turns : AreTurns world Seq32Break types x (word U32) c (bang o) (turn_of_loop U32 c o) given given value (λ i. i < 2 ^ bits U32)
  unfolding type_of_part
  third_turns = record {
    quiet = unwritten;
    asks = λ s i a y ws d k l n. asked_held world (heap_of s.store) U32 c o ws (field_in x 5) y (field value 5) i l n d;
    reaches = λ s i a y ws k l n m q. asked_foot world (heap_of s.store) U32 c o ws (field_in x 5) y (field value 5) i l n m q;
    array = λ s a k. refl;
    stops = same_stop;
    stopped = λ s a v ws left e k. last_given s a v ws left k;
    goes_on = λ s i a v ws e k. more_given s a v ws e k;
    ended = none_last;
  }
