-- The five iterators: what their turns keep, and that they are sound, over calls that are. What they call is a function of the source, since no
-- function of the library takes what a turn asks.
use Rattle.std.proofs.Common.{◌≡◌, ℕ, ◌^◌, ◌<◌, Bool, false, ◌||◌, IsTrue, Option, Some, None, List, [], ◌∷◌, codes, length, refl, sym, ap, ◌∙◌, arith, nat_eq, lt-ltb, ltb-true, subst as at}
use Rattle.std.proofs.lemmas.Bool.{and_from}
use Rattle.std.specs.Str.{bytes_eq}
use Rattle.cg_base.specs.declared.fun.Lib.{Lib}
use Rattle.cg_base.specs.declared.fun.Lib.TheVariants.{New, Free, Create, FreeArray, Length, Get, Put, Map, Fold, Seq32, Seq64, Seq32Break}
use Rattle.cg_base.specs.declared.kind.Sigil.TheVariants.{U}
use Rattle.cg_base.specs.declared.kind.Word.{Word}
use Rattle.cg_base.specs.declared.kind.Word.TheVariants.{U32, U64}
use Rattle.cg_base.specs.Types.{Tau, arrow, fields, word, Parts, end, part}
use Rattle.cg_base.specs.Words.{bits}
use Rattle.cg_eval_def.specs.Evaluation.{Table, Run, call, iterated}
use Rattle.cg_eval_operations.specs.Iterators.{asked, carried, end_index, ended, first_index, indices, indices_from, is_iterator, step_of}
use Rattle.cg_typing.specs.Instances.{as_arguments}
use Rattle.cg_kinds.specs.Kinds.{bang, is_word}
use Rattle.cg_core_def.specs.Lawful.{library_arity}
use Rattle.cg_typing.specs.Functions.{asked_by_library, are_good_arguments}
use Rattle.cg_typing.specs.Library.{array, given, library_type, pair, stopped, turn_of_array, turn_of_loop, whole}
use Rattle.cg_typing.specs.Parts.{given_by, taken_by}
use Rattle.cg_value.specs.Fits.{World, fits}
use Rattle.cg_value.specs.Forms.{field, number_in}
use Rattle.cg_value.specs.Values.{Val, number, nothing, chosen, parts, to_vals}
use Rattle.cg_eval_laws.specs.Laws.{IsSound}
use Rattle.cg_eval_laws.proofs.FitFields.{field_fits, pair_fits}
use Rattle.cg_eval_laws.proofs.FitLibrary.{first_is_word, get_fits, pair_parts, seen_array, set_fits}
use Rattle.cg_eval_laws.proofs.Turns.{Each, each_so, indices_below, Over, TurnsKeep, turns_sound}
use Rattle.cg_base.proofs.Counts.{no_steps as never}

-- ---- the function of a turn

-- an arrow takes what a turn asks: a record whose first field is named so
abbrev pub is_turn : Tau → Bool
is_turn (arrow (fields (part n t taken ps) s) b) = bytes_eq n (codes "elem") || bytes_eq n (codes "acc")
is_turn _ = false

pub no_turn : (lib : Lib) (types : List Tau) → is_turn (library_type lib types) ≡ false
unfolding bang
no_turn New types = refl
no_turn Free types = refl
no_turn Create types = refl
no_turn FreeArray types = refl
no_turn Length types = refl
no_turn Get types = refl
no_turn Put types = refl
no_turn Map types = refl
no_turn Fold types = refl
no_turn Seq32 types = refl
no_turn Seq64 types = refl
no_turn Seq32Break types = refl

-- ---- the arguments of iterators

abbrev over_parts : Tau → Tau → Tau → Tau → Parts
over_parts a f c o =
    whole (codes "arr") a (whole (codes "frm") (word U32) (whole (codes "to") (word U32) (whole (codes "f") f (whole (codes "acc") c (whole (codes "obsv") (bang o) end)))))

abbrev loop_parts : Word → Tau → Tau → Tau → Parts
loop_parts w f c o =
    whole (codes "frm") (word w) (whole (codes "to") (word w) (whole (codes "step") (word w) (whole (codes "f") f (whole (codes "acc") c (whole (codes "obsv") (bang o) end)))))

module _ (world : World) where
  abbrev F : Tau → Val → Type 0
  F t v = IsTrue (fits world t v)

  -- three values in a record
  three_fit : (m n k : List ℕ) (a b c : Tau) (u v w : Val) → F a u → F b v → F c w → F (fields (whole m a (whole n b (whole k c end))) U) (parts (to_vals (u ∷ v ∷ w ∷ [])))
  unfolding fits to_vals
  three_fit m n k a b c u v w f g h = and_from (fits world a u) _ f (and_from (fits world b v) _ g (and_from (fits world c w) _ h refl))

  number_below : (w : Word) (v : Val) → F (word w) v → number_in v < 2 ^ bits w
  unfolding fits number_in
  number_below w (number n) f = ltb-true n _ f
  number_below w _ f = never f

  index_fits : (w : Word) (i : ℕ) → i < 2 ^ bits w → F (word w) (number i)
  unfolding fits
  index_fits w i h = lt-ltb i _ h

  iterate_fits : (t : Tau) → F (stopped t) (chosen (codes "Iterate") nothing)
  unfolding fits
  iterate_fits t = refl

  -- ---- what iterators keep

  -- An iterator over an argument, which gives what is of a type: its function is of an arrow that takes what turns ask, its indices are below a
  -- limit, it begins with an array and what is handed on of their types, and each turn keeps them.
  pub record Iterates (lib : Lib) (x : Val) (whole : Tau) : Type 0 where
    pub limit : ℕ
    pub over : Option Tau
    pub takes : Tau
    pub result : Tau
    pub carry : Tau
    pub asks : IsTrue (is_turn (arrow takes result))
    pub function : F (arrow takes result) (field x 3)
    pub below : Each (λ i. i < limit) (indices lib x)
    pub begins : Over world over (field x 0)
    pub handed : F carry (field x 4)
    pub keeps : TurnsKeep world lib (field x 5) limit over takes result carry whole

  map_iterates : (t c o : Tau) (x : Val) → IsTrue (is_word t) → F (fields (over_parts (array t) (arrow (turn_of_array t c o) (pair t c)) c o) U) x → Iterates Map x (pair (array t) c)
  map_iterates t c o x w f =
      let ps = over_parts (array t) (arrow (turn_of_array t c o) (pair t c)) c o in record {
        limit = end_index Map x;
        over = Some (array t);
        takes = turn_of_array t c o;
        result = pair t c;
        carry = c;
        asks = refl;
        function = field_fits world 3 ps U x f refl;
        below = indices_below (first_index Map x) (end_index Map x) (step_of Map x);
        begins = field_fits world 0 ps U x f refl;
        handed = field_fits world 4 ps U x f refl;
        keeps = record {
          on_ask = λ i a s here over carry.
              three_fit (codes "elem") (codes "acc") (codes "obsv") t c (bang o) _ s (field x 5) (get_fits world t a i w over) carry (field_fits world 5 ps U x f refl);
          on_more = λ i a v over g. set_fits world t a (field v 0) i w over (field_fits world 0 (pair_parts t c) U v g refl);
          on_carry = λ v g. field_fits world 1 (pair_parts t c) U v g refl;
          on_stop = λ v g q. never q;
          on_end = λ a s over carry. pair_fits world (array t) c a s over carry;
        };
      }

  fold_iterates : (t c o : Tau) (x : Val) → IsTrue (is_word t) → F (fields (over_parts (bang (array t)) (arrow (turn_of_array t c o) c) c o) U) x → Iterates Fold x c
  fold_iterates t c o x w f =
      let ps = over_parts (bang (array t)) (arrow (turn_of_array t c o) c) c o in record {
        limit = end_index Fold x;
        over = Some (bang (array t));
        takes = turn_of_array t c o;
        result = c;
        carry = c;
        asks = refl;
        function = field_fits world 3 ps U x f refl;
        below = indices_below (first_index Fold x) (end_index Fold x) (step_of Fold x);
        begins = field_fits world 0 ps U x f refl;
        handed = field_fits world 4 ps U x f refl;
        keeps = record {
          on_ask = λ i a s here over carry.
              three_fit (codes "elem") (codes "acc") (codes "obsv") t c (bang o) _ s (field x 5) (get_fits world t a i w (seen_array world (array t) a over)) carry
              (field_fits world 5 ps U x f refl);
          on_more = λ i a v over g. over;
          on_carry = λ v g. g;
          on_stop = λ v g q. never q;
          on_end = λ a s over carry. carry;
        };
      }

  -- the indices of a loop are words
  loop_indices : (w : Word) (i to step : ℕ) → to < 2 ^ bits w → Each (λ i. i < 2 ^ bits w) (indices_from i to step)
  loop_indices w i to step h = each_so (λ i. i < to) (λ i. i < 2 ^ bits w) (λ i k. omega arith) (indices_from i to step) (indices_below i to step)

  -- a loop, which gives what its function gives
  loop_iterates : (lib : Lib) (w : Word) (c o r : Tau) (x : Val) → F (fields (loop_parts w (arrow (turn_of_loop w c o) r) c o) U) x
      → ((seen : Val) (i : ℕ) (a s : Val) → asked lib seen i a s ≡ parts (to_vals (s ∷ seen ∷ number i ∷ [])))
      → indices lib x ≡ indices_from (number_in (field x 0)) (number_in (field x 1)) (number_in (field x 2))
      → ((v : Val) → F r v → F c (carried lib v)) → ((a s : Val) → F c s → F r (ended lib a s)) → Iterates lib x r
  loop_iterates lib w c o r x f asks is carries ends =
      let ps = loop_parts w (arrow (turn_of_loop w c o) r) c o in record {
        limit = 2 ^ bits w;
        over = None;
        takes = turn_of_loop w c o;
        result = r;
        carry = c;
        asks = refl;
        function = field_fits world 3 ps U x f refl;
        below = at (Each (λ i. i < 2 ^ bits w)) (sym is)
            (loop_indices w (number_in (field x 0)) (number_in (field x 1)) (number_in (field x 2)) (number_below w (field x 1) (field_fits world 1 ps U x f refl)));
        begins = tt {0};
        handed = field_fits world 4 ps U x f refl;
        keeps = record {
          on_ask = λ i a s here over carry. ap (fits world (turn_of_loop w c o)) (asks (field x 5) i a s)
              ∙ three_fit (codes "acc") (codes "obsv") (codes "idx") c (bang o) (word w) s (field x 5) (number i) carry (field_fits world 5 ps U x f refl) (index_fits w i here);
          on_more = λ i a v over g. tt {0};
          on_carry = carries;
          on_stop = λ v g q. g;
          on_end = λ a s over carry. ends a s carry;
        };
      }

  -- one that may be left
  break_iterates : (c d o : Tau) (x : Val) → F (fields (loop_parts U32 (arrow (turn_of_loop U32 c o) (pair c (stopped d))) c o) U) x → Iterates Seq32Break x (pair c (stopped d))
  break_iterates c d o x f =
      loop_iterates Seq32Break U32 c o (pair c (stopped d)) x f (λ seen i a s. refl) refl (λ v g. field_fits world 0 (pair_parts c (stopped d)) U v g refl)
      (λ a s carry. pair_fits world c (stopped d) s (chosen (codes "Iterate") nothing) carry (iterate_fits d))

  -- each iterator at its type
  pub iterators_iterate : (lib : Lib) (types : List Tau) (x : Val) → IsTrue (is_iterator lib) → IsTrue (nat_eq (library_arity lib) (length types))
      → IsTrue (are_good_arguments [] (asked_by_library lib) (as_arguments types)) → F (taken_by (library_type lib types)) x → Iterates lib x (given_by (library_type lib types))
  iterators_iterate Map types x i n h f = map_iterates (given types 0) (given types 1) (given types 2) x (first_is_word 2 types [] n h) f
  iterators_iterate Fold types x i n h f = fold_iterates (given types 0) (given types 1) (given types 2) x (first_is_word 2 types [] n h) f
  iterators_iterate Seq32 types x i n h f =
      loop_iterates Seq32 U32 (given types 0) (given types 1) (given types 0) x f (λ seen i a s. refl) refl (λ v g. g) (λ a s carry. carry)
  iterators_iterate Seq64 types x i n h f =
      loop_iterates Seq64 U64 (given types 0) (given types 1) (given types 0) x f (λ seen i a s. refl) refl (λ v g. g) (λ a s carry. carry)
  iterators_iterate Seq32Break types x i n h f = break_iterates (given types 0) (given types 1) (given types 2) x f
  iterators_iterate New types x i n h f = never i
  iterators_iterate Free types x i n h f = never i
  iterators_iterate Create types x i n h f = never i
  iterators_iterate FreeArray types x i n h f = never i
  iterators_iterate Length types x i n h f = never i
  iterators_iterate Get types x i n h f = never i
  iterators_iterate Put types x i n h f = never i

  -- ---- so they are sound

  module _ (table : Table) (run : Run) (calls : (a b : Tau) (f v : Val) (left : ℕ) → IsTrue (is_turn (arrow a b)) → F (arrow a b) f → F a v → IsSound world b (call table run f v left)) where
    pub iterators_sound : (lib : Lib) (types : List Tau) (x : Val) (left : ℕ) → IsTrue (is_iterator lib) → IsTrue (nat_eq (library_arity lib) (length types))
        → IsTrue (are_good_arguments [] (asked_by_library lib) (as_arguments types)) → F (taken_by (library_type lib types)) x
        → IsSound world (given_by (library_type lib types)) (iterated table run lib x left)
    iterators_sound lib types x left i n h f =
        let k = iterators_iterate lib types x i n h f in
        turns_sound world (λ i a s rest. call table run (field x 3) (asked lib (field x 5) i a s) rest) lib (field x 5) k.limit k.over k.takes k.result k.carry (given_by (library_type lib types)) k.keeps
        (λ i a s rest fit. calls k.takes k.result (field x 3) (asked lib (field x 5) i a s) rest k.asks k.function fit) (indices lib x) k.below (field x 0) (field x 4) left k.begins k.handed
