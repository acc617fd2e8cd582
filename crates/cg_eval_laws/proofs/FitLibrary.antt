-- What a function of the library that takes no function gives fits its type.
use Rattle.std.proofs.Common.{◌≡◌, ℕ, zero, suc, Bool, true, false, IsTrue, List, [], ◌∷◌, codes, length, get_or, refl, sym, ◌∙◌, arith, nat_eq, lt-ltb, eqb-true}
use Rattle.std.proofs.lemmas.Bool.{and_parts}
use Rattle.std.specs.Prelude.{replicate}
use Rattle.cg_base.specs.declared.fun.Lib.{Lib}
use Rattle.cg_base.specs.declared.fun.Lib.TheVariants.{New, Free, Create, FreeArray, Length, Get, Put, Map, Fold, Seq32, Seq64, Seq32Break}
use Rattle.cg_base.specs.declared.kind.Sigil.TheVariants.{W, U}
use Rattle.cg_base.specs.declared.kind.Word.TheVariants.{U32}
use Rattle.cg_base.specs.Types.{Tau, word, fields, Parts, end, part, piece_list}
use Rattle.cg_eval_operations.specs.Iterators.{is_iterator}
use Rattle.cg_typing.specs.Instances.{as_arguments}
use Rattle.cg_kinds.specs.Kinds.{bang, is_word}
use Rattle.cg_core_def.specs.Lawful.{library_arity}
use Rattle.cg_lib_value.specs.Library.{answered, later_answers, library_value, makes_array, maybe as made_or_not, new_record, next_answer}
use Rattle.cg_typing.specs.Functions.{asked_by_library, are_good_arguments, Asked, a_cell, an_element}
use Rattle.cg_typing.specs.Library.{array, given, library_type, maybe, pair, state, whole}
use Rattle.cg_typing.specs.Parts.{all_parts_taken, all_taken, given_by, has_word_arrays, is_cell, taken_by}
use Rattle.cg_value.specs.Fits.{World, fits, fits_fields}
use Rattle.cg_value.specs.Forms.{answers_in, elements_in, field, number_in, with_element}
use Rattle.cg_value.specs.Values.{Val, number, answers, elements, gone, to_vals}
use Rattle.cg_eval_laws.proofs.FitArrays.{changed_fits, element_fits, few_elements, zeros_fit}
use Rattle.cg_eval_laws.proofs.FitFields.{field_fits, pair_fits}
use Rattle.cg_eval_laws.proofs.FitObserved.{fits_observed}
use Rattle.cg_base.proofs.Counts.{no_steps as never}

-- ---- the parts of tuples

abbrev pub pair_parts : Tau → Tau → Parts
pair_parts a b = whole (codes "p1") a (whole (codes "p2") b end)

abbrev triple_parts : Tau → Tau → Tau → Parts
triple_parts a b c = whole (codes "p1") a (whole (codes "p2") b (whole (codes "p3") c end))

-- ---- the first type argument is what is asked

pub first_is_cell : (types : List Tau) (asked : List Asked) → IsTrue (nat_eq 1 (length types)) → IsTrue (are_good_arguments [] (a_cell ∷ asked) (as_arguments types)) → IsTrue (is_cell (given types 0))
first_is_cell [] asked n h = never n
first_is_cell (t ∷ ts) asked n h = (and_parts (is_cell t) _ (and_parts (has_word_arrays t) _ h).1).0

pub first_is_word : (k : ℕ) (types : List Tau) (asked : List Asked) → IsTrue (nat_eq (suc k) (length types)) → IsTrue (are_good_arguments [] (an_element ∷ asked) (as_arguments types)) → IsTrue (is_word (given types 0))
first_is_word k [] asked n h = let q = eqb-true (suc k) zero n in absurd (omega arith)
first_is_word k (t ∷ ts) asked n h = (and_parts (is_word t) _ (and_parts (has_word_arrays t) _ h).1).0

module _ (world : World) where
  abbrev F : Tau → Val → Type 0
  F t v = IsTrue (fits world t v)

  -- ---- `new`, `create`

  maybe_fits : (t : Tau) (granted : Bool) (v : Val) → (granted ≡ true → F t v) → F (maybe t) (made_or_not granted v)
  unfolding fits
  maybe_fits t true v h = h refl
  maybe_fits t false v h = refl

  all_gone : (ps : Parts) → IsTrue (fits_fields world (all_parts_taken ps) (to_vals (replicate (length (piece_list ps)) gone)))
  unfolding fits to_vals piece_list
  all_gone end = refl
  all_gone (part x t taken ps) = all_gone ps

  record_fits : (t : Tau) → IsTrue (is_cell t) → F (all_taken t) (new_record t)
  unfolding fits new_record
  record_fits (fields ps W) h = all_gone ps
  record_fits _ h = never h

  is_state : (bs : List Bool) → F state (answers bs)
  unfolding fits
  is_state bs = refl

  answered_fits : (t : Tau) (bs : List Bool) (granted : Bool) (v : Val) → (granted ≡ true → F t v) → F (pair state (maybe t)) (answered bs granted v)
  answered_fits t bs granted v h = pair_fits world state (maybe t) (answers (later_answers bs)) (made_or_not granted v) (is_state (later_answers bs)) (maybe_fits t granted v h)

  made_fits : (t : Tau) (bs : List Bool) (n : ℕ) → IsTrue (is_word t) → F (pair state (maybe (array t))) (answered bs (makes_array bs n) (elements (replicate n 0)))
  made_fits (word w) bs n h = answered_fits (array (word w)) bs (makes_array bs n) (elements (replicate n 0)) (λ e. zeros_fit world w n (and_parts (next_answer bs) _ e).1)
  made_fits _ bs n h = never h

  -- ---- `length`, `get`, `put`

  pub seen_array : (t : Tau) (a : Val) → F (bang t) a → F t a
  seen_array t a f = sym (fits_observed world t a) ∙ f

  length_fits : (t : Tau) (a : Val) → IsTrue (is_word t) → F (array t) a → F (word U32) (number (length (elements_in a)))
  unfolding fits
  length_fits (word w) a h f = let few = few_elements world w a f in lt-ltb _ _ (omega arith)
  length_fits _ a h f = never h

  pub get_fits : (t : Tau) (a : Val) (i : ℕ) → IsTrue (is_word t) → F (array t) a → F t (number (get_or (elements_in a) i 0))
  get_fits (word w) a i h f = element_fits world w a i f
  get_fits _ a i h f = never h

  pub set_fits : (t : Tau) (a v : Val) (i : ℕ) → IsTrue (is_word t) → F (array t) a → F t v → F (array t) (with_element a i (number_in v))
  set_fits (word w) a v i h f g = changed_fits world w a v i f g
  set_fits _ a v i h f g = never h

  -- ---- each function

  abbrev Takes : Lib → List Tau → Val → Type 0
  Takes lib types x = F (taken_by (library_type lib types)) x

  abbrev Gives : Lib → List Tau → Val → Type 0
  Gives lib types x = F (given_by (library_type lib types)) (library_value lib types x)

  pub library_fits : (lib : Lib) (types : List Tau) (x : Val) → is_iterator lib ≡ false → IsTrue (nat_eq (library_arity lib) (length types))
      → IsTrue (are_good_arguments [] (asked_by_library lib) (as_arguments types)) → Takes lib types x → Gives lib types x
  library_fits New types x i n h f =
      answered_fits (all_taken (given types 0)) (answers_in x) (next_answer (answers_in x)) (new_record (given types 0)) (λ e. record_fits (given types 0) (first_is_cell types [] n h))
  library_fits Free types x i n h f = field_fits world 0 (pair_parts state (all_taken (given types 0))) U x f refl
  library_fits Create types x i n h f = made_fits (given types 0) (answers_in (field x 0)) (number_in (field x 1)) (first_is_word 0 types [] n h)
  library_fits FreeArray types x i n h f = field_fits world 0 (pair_parts state (array (given types 0))) U x f refl
  library_fits Length types x i n h f = length_fits (given types 0) x (first_is_word 0 types [] n h) (seen_array (array (given types 0)) x f)
  library_fits Get types x i n h f =
      get_fits (given types 0) (field x 0) (number_in (field x 1)) (first_is_word 0 types [] n h)
      (seen_array (array (given types 0)) (field x 0) (field_fits world 0 (pair_parts (bang (array (given types 0))) (word U32)) U x f refl))
  library_fits Put types x i n h f =
      let t = given types 0 in
      set_fits t (field x 0) (field x 2) (number_in (field x 1)) (first_is_word 0 types [] n h)
      (field_fits world 0 (triple_parts (array t) (word U32) t) U x f refl) (field_fits world 2 (triple_parts (array t) (word U32) t) U x f refl)
  library_fits Map types x i n h f = never (sym i)
  library_fits Fold types x i n h f = never (sym i)
  library_fits Seq32 types x i n h f = never (sym i)
  library_fits Seq64 types x i n h f = never (sym i)
  library_fits Seq32Break types x i n h f = never (sym i)
