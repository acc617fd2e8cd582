-- Kernels all of whose functions have bodies or are known to the table of one abstract function.
use Rattle.std.proofs.Common.{rules, ◌≡◌, ◌<◌, ◌≤◌, ◌+◌, ◌&&◌, ◌||◌, ◌^◌, ℕ, zero, suc, Bool, true, IsTrue, List, [], ◌∷◌, Some, None, get_or, length, map, take, refl, sym, ap, ◌∙◌}
use Rattle.std.specs.List.{list_all}
use Rattle.std.specs.Option.{is_some}
use Rattle.std.specs.Prelude.{slice_get}
use Rattle.std.proofs.lemmas.Bool.{and_parts, lt-ltb}
use Rattle.std.proofs.lemmas.List.{take_all}
use Rattle.std.proofs.lemmas.List.Folds.{list_all_more}
use Rattle.cg_core.specs.declared.kernel.KFun.{KFun}
use Rattle.cg_core.specs.Kernels.{Function, function_of}
use Rattle.cg_eval_def.specs.Foreigns.{IsClosed, is_known}
use Rattle.cg_core_def.specs.Lawful.{body_mentions}
use Rattle.cg_base.specs.Types.{word}
use Rattle.cg_base.specs.declared.kind.Word.TheVariants.{U32}
use Rattle.cg_value.specs.Fits.{World, fits}
use Rattle.cg_value.specs.declared.value.Value.{the_lemmas}
use Rattle.cg_value.specs.declared.value.Value.TheVariants.{Num}
use Rattle.cg_value.specs.Values.{number, value_of}
use Rattle.cg_eval_tests.specs.Halving.{halving}

abbrev pub has_meaning : KFun → Bool
has_meaning f = is_some (function_of f).body || is_known halving (function_of f)

-- one function more
pub more_meanings : (fs : List KFun) (i : ℕ) (f : KFun) → i < length fs → f ≡ get_or fs i f → has_meaning f ≡ true
    → list_all has_meaning (take i fs) ≡ true → list_all has_meaning (take (i + 1) fs) ≡ true
more_meanings fs i f h e p q =
    list_all_more has_meaning fs i f h ∙ ap (λ b. b && has_meaning (get_or fs i f)) q ∙ (ap has_meaning (sym e) ∙ p)

is_known_without : (f : Function) → is_some f.body || is_known halving f ≡ true → f.body ≡ None → is_known halving f ≡ true
is_known_without f h e = sym (ap (λ b. is_some b || is_known halving f) e) ∙ h

are_known : (fs : List KFun) → list_all has_meaning fs ≡ true → (i : ℕ) (f : Function) → slice_get (map function_of fs) i ≡ Some f → f.body ≡ None → is_known halving f ≡ true
are_known [] h i f e none = absurd (cc)
are_known (g ∷ fs) h zero f e none =
    let p = and_parts (has_meaning g) (list_all has_meaning fs) h in
    let same : function_of g ≡ f = cc in
    ap (is_known halving) (sym same) ∙ is_known_without (function_of g) p.0 (ap (λ (f : Function). f.body) same ∙ none)
are_known (g ∷ fs) h (suc i) f e none = are_known fs (and_parts (has_meaning g) (list_all has_meaning fs) h).1 i f e none

all_true : (xs : List ℕ) → list_all (λ i. true) xs ≡ true
all_true [] = refl
all_true (x ∷ xs) = all_true xs

-- all of them
pub closed : (fs : List KFun) (i : ℕ) → length fs ≤ i → list_all has_meaning (take i fs) ≡ true → IsClosed halving (map function_of fs) (λ i. true)
closed fs i h e = record {
  mentions = λ i f there among. all_true (body_mentions f.body);
  known = λ j f there among none. are_known fs (ap (list_all has_meaning) (sym (take_all i fs h)) ∙ e) j f there none;
}

-- a number below 2^32 is a word of 32 bits
word_fits : (world : World) (n : ℕ) → n < 2 ^ 32 → IsTrue (fits world (word U32) (number n))
unfolding fits
word_fits world n h = lt-ltb n (2 ^ 32) h

number_is : (n : ℕ) → value_of (Num n) ≡ number n
number_is n = search (rules, the_lemmas)

pub value_fits : (world : World) (n : ℕ) → n < 2 ^ 32 → IsTrue (fits world (word U32) (value_of (Num n)))
value_fits world n h = ap (fits world (word U32)) (number_is n) ∙ word_fits world n h
