-- No command asks for more than 2^40 steps, and none for no function or for more than 4,096.
use Rattle.std.proofs.Common.{◌≡◌, ℕ, ◌≤◌, ◌^◌, Bool, true, false, List, [], ◌∷◌, Option, Some, None, cond, refl, sym, subst, arith}
use Rattle.std.specs.Prelude.{◌&&◌, nat_le, option_map, length, codes, bytes_eq}
use Rattle.std.specs.List.{list_all}
use Rattle.std.proofs.lemmas.Bool.Decides.{nat_tests}
use Rattle.cg_base.specs.Bytes.{digit}
use Rattle.cg_base.specs.Numbers.{literal_of}
use Rattle.cg_driver_words.specs.Words.{Command, build, gen, run, Sorted, are_apart, in_range, most_made, most_steps, number_in, steps_in, check_names, build_names, gen_names, recheck_names, run_names, called, command_of, sorted, IsInRange}

in_range_few : (most : ℕ) (o : Option ℕ) (n : ℕ) → in_range most o ≡ Some n → (1 ≤ n) × (n ≤ most)
in_range_few most None n e = absurd (cc)
in_range_few most (Some m) n e = go (nat_le m most) refl (nat_le 1 m) refl e
  where
    go : (b : Bool) → nat_le m most ≡ b → (a : Bool) → nat_le 1 m ≡ a → cond (a && b) (Some m) None ≡ Some n → (1 ≤ n) × (n ≤ most)
    go b h false l k = absurd (cc)
    go false h true l k = absurd (cc)
    go true h true l k = let same : m ≡ n = cc in subst (λ x. (1 ≤ x) × (x ≤ most)) same (grind (arith, nat_tests), grind (arith, nat_tests))

number_few : (most : ℕ) (text : List ℕ) (n : ℕ) → number_in most text ≡ Some n → (1 ≤ n) × (n ≤ most)
number_few most [] n e = absurd (cc)
number_few most (b ∷ text) n e = go (nat_le (length (b ∷ text)) 20 && list_all digit (b ∷ text)) e
  where
    go : (t : Bool) → cond t (in_range most (literal_of (b ∷ text))) None ≡ Some n → (1 ≤ n) × (n ≤ most)
    go true k = in_range_few most (literal_of (b ∷ text)) n k
    go false k = absurd (cc)

run_few : (names values : List (List ℕ)) → IsInRange (run_names names values)
run_few [] values = tt
run_few (f ∷ []) values = tt
run_few (f ∷ e ∷ []) values = tt
run_few (f ∷ e ∷ h ∷ []) [] = omega arith
run_few (f ∷ e ∷ h ∷ []) (s ∷ []) = go (steps_in s) refl
  where
    go : (o : Option ℕ) → steps_in s ≡ o → IsInRange (option_map (run f e h) o)
    go None k = tt
    go (Some n) k = (number_few most_steps s n k).1
run_few (f ∷ e ∷ h ∷ []) (s ∷ t ∷ values) = tt
run_few (f ∷ e ∷ h ∷ g ∷ names) values = tt

gen_few : (names values : List (List ℕ)) → IsInRange (gen_names names values)
gen_few [] values = tt
gen_few (n ∷ []) [] = go (number_in most_made n) refl
  where
    go : (o : Option ℕ) → number_in most_made n ≡ o → IsInRange (option_map gen o)
    go None k = tt
    go (Some m) k = number_few most_made n m k
gen_few (n ∷ []) (s ∷ values) = tt
gen_few (n ∷ m ∷ names) values = tt

check_few : (names values : List (List ℕ)) → IsInRange (check_names names values)
check_few [] values = tt
check_few (f ∷ []) [] = tt
check_few (f ∷ []) (s ∷ values) = tt
check_few (f ∷ g ∷ names) values = tt

build_few : (names values : List (List ℕ)) → IsInRange (build_names names values)
build_few [] values = tt
build_few (f ∷ []) values = tt
build_few (f ∷ t ∷ []) values = tt
build_few (f ∷ t ∷ c ∷ []) [] = go (are_apart f t c)
  where
    go : (b : Bool) → IsInRange (cond b (Some (build f t c)) None)
    go true = tt
    go false = tt
build_few (f ∷ t ∷ c ∷ []) (s ∷ values) = tt
build_few (f ∷ t ∷ c ∷ g ∷ names) values = tt

recheck_few : (names values : List (List ℕ)) → IsInRange (recheck_names names values)
recheck_few [] values = tt
recheck_few (f ∷ []) values = tt
recheck_few (f ∷ c ∷ []) [] = tt
recheck_few (f ∷ c ∷ []) (s ∷ values) = tt
recheck_few (f ∷ c ∷ g ∷ names) values = tt

called_few : (command : List (List ℕ) → List (List ℕ) → Option Command) → ((names values : List (List ℕ)) → IsInRange (command names values))
    → (s : Option Sorted) → IsInRange (called command s)
called_few command few None = tt
called_few command few (Some s) = few s.names s.values

pub few : (words : List (List ℕ)) → IsInRange (command_of words)
few [] = tt
few (word ∷ rest) = go (bytes_eq (codes "check") word) (bytes_eq (codes "build") word) (bytes_eq (codes "recheck") word) (bytes_eq (codes "run") word) (bytes_eq (codes "gen") word)
  where
    go : (a b c d g : Bool)
        → IsInRange (cond a (called check_names (sorted false false rest)) (cond b (called build_names (sorted false false rest))
        (cond c (called recheck_names (sorted false false rest)) (cond d (called run_names (sorted true false rest)) (cond g (called gen_names (sorted false false rest)) None)))))
    go true b c d g = called_few check_names check_few (sorted false false rest)
    go false true c d g = called_few build_names build_few (sorted false false rest)
    go false false true d g = called_few recheck_names recheck_few (sorted false false rest)
    go false false false true g = called_few run_names run_few (sorted true false rest)
    go false false false false true = called_few gen_names gen_few (sorted false false rest)
    go false false false false false = tt

pub few_as : (words : List (List ℕ)) (c : Option Command) → c ≡ command_of words → IsInRange c
few_as words c e = subst IsInRange (sym e) (few words)
