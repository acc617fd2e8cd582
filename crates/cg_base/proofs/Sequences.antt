-- Lists and their entries.
use Rattle.std.proofs.Common.{◌≡◌, ℕ, true, List, false, refl, [], ◌∷◌, length, arith, ◌+◌, ◌++◌, ap, append_assoc, take, slice_get, ◌∙◌, zero, suc}
use Rattle.std.proofs.lemmas.Slice.Eq.{bytes_eq-Decides}
use Rattle.std.specs.Str.{bytes_eq}
use Rattle.std.specs.Prelude.{◌==◌, slice_set}
use Rattle.std.proofs.lemmas.Bool.Decides.{nat_tests}
use Rattle.std.specs.Cmp.Lexicographic.{bytes_decides}
use Rattle.std.proofs.lemmas.List.{take_more}
use Rattle.std.proofs.lemmas.Option.{slice_get_within, get_or_from_slice_get}
use Rattle.std.specs.declared.option.Option.TheVariants.{Some}

pub same_when : (x y : List ℕ) → x ≡ y → bytes_eq x y ≡ true
same_when x y e = (bytes_eq-Decides x y).1 e

pub same_unless : (xs ys : List ℕ) → (xs ≡ ys → ⊥) → bytes_eq xs ys ≡ false
same_unless xs ys h = elim (bytes_eq xs ys) as (λ b. bytes_eq xs ys ≡ b → b ≡ false) [ true ↦ λ e. absurd (h ((bytes_eq-Decides xs ys).0 e)) | false ↦ λ e. refl ] refl

pub is_empty : (xs : List ℕ) → (length xs == 0) ≡ true → xs ≡ []
is_empty [] e = refl
is_empty (x ∷ xs) e = absurd (grind (arith, nat_tests))

pub itself : (x : List ℕ) → bytes_eq x x ≡ true
itself x = (bytes_eq-Decides x x).1 refl

pub is_name : (n m : List ℕ) → bytes_eq n m ≡ true → n ≡ m
is_name n m e = (bytes_decides n m).0 e

pub append_none : {A : Type 0} (xs : List A) → xs ++ [] ≡ xs
append_none [] = refl
append_none (x ∷ xs) = ap (λ ys. x ∷ ys) (append_none xs)

pub one_more : (a b c d : List ℕ) → (a ++ (b ++ c)) ++ d ≡ a ++ (b ++ (c ++ d))
one_more a b c d = simp append_assoc

pub one_more' : {X : Type 0} (xs : List X) (i : ℕ) (x : X) → slice_get xs i ≡ Some x → take (i + 1) xs ≡ take i xs ++ x ∷ []
one_more' xs i x e = take_more xs i x (slice_get_within xs i x e) ∙ ap (λ y. take i xs ++ y ∷ []) (get_or_from_slice_get xs i x x e)

pub length_set : (ns : List ℕ) (i k : ℕ) → length (slice_set ns i k) ≡ length ns
length_set [] i k = refl
length_set (n ∷ ns) zero k = refl
length_set (n ∷ ns) (suc i) k = ap suc (length_set ns i k)

pub get_front : {A : Type 0} (xs ys : List A) (i : ℕ) (x : A) → slice_get xs i ≡ Some x → slice_get (xs ++ ys) i ≡ Some x
get_front [] ys i x h = absurd (cc)
get_front (y ∷ xs) ys zero x h = h
get_front (y ∷ xs) ys (suc i) x h = get_front xs ys i x h

pub get_last : {A : Type 0} (xs : List A) (x : A) → slice_get (xs ++ x ∷ []) (length xs) ≡ Some x
get_last [] x = refl
get_last (y ∷ xs) x = get_last xs x
