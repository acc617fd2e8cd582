-- The items and the functions of a program, from the first one on.
use Rattle.std.proofs.Common.{◌≡◌, ℕ, zero, suc, ◌+◌, List, [], ◌∷◌, ◌++◌, length, refl, sym, ap, ◌∙◌, append_assoc, append-nil, arith}
use Rattle.cg_core.specs.Kernels.{Function}
use Rattle.cg_surface.specs.Programs.{Entry}
use Rattle.cg_gen_def.specs.Kernels.{function_behind, functions}
use Rattle.cg_gen_def.specs.Programs.{body_item, items, type_item}

-- what so many numbers give, from a number on
abbrev pub spread : {A : Type 0} → (ℕ → List A) → ℕ → ℕ → List A
spread one i zero = []
spread one i (suc k) = one i ++ spread one (suc i) k

last_of : {A : Type 0} (one : ℕ → List A) (i k : ℕ) → spread one i k ++ one (i + k) ≡ one i ++ spread one (suc i) k
last_of one i zero =
    let same : i + 0 ≡ i = omega arith in
    ap one same ∙ sym (append-nil (one i))
last_of one i (suc k) =
    let same : i + suc k ≡ suc i + k = omega arith in
    append_assoc (one i) (spread one (suc i) k) (one (i + suc k)) ∙ ap (λ j. one i ++ (spread one (suc i) k ++ one j)) same ∙ ap (λ xs. one i ++ xs) (last_of one (suc i) k)

one_more : {A : Type 0} (one : ℕ → List A) (xs : List A) (n : ℕ) → xs ≡ spread one 0 n → xs ++ one n ≡ spread one 0 (suc n)
one_more one xs n is =
    let same : n ≡ 0 + n = omega arith in
    ap (λ ys. ys ++ one n) is ∙ ap (λ j. spread one 0 n ++ one j) same ∙ last_of one 0 n

-- the two items of a function, and a function
abbrev pub two_items : ℕ → List Entry
two_items i = type_item i ∷ body_item i ∷ []

abbrev pub one_function : ℕ → List Function
one_function i = function_behind i ∷ []

pub items_are : (n : ℕ) → items n ≡ spread two_items 0 n
unfolding items
items_are zero = refl
items_are (suc n) = one_more two_items (items n) n (items_are n)

pub functions_are : (n : ℕ) → functions n ≡ spread one_function 0 n
unfolding functions
functions_are zero = refl
functions_are (suc n) = one_more one_function (functions n) n (functions_are n)

-- they are so many
pub so_many : (i k : ℕ) → length (spread one_function i k) ≡ k
so_many i zero = refl
so_many i (suc k) = ap suc (so_many (suc i) k)
