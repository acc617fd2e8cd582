-- What is made of two lists item by item, or of three, at what is left of them.
use Rattle.std.proofs.Common.{◌≡◌, ℕ, zero, suc, ◌<◌, ◌+◌, Bool, true, false, cond, List, [], ◌∷◌, ◌++◌, length, drop, get_or, append_assoc, refl, sym, ap, ◌∙◌, add-one, arith}
use Rattle.cg_check_uses.specs.Marks.{raised}
use Rattle.cg_check_uses.specs.Uses.{pairs, triples}

-- the next item
pairs_next : {A B C : Type 0} (f : A → B → C) (xs : List A) (ys : List B) (i : ℕ) (x : A) (y : B) → i < length xs → i < length ys
    → pairs f (drop i xs) (drop i ys) ≡ (f (get_or xs i x) (get_or ys i y) ∷ pairs f (drop (suc i) xs) (drop (suc i) ys))
pairs_next f [] ys i x y h k = absurd (omega (arith, h))
pairs_next f (a ∷ xs) [] i x y h k = absurd (omega (arith, k))
pairs_next f (a ∷ xs) (b ∷ ys) zero x y h k = refl
pairs_next f (a ∷ xs) (b ∷ ys) (suc i) x y h k = pairs_next f xs ys i x y (omega (arith, h)) (omega (arith, k))

pub pairs_rest : {A B C : Type 0} (f : A → B → C) (xs : List A) (ys : List B) (i : ℕ) (x : A) (y : B) → i < length xs → i < length ys
    → pairs f (drop i xs) (drop i ys) ≡ (f (get_or xs i x) (get_or ys i y) ∷ pairs f (drop (i + 1) xs) (drop (i + 1) ys))
pairs_rest f xs ys i x y h k = pairs_next f xs ys i x y h k ∙ ap (λ n. f (get_or xs i x) (get_or ys i y) ∷ pairs f (drop n xs) (drop n ys)) (sym (add-one i))

triples_next : {A B C D : Type 0} (f : A → B → C → D) (xs : List A) (ys : List B) (zs : List C) (i : ℕ) (x : A) (y : B) (z : C)
    → i < length xs → i < length ys → i < length zs
    → triples f (drop i xs) (drop i ys) (drop i zs)
    ≡ (f (get_or xs i x) (get_or ys i y) (get_or zs i z) ∷ triples f (drop (suc i) xs) (drop (suc i) ys) (drop (suc i) zs))
triples_next f [] ys zs i x y z h k l = absurd (omega (arith, h))
triples_next f (a ∷ xs) [] zs i x y z h k l = absurd (omega (arith, k))
triples_next f (a ∷ xs) (b ∷ ys) [] i x y z h k l = absurd (omega (arith, l))
triples_next f (a ∷ xs) (b ∷ ys) (c ∷ zs) zero x y z h k l = refl
triples_next f (a ∷ xs) (b ∷ ys) (c ∷ zs) (suc i) x y z h k l = triples_next f xs ys zs i x y z (omega (arith, h)) (omega (arith, k)) (omega (arith, l))

pub triples_rest : {A B C D : Type 0} (f : A → B → C → D) (xs : List A) (ys : List B) (zs : List C) (i : ℕ) (x : A) (y : B) (z : C)
    → i < length xs → i < length ys → i < length zs
    → triples f (drop i xs) (drop i ys) (drop i zs)
    ≡ (f (get_or xs i x) (get_or ys i y) (get_or zs i z) ∷ triples f (drop (i + 1) xs) (drop (i + 1) ys) (drop (i + 1) zs))
triples_rest f xs ys zs i x y z h k l =
    triples_next f xs ys zs i x y z h k l
    ∙ ap (λ n. f (get_or xs i x) (get_or ys i y) (get_or zs i z) ∷ triples f (drop n xs) (drop n ys) (drop n zs)) (sym (add-one i))

-- and none
pairs_none : {A B C : Type 0} (f : A → B → C) (xs : List A) → pairs f xs [] ≡ []
pairs_none f [] = refl
pairs_none f (x ∷ xs) = refl

pub pairs_past : {A B C : Type 0} (f : A → B → C) (xs : List A) (ys : List B) (i : ℕ) → (i < length xs → i < length ys → ⊥) → pairs f (drop i xs) (drop i ys) ≡ []
pairs_past f [] ys zero h = refl
pairs_past f [] ys (suc i) h = refl
pairs_past f (a ∷ xs) [] zero h = refl
pairs_past f (a ∷ xs) [] (suc i) h = pairs_none f (drop i xs)
pairs_past f (a ∷ xs) (b ∷ ys) zero h = absurd (h (omega arith) (omega arith))
pairs_past f (a ∷ xs) (b ∷ ys) (suc i) h = pairs_past f xs ys i (λ k l. h (omega (arith, k)) (omega (arith, l)))

no_second : {A B C D : Type 0} (f : A → B → C → D) (xs : List A) (zs : List C) → triples f xs [] zs ≡ []
no_second f [] zs = refl
no_second f (x ∷ xs) zs = refl

no_third : {A B C D : Type 0} (f : A → B → C → D) (xs : List A) (ys : List B) → triples f xs ys [] ≡ []
no_third f [] ys = refl
no_third f (x ∷ xs) [] = refl
no_third f (x ∷ xs) (y ∷ ys) = refl

pub triples_past : {A B C D : Type 0} (f : A → B → C → D) (xs : List A) (ys : List B) (zs : List C) (i : ℕ) → (i < length xs → i < length ys → i < length zs → ⊥)
    → triples f (drop i xs) (drop i ys) (drop i zs) ≡ []
triples_past f [] ys zs zero h = refl
triples_past f [] ys zs (suc i) h = refl
triples_past f (a ∷ xs) [] zs zero h = refl
triples_past f (a ∷ xs) [] zs (suc i) h = no_second f (drop i xs) (drop (suc i) zs)
triples_past f (a ∷ xs) (b ∷ ys) [] zero h = refl
triples_past f (a ∷ xs) (b ∷ ys) [] (suc i) h = no_third f (drop i xs) (drop i ys)
triples_past f (a ∷ xs) (b ∷ ys) (c ∷ zs) zero h = absurd (h (omega arith) (omega arith) (omega arith))
triples_past f (a ∷ xs) (b ∷ ys) (c ∷ zs) (suc i) h = triples_past f xs ys zs i (λ k l m. h (omega (arith, k)) (omega (arith, l)) (omega (arith, m)))

-- positions whose flag is raised
pub raised_pair : {A B : Type 0} (f : A → B → Bool) (xs : List A) (ys : List B) (i : ℕ) (x : A) (y : B) → i < length xs → i < length ys
    → raised i (pairs f (drop i xs) (drop i ys))
    ≡ cond (f (get_or xs i x) (get_or ys i y)) (i ∷ raised (i + 1) (pairs f (drop (i + 1) xs) (drop (i + 1) ys))) (raised (i + 1) (pairs f (drop (i + 1) xs) (drop (i + 1) ys)))
raised_pair f xs ys i x y h k =
    ap (raised i) (pairs_rest f xs ys i x y h k)
    ∙ ap (λ n. cond (f (get_or xs i x) (get_or ys i y)) (i ∷ raised n (pairs f (drop (i + 1) xs) (drop (i + 1) ys))) (raised n (pairs f (drop (i + 1) xs) (drop (i + 1) ys)))) (sym (add-one i))

-- a list that gets the next item
pub next_one : {A : Type 0} (olds news rest all : List A) (x : A) → news ≡ olds ++ x ∷ [] → all ≡ (x ∷ rest) → news ++ rest ≡ olds ++ all
next_one olds news rest all x h k = ap (λ l. l ++ rest) h ∙ append_assoc olds (x ∷ []) rest ∙ sym (ap (λ l. olds ++ l) k)

-- the next position, which goes with the others or not
pub raised_here : {A B : Type 0} (f : A → B → Bool) (xs : List A) (ys : List B) (i : ℕ) (x : A) (y : B) (olds news : List ℕ) → i < length xs → i < length ys
    → f (get_or xs i x) (get_or ys i y) ≡ true → news ≡ olds ++ i ∷ []
    → news ++ raised (i + 1) (pairs f (drop (i + 1) xs) (drop (i + 1) ys)) ≡ olds ++ raised i (pairs f (drop i xs) (drop i ys))
raised_here f xs ys i x y olds news h k e m =
    let rest = raised (i + 1) (pairs f (drop (i + 1) xs) (drop (i + 1) ys)) in
    next_one olds news rest (raised i (pairs f (drop i xs) (drop i ys))) i m (raised_pair f xs ys i x y h k ∙ ap (λ b. cond b (i ∷ rest) rest) e)

pub raised_later : {A B : Type 0} (f : A → B → Bool) (xs : List A) (ys : List B) (i : ℕ) (x : A) (y : B) (olds : List ℕ) → i < length xs → i < length ys
    → f (get_or xs i x) (get_or ys i y) ≡ false
    → olds ++ raised (i + 1) (pairs f (drop (i + 1) xs) (drop (i + 1) ys)) ≡ olds ++ raised i (pairs f (drop i xs) (drop i ys))
raised_later f xs ys i x y olds h k e =
    let rest = raised (i + 1) (pairs f (drop (i + 1) xs) (drop (i + 1) ys)) in
    ap (λ l. olds ++ l) (sym (raised_pair f xs ys i x y h k ∙ ap (λ b. cond b (i ∷ rest) rest) e))
