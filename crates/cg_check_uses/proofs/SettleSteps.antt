-- What is put into derivations, at what is left of a list and at what has been done of one.
use Rattle.std.proofs.Common.{◌≡◌, ℕ, zero, suc, ◌<◌, ◌≤◌, ◌+◌, List, [], ◌∷◌, ◌++◌, map, length, take, drop, get_or, set, append-nil, refl, sym, ap, ◌∙◌, arith}
use Rattle.std.specs.Prelude.{slice_set}
use Rattle.std.proofs.lemmas.List.{at_drop_more, at_drop_all, drop_all, take_all, map-set, get_or-map, length-map}
use Rattle.std.proofs.Math.Seq.{take-append_seam}
use Rattle.cg_core.specs.declared.derivation.Deriv.{Deriv, out-Deriv, the_lemmas}
use Rattle.cg_core.specs.declared.derivation.Mark.{Mark}
use Rattle.cg_core.specs.declared.derivation.Mark.TheVariants.{Right}
use Rattle.cg_core.proofs.Views.{derivation_is}
use Rattle.cg_core.specs.Derivations.{Derivation, derivation, part, to_derivations, derivation_of}
use Rattle.cg_check_uses.specs.Marks.{keep_all, settle, settle_behind}
use Rattle.cg_check_uses.specs.Parted.{settled_from}
use Rattle.cg_base.proofs.Counts.{one_more as one_on}

-- positions, one after another
pub keep_more : (kept : List ℕ) (ms : List Mark) (k d : ℕ) → k < length kept → keep_all (drop (k + 1) kept) (slice_set ms (get_or kept k d) Right) ≡ keep_all (drop k kept) ms
keep_more kept ms k d h = sym (at_drop_more (λ l. keep_all l ms) kept k d h)

pub keep_past : (kept : List ℕ) (ms : List Mark) (k : ℕ) → length kept ≤ k → keep_all (drop k kept) ms ≡ ms
keep_past kept ms k h = at_drop_all (λ l. keep_all l ms) kept k h

-- the parts of a derivation
pub behind_is : (kept : List ℕ) (n : ℕ) (ds : List Derivation) → settle_behind kept n (to_derivations ds) ≡ to_derivations (settled_from kept n ds)
unfolding to_derivations
behind_is kept n [] = refl
behind_is kept zero (d ∷ ds) = ap (part (settle kept d)) (behind_is kept zero ds)
behind_is kept (suc n) (d ∷ ds) = ap (part d) (behind_is kept n ds)

pub long_from : (kept : List ℕ) (n : ℕ) (ds : List Derivation) → length (settled_from kept n ds) ≡ length ds
long_from kept n [] = refl
long_from kept zero (d ∷ ds) = ap suc (long_from kept zero ds)
long_from kept (suc n) (d ∷ ds) = ap suc (long_from kept n ds)

-- one of them
pub from_before : (kept : List ℕ) (n : ℕ) (ds : List Derivation) (i : ℕ) (d : Derivation) → i < n → i < length ds → get_or (settled_from kept n ds) i d ≡ get_or ds i d
from_before kept n [] i d h l = absurd (omega (arith, l))
from_before kept zero (e ∷ ds) i d h l = absurd (omega (arith, h))
from_before kept (suc n) (e ∷ ds) zero d h l = refl
from_before kept (suc n) (e ∷ ds) (suc i) d h l = from_before kept n ds i d (omega (arith, h)) (omega (arith, l))

pub from_behind : (kept : List ℕ) (n : ℕ) (ds : List Derivation) (i : ℕ) (d : Derivation) → n ≤ i → i < length ds → get_or (settled_from kept n ds) i d ≡ settle kept (get_or ds i d)
from_behind kept n [] i d h l = absurd (omega (arith, l))
from_behind kept zero (e ∷ ds) zero d h l = refl
from_behind kept zero (e ∷ ds) (suc i) d h l = from_behind kept zero ds i d (omega arith) (omega (arith, l))
from_behind kept (suc n) (e ∷ ds) zero d h l = absurd (omega (arith, h))
from_behind kept (suc n) (e ∷ ds) (suc i) d h l = from_behind kept n ds i d (omega (arith, h)) (omega (arith, l))

pub first_same : (kept : List ℕ) (n : ℕ) (ds : List Derivation) → ds ≡ take n (settled_from kept n ds) ++ drop n ds
first_same kept zero ds = refl
first_same kept (suc n) [] = refl
first_same kept (suc n) (d ∷ ds) = ap (λ es. d ∷ es) (first_same kept n ds)

pub all_done : (kept : List ℕ) (n : ℕ) (ds : List Derivation) (i : ℕ) → length ds ≤ i → take i (settled_from kept n ds) ++ drop i ds ≡ settled_from kept n ds
all_done kept n ds i h =
    let done = take_all i (settled_from kept n ds) (omega (arith, h, long_from kept n ds)) in
    ap (λ l. take i (settled_from kept n ds) ++ l) (drop_all i ds h) ∙ append-nil (take i (settled_from kept n ds)) ∙ done

-- a list that becomes another, item by item
toward_next : {X : Type 0} (xs ys : List X) (i : ℕ) (y : X) → length xs ≡ length ys → i < length xs → y ≡ get_or ys i y
    → set (take i ys ++ drop i xs) i y ≡ take (suc i) ys ++ drop (suc i) xs
toward_next [] ys i y e l is = absurd (omega (arith, l))
toward_next (x ∷ xs) [] i y e l is = absurd (omega (arith, e))
toward_next (x ∷ xs) (z ∷ ys) zero y e l is = ap (λ w. w ∷ xs) is
toward_next (x ∷ xs) (z ∷ ys) (suc i) y e l is = ap (λ w. z ∷ w) (toward_next xs ys i y (omega (arith, e)) (omega (arith, l)) is)

kept_next : {X : Type 0} (xs ys : List X) (i : ℕ) (d : X) → length xs ≡ length ys → i < length xs → get_or ys i d ≡ get_or xs i d
    → take i ys ++ drop i xs ≡ take (suc i) ys ++ drop (suc i) xs
kept_next [] ys i d e l is = absurd (omega (arith, l))
kept_next (x ∷ xs) [] i d e l is = absurd (omega (arith, e))
kept_next (x ∷ xs) (z ∷ ys) zero d e l is = ap (λ w. w ∷ xs) (sym is)
kept_next (x ∷ xs) (z ∷ ys) (suc i) d e l is = ap (λ w. z ∷ w) (kept_next xs ys i d (omega (arith, e)) (omega (arith, l)) is)

pub toward : {X Y : Type 0} (f : X → Y) (zs : List X) (xs ys : List Y) (i : ℕ) (y : X) → map f zs ≡ take i ys ++ drop i xs → length xs ≡ length ys → i < length xs → f y ≡ get_or ys i (f y)
    → map f (set zs i y) ≡ take (i + 1) ys ++ drop (i + 1) xs
toward f zs xs ys i y h e l is =
    map-set f zs i y ∙ ap (λ w. set w i (f y)) h ∙ toward_next xs ys i (f y) e l is ∙ ap (λ k. take k ys ++ drop k xs) (one_on i)

pub kept_same : {X : Type 0} (xs ys : List X) (i : ℕ) (d : X) → length xs ≡ length ys → i < length xs → get_or ys i d ≡ get_or xs i d
    → take i ys ++ drop i xs ≡ take (i + 1) ys ++ drop (i + 1) xs
kept_same xs ys i d e l is = kept_next xs ys i d e l is ∙ ap (λ k. take k ys ++ drop k xs) (one_on i)

-- one part of the program's derivations, which is settled
pub settled_more : (kept : List ℕ) (n : ℕ) (old now : List Deriv) (i : ℕ) (x y : Deriv)
    → map derivation_of now ≡ take i (settled_from kept n (map derivation_of old)) ++ drop i (map derivation_of old)
    → n ≤ i → i < length old → x ≡ get_or old i x → derivation_of y ≡ settle kept (derivation_of x)
    → map derivation_of (set now i y) ≡ take (i + 1) (settled_from kept n (map derivation_of old)) ++ drop (i + 1) (map derivation_of old)
settled_more kept n old now i x y h from l is made =
    let ds = map derivation_of old in
    let long : i < length ds = omega (arith, l, length-map old derivation_of) in
    toward derivation_of now ds (settled_from kept n ds) i y h (sym (long_from kept n ds)) long
    (made ∙ sym (from_behind kept n ds i (derivation_of y) from long ∙ ap (settle kept) (get_or-map derivation_of old i x (derivation_of y) l ∙ ap derivation_of (sym is))))

-- a node whose marks and parts are settled
pub settled_node : (kept : List ℕ) (tree : Deriv) (marks : List (List Mark)) (parts : List Deriv) (n : ℕ)
    → marks ≡ map (keep_all kept) (out-Deriv tree).marks → n ≡ length marks
    → map derivation_of parts ≡ settled_from kept n (map derivation_of (out-Deriv tree).parts)
    → derivation (out-Deriv tree).node marks (to_derivations (map derivation_of parts)) ≡ settle kept (derivation_of tree)
settled_node kept tree marks parts n marked long parted =
    let old = map derivation_of (out-Deriv tree).parts in
    let count : n ≡ length (out-Deriv tree).marks = long ∙ ap length marked ∙ length-map (out-Deriv tree).marks (keep_all kept) in
    let settled : to_derivations (map derivation_of parts) ≡ settle_behind kept (length (out-Deriv tree).marks) (to_derivations old) =
    ap to_derivations (parted ∙ ap (λ n. settled_from kept n old) count) ∙ sym (behind_is kept (length (out-Deriv tree).marks) old) in
    let whole : derivation (out-Deriv tree).node marks (to_derivations (map derivation_of parts))
    ≡ derivation (out-Deriv tree).node (map (keep_all kept) (out-Deriv tree).marks) (settle_behind kept (length (out-Deriv tree).marks) (to_derivations old)) = cc in
    whole ∙ ap (settle kept) (sym (derivation_is tree))

-- a list of the same length is put back whole
pub put_back : {X : Type 0} (old xs : List X) → length xs ≡ length old → take (length old) (xs ++ drop (length xs) old) ≡ xs
put_back old xs e = ap (λ n. take n (xs ++ drop (length xs) old)) (sym e) ∙ take-append_seam xs (drop (length xs) old)

pub ruleset settle_steps = (keep_more, keep_past, the_lemmas, behind_is)
