-- What represents a value bounds its numbers, so capping changes nothing.
use Rattle.std.proofs.Common.{rules, ◌≡◌, ◌&&◌, ◌<◌, ◌≤◌, ◌^◌, ◌-◌, ℕ, zero, suc, Bool, true, false, not, IsTrue, List, [], ◌∷◌, codes, map, take, drop, refl, sym, ap, subst, arith}
use Rattle.std.specs.Prelude.{nat_lt}
use Rattle.std.specs.List.{list_all}
use Rattle.std.specs.Str.{bytes_eq}
use Rattle.std.specs.declared.option.Option.{Option}
use Rattle.std.specs.declared.option.Option.TheVariants.{Some}
use Rattle.std.proofs.Math.Nat.{min-eq_left}
use Rattle.std.proofs.lemmas.Bool.{and_parts, ltb-true}
use Rattle.cg_base.specs.Types.{Tau, var, seen, unit, word, bool, arrow, abs, variant, fields, Taus, none, more, Parts, end, part}
use Rattle.cg_base.specs.Words.{bits}
use Rattle.cg_base.specs.declared.kind.Word.{Word as Width}
use Rattle.cg_base.specs.declared.kind.Word.TheVariants.{U8, U16, U32, U64}
use Rattle.cg_heap.specs.declared.cell.Cell.{Cell}
use Rattle.cg_heap.specs.declared.cell.Cell.TheVariants.{Words, Answers}
use Rattle.cg_heap.specs.declared.cell.Scalar.{Scalar}
use Rattle.cg_heap.specs.Reps as reps
use Rattle.cg_heap.specs.Reps.{Holds, HoldsAll, HoldsAt, StandsFor, first_address, first_number, inner, slots, tail}
use Rattle.cg_value.specs.Fits.{is_array}
use Rattle.cg_value.specs.Values as values
use Rattle.cg_value.specs.Values.{Val, Vals, chosen, elements, number, parts}
use Rattle.cg_heaptext_def.specs.Small.{capped_number}
use Rattle.cg_heaptext_value.specs.Capped.{capped_value, capped_values}
use Rattle.cg_heaptext_value.specs.World.{no_world}

-- ---- numbers

pub small_is_capped : (n : ℕ) → n < 2 ^ 64 → capped_number n ≡ n
small_is_capped n l = let le : n ≤ 2 ^ 64 - 1 = omega (arith, l) in min-eq_left le

word_is_small : (w : Width) (n : ℕ) → n < 2 ^ bits w → n < 2 ^ 64
word_is_small U8 n l = omega (arith, l)
word_is_small U16 n l = omega (arith, l)
word_is_small U32 n l = omega (arith, l)
word_is_small U64 n l = l

words_are_capped : (w : Width) (ns : List ℕ) → list_all (λ n. nat_lt n (2 ^ bits w)) ns ≡ true → map capped_number ns ≡ ns
words_are_capped w [] e = refl
words_are_capped w (n ∷ ns) e =
    let both = and_parts (nat_lt n (2 ^ bits w)) (list_all (λ n. nat_lt n (2 ^ bits w)) ns) e in
    let here = small_is_capped n (word_is_small w n (ltb-true n (2 ^ bits w) both.0)) in
    let rest = words_are_capped w ns both.1 in
    λ i. here i ∷ rest i

-- ---- values of abstract types

abbrev IsCapped : Val → Type 0
IsCapped v = capped_value v ≡ v

second_false : (b : Bool) → IsTrue (b && false) → ⊥
second_false true e = absurd (search (rules, e))
second_false false e = absurd (search (rules, e))

array_parts : (w : Width) (ns : List ℕ) (b : Bool) → IsTrue (b && is_array w (elements ns)) → IsTrue (is_array w (elements ns))
array_parts w ns true e = e
array_parts w ns false e = absurd (search (rules, e))

array_is_capped : (w : Width) (ns : List ℕ) → IsTrue (is_array w (elements ns)) → IsCapped (elements ns)
array_is_capped w ns e = ap elements (words_are_capped w ns (and_parts _ (list_all (λ n. nat_lt n (2 ^ bits w)) ns) e).1)

abstract_is_capped : (name : List ℕ) (args : Taus) (o : Option Cell) (v : Val) → StandsFor no_world name args o v → IsCapped v
abstract_is_capped name none (Some (Answers bs)) v s = subst IsCapped (sym s.1) refl
abstract_is_capped name none (Some (Words ns)) v s = absurd (second_false (not (bytes_eq name (codes "SysState"))) s)
abstract_is_capped name (more (word w) none) (Some (Words ns)) v s = subst IsCapped (sym s.1) (array_is_capped w ns (array_parts w ns (bytes_eq name (codes "WordArray")) s.0))
abstract_is_capped name args o v s = absurd s

-- ---- values

module _ (h : reps.Heap) where
  mutual
    unfolding Holds

    held : (t : Tau) (us : List Scalar) (v : Val) → Holds no_world h t us v → IsCapped v
    held (var n) us v r = absurd r
    held (seen n) us v r = absurd r
    held unit us v r = subst IsCapped (sym r.1) refl
    held (word w) us v r = subst IsCapped (sym r.2) (ap number (small_is_capped (first_number us) (word_is_small w (first_number us) r.1)))
    held bool us v r = subst IsCapped (sym r.2) (ap number (small_is_capped (first_number us) (omega (arith, r.1))))
    held (arrow a b) us v r = let none = r.1 in absurd (cc)
    held (abs name args sigil) us v r = abstract_is_capped name args (h (first_address us)) v r.2
    held (variant ps) us v r = subst IsCapped (sym r.5) (ap (chosen r.0) (held_at ps (first_number us) (tail us) r.0 r.1 r.4))
    held (fields ps sigil) us v r = subst IsCapped (sym r.3) (ap parts (held_all ps (inner h sigil us) r.0 r.2))

    held_all : (ps : Parts) (us : List Scalar) (vs : Vals) → HoldsAll no_world h ps us vs → capped_values vs ≡ vs
    held_all end us values.none r = refl
    held_all end us (values.more v vs) r = absurd r
    held_all (part name t taken ps) us values.none r = absurd (r)
    held_all (part name t true ps) us (values.more v vs) r =
        let here = subst IsCapped (sym r.1) refl in
        let rest = held_all ps (drop (slots t) us) vs r.2 in
        λ i. values.more (here i) (rest i)
    held_all (part name t false ps) us (values.more v vs) r =
        let here = held t (take (slots t) us) v r.1 in
        let rest = held_all ps (drop (slots t) us) vs r.2 in
        λ i. values.more (here i) (rest i)

    held_at : (ps : Parts) (i : ℕ) (us : List Scalar) (x : List ℕ) (v : Val) → HoldsAt no_world h ps i us x v → IsCapped v
    held_at end i us x v r = absurd r
    held_at (part name t taken ps) zero us x v r = held t (take (slots t) us) v r.2
    held_at (part name t taken ps) (suc i) us x v r = held_at ps i (drop (slots t) us) x v r

pub held_is_capped : (h : reps.Heap) (t : Tau) (us : List Scalar) (v : Val) → Holds no_world h t us v → capped_value v ≡ v
held_is_capped h t us v r = held h t us v r
