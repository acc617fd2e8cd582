-- What scalars represent fits the type.
use Rattle.std.proofs.Common.{◌≡◌, ℕ, zero, suc, ◌^◌, Bool, true, false, ◌&&◌, not, IsTrue, Option, Some, List, codes, take, drop, refl, sym, subst, lt-ltb}
use Rattle.std.proofs.lemmas.Bool.{and_parts, and_from, or_parts, not-true}
use Rattle.std.specs.List.{list_any}
use Rattle.std.specs.Str.{bytes_eq}
use Rattle.std.proofs.lemmas.Slice.Eq.{bytes_eq-Decides}
use Rattle.cg_base.specs.Types.{Tau, var, seen, unit, word, bool, arrow, abs, variant, fields, Taus, Parts, end, part}
use Rattle.cg_base.specs.Types as types
use Rattle.cg_base.specs.Words.{bits}
use Rattle.cg_heap.specs.declared.cell.Cell.{Cell}
use Rattle.cg_heap.specs.declared.cell.Cell.TheVariants.{Words, Answers}
use Rattle.cg_heap.specs.declared.cell.Scalar.{Scalar}
use Rattle.cg_heap.specs.Reps.{Heap, HeapWorld, StandsFor, Holds, HoldsAll, HoldsAt, slots, inner, first_number, first_address, tail}
use Rattle.cg_core_def.specs.Lawful.{AreApart, part_names, IsLawfulType, AreLawfulParts}
use Rattle.cg_value.specs.Fits.{World, fits, fits_abstract, fits_alternative, fits_fields, is_answers, is_array, is_gone}
use Rattle.cg_value.specs.Values as values
use Rattle.cg_value.specs.Values.{Val, Vals}
use Rattle.cg_base.proofs.Sequences.{itself as name_self}

name_turned : (x y : List ℕ) → bytes_eq x y ≡ false → bytes_eq y x ≡ false
name_turned x y e = go (bytes_eq y x) refl
  where
    go : (b : Bool) → bytes_eq y x ≡ b → bytes_eq y x ≡ false
    go true f = absurd (let g = (bytes_eq-Decides x y).1 (sym ((bytes_eq-Decides y x).0 f)) in cc)
    go false f = f

module _ (world : HeapWorld) (known : World)
    (instances_fit : (n : ℕ) (v : Val) (a b : Tau) → world.instance_at n ≡ Some (v, arrow a b) → IsTrue (fits known (arrow a b) v))
    (stands_holds : (name ns : List ℕ) (v : Val) → IsTrue (world.stands name ns v) → IsTrue (known.holds name v)) where
  -- what a cell stands for fits the abstract type
  stands_fits : (name : List ℕ) (args : Taus) (o : Option Cell) (v : Val) → StandsFor world name args o v → IsTrue (fits_abstract known name args v)
  stands_fits name types.none (Some (Answers bs)) v r = rw r.0 (subst (λ v. IsTrue (is_answers v)) (sym r.1) refl)
  stands_fits name types.none (Some (Words ns)) v r =
      let p = and_parts (not (bytes_eq name (codes "SysState"))) (world.stands name ns v) r in
      rw (not-true (bytes_eq name (codes "SysState")) p.0) (stands_holds name ns v p.1)
  stands_fits name (types.more (word w) types.none) (Some (Words ns)) v r = subst (λ v. IsTrue (bytes_eq name (codes "WordArray") && is_array w v)) (sym r.1) r.0
  stands_fits name _ _ v r = absurd r

  module _ (h : Heap) where
    -- the name of an alternative is among those of all
    name_is_there : (n : List ℕ) (ps : Parts) (i : ℕ) (us : List Scalar) (x : List ℕ) (v : Val) → HoldsAt world h ps i us x v
        → list_any (bytes_eq n) (part_names ps) ≡ false → bytes_eq n x ≡ false
    unfolding Holds
    name_is_there n end i us x v r e = absurd r
    name_is_there n (part y t taken ps) zero us x v r e = rw r.1 (or_parts (bytes_eq n y) (list_any (bytes_eq n) (part_names ps)) e).0
    name_is_there n (part y t taken ps) (suc i) us x v r e = name_is_there n ps i (drop (slots t) us) x v r (or_parts (bytes_eq n y) (list_any (bytes_eq n) (part_names ps)) e).1

    module _ (vars : ℕ) where
      mutual
        unfolding Holds fits

        -- a value that is represented at a lawful type fits it
        pub holds_fits : (t : Tau) (us : List Scalar) (v : Val) → IsLawfulType vars t → Holds world h t us v → IsTrue (fits known t v)
        holds_fits (var n) us v l r = absurd r
        holds_fits (seen n) us v l r = absurd r
        holds_fits unit us v l r = subst (λ v. IsTrue (fits known unit v)) (sym r.1) refl
        holds_fits (word w) us v l r = subst (λ v. IsTrue (fits known (word w) v)) (sym r.2) (lt-ltb (first_number us) (2 ^ bits w) r.1)
        holds_fits bool us v l r = subst (λ v. IsTrue (fits known bool v)) (sym r.2) (lt-ltb (first_number us) 2 r.1)
        holds_fits (arrow a b) us v l r = instances_fit (first_number us) v a b r.1
        holds_fits (abs name args s) us v l r = stands_fits name args (h (first_address us)) v r.2
        holds_fits (variant ps) us v l r =
            subst (λ v. IsTrue (fits known (variant ps) v)) (sym r.5) (holds_at_fits ps (first_number us) (tail us) r.0 r.1 l.1 l.3 r.4)
        holds_fits (fields ps s) us v l r =
            subst (λ v. IsTrue (fits known (fields ps s) v)) (sym r.3) (holds_all_fits ps (inner h s us) r.0 l.2 r.2)

        -- fields
        pub holds_all_fits : (ps : Parts) (us : List Scalar) (vs : Vals) → AreLawfulParts vars ps → HoldsAll world h ps us vs → IsTrue (fits_fields known ps vs)
        holds_all_fits end us values.none l r = refl
        holds_all_fits end us (values.more v vs) l r = absurd r
        holds_all_fits (part name t taken ps) us values.none l r = absurd r
        holds_all_fits (part name t true ps) us (values.more v vs) l r =
            and_from (is_gone v) (fits_fields known ps vs) (subst (λ v. IsTrue (is_gone v)) (sym r.1) refl) (holds_all_fits ps (drop (slots t) us) vs l.1 r.2)
        holds_all_fits (part name t false ps) us (values.more v vs) l r =
            and_from (fits known t v) (fits_fields known ps vs) (holds_fits t (take (slots t) us) v l.0 r.1) (holds_all_fits ps (drop (slots t) us) vs l.1 r.2)

        -- an alternative, which is the first of its name since no other has it
        pub holds_at_fits : (ps : Parts) (i : ℕ) (us : List Scalar) (x : List ℕ) (v : Val) → AreApart (part_names ps) → AreLawfulParts vars ps
            → HoldsAt world h ps i us x v → IsTrue (fits_alternative known x ps v)
        holds_at_fits end i us x v a l r = absurd r
        holds_at_fits (part y t true ps) zero us x v a l r = absurd (let e = r.0 in cc)
        holds_at_fits (part y t false ps) zero us x v a l r = rw (r.1, name_self y) (holds_fits t (take (slots t) us) v l.0 r.2)
        holds_at_fits (part y t taken ps) (suc i) us x v a l r =
            rw (name_turned y x (name_is_there y ps i (drop (slots t) us) x v r a.0)) (holds_at_fits ps i (drop (slots t) us) x v a.1 l.1 r)
