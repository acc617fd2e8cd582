-- What scalars represent is what they are read as.
use Rattle.std.proofs.Common.{rules, ◌≡◌, ◌&&◌, ◌||◌, ℕ, zero, suc, Bool, true, false, not, IsTrue, List, [], ◌∷◌, codes, map, take, drop, refl, sym, ap, ◌∙◌}
use Rattle.std.specs.Str.{bytes_eq}
use Rattle.std.specs.declared.option.Option.{Option}
use Rattle.std.specs.declared.option.Option.TheVariants.{None, Some}
use Rattle.cg_base.specs.declared.kind.Sigil.{Sigil}
use Rattle.cg_base.specs.declared.kind.Sigil.TheVariants.{R, W, U}
use Rattle.cg_base.specs.Types.{Tau, var, seen, unit, word, bool, arrow, abs, variant, fields, Taus, none, more, Parts, end, part}
use Rattle.cg_heap.specs.declared.cell.Cell.{Cell}
use Rattle.cg_heap.specs.declared.cell.Cell.TheVariants.{Slots, Words, Answers}
use Rattle.cg_heap.specs.declared.cell.Scalar.{Scalar}
use Rattle.cg_heap.specs.declared.cell.Scalar.TheVariants.{Word}
use Rattle.cg_heap.specs.FirstOrder.{is_first_order, are_first_order}
use Rattle.cg_heap.specs.Readings.{abstract_at, alternative_at, fields_at, held_scalars, value_at, values_at}
use Rattle.cg_heap.specs.Reps.{Heap, HeapWorld, Holds, HoldsAll, HoldsAt, IsBoxed, StandsFor, first_address, first_number, inner, number_of, slots, tail}
use Rattle.cg_value.specs.Foreign.{is_plain_type}
use Rattle.cg_value.specs.Values as values
use Rattle.cg_value.specs.Values.{Val, Vals, chosen, elements, parts, to_vals}

numbers_again : (ns : List ℕ) → map number_of (map Word ns) ≡ ns
numbers_again [] = refl
numbers_again (n ∷ ns) = ap (λ l. n ∷ l) (numbers_again ns)

both_first : (a b : Bool) → IsTrue (a && b) → IsTrue a
both_first true b e = refl
both_first false b e = e

both_second : (a b : Bool) → IsTrue (a && b) → IsTrue b
both_second true b e = e
both_second false b e = absurd (search (rules, e))

first_alone : (a : Bool) → IsTrue (a || false) → IsTrue a
first_alone true e = refl
first_alone false e = e

not_both : (a b : Bool) → IsTrue a → IsTrue (not a && b) → ⊥
not_both true b e f = search (rules, f)
not_both false b e f = search (rules, e)

module _ (world : HeapWorld) where
  -- values of abstract types
  abstract_is : (name : List ℕ) (args : Taus) (sigil : Sigil) (o : Option Cell) (v : Val) → IsTrue (is_first_order (abs name args sigil)) → StandsFor world name args o v → abstract_at args o ≡ v
  unfolding is_plain_type
  abstract_is name none sigil None v d s = absurd s
  abstract_is name none sigil (Some (Slots ss)) v d s = absurd s
  abstract_is name none sigil (Some (Answers bs)) v d s = sym s.1
  abstract_is name none sigil (Some (Words ns)) v d s = absurd (not_both (bytes_eq name (codes "SysState")) (world.stands name ns v) (first_alone _ d) s)
  abstract_is name (more (word w) none) sigil None v d s = absurd s
  abstract_is name (more (word w) none) sigil (Some (Slots ss)) v d s = absurd s
  abstract_is name (more (word w) none) sigil (Some (Answers bs)) v d s = absurd s
  abstract_is name (more (word w) none) sigil (Some (Words ns)) v d s = ap elements (numbers_again ns) ∙ sym s.1
  abstract_is name (more (word w) (more t ts)) sigil o v d s = absurd (search rules)
  abstract_is name (more (var n) ts) sigil o v d s = absurd (search rules)
  abstract_is name (more (seen n) ts) sigil o v d s = absurd (search rules)
  abstract_is name (more unit ts) sigil o v d s = absurd (search rules)
  abstract_is name (more bool ts) sigil o v d s = absurd (search rules)
  abstract_is name (more (arrow a b) ts) sigil o v d s = absurd (search rules)
  abstract_is name (more (abs x us m) ts) sigil o v d s = absurd (search rules)
  abstract_is name (more (variant ps) ts) sigil o v d s = absurd (search rules)
  abstract_is name (more (fields ps m) ts) sigil o v d s = absurd (search rules)

  module _ (h : Heap) where
    -- where the fields of a record stand
    inner_is : (sigil : Sigil) (us : List Scalar) → IsBoxed h sigil us → fields_at h sigil us ≡ inner h sigil us
    inner_is U us b = refl
    inner_is R us b = ap held_scalars b.1
    inner_is W us b = ap held_scalars b.1

    mutual
      unfolding Holds value_at is_plain_type to_vals

      pub read_holds : (t : Tau) (us : List Scalar) (v : Val) → IsTrue (is_first_order t) → Holds world h t us v → value_at h t us ≡ v
      read_holds (var n) us v f r = absurd r
      read_holds (seen n) us v f r = absurd r
      read_holds unit us v f r = sym r.1
      read_holds (word w) us v f r = sym r.2
      read_holds bool us v f r = sym r.2
      read_holds (arrow a b) us v f r = absurd (search (rules, f))
      read_holds (abs name args sigil) us v f r = abstract_is name args sigil (h (first_address us)) v f r.2
      read_holds (variant ps) us v f r = alternative_holds ps (first_number us) (tail us) r.0 r.1 f r.4 ∙ sym r.5
      read_holds (fields ps sigil) us v f r =
          ap (λ l. parts (to_vals (values_at h ps l))) (inner_is sigil us r.1) ∙ ap parts (fields_hold ps (inner h sigil us) r.0 f r.2) ∙ sym r.3

      fields_hold : (ps : Parts) (us : List Scalar) (vs : Vals) → IsTrue (are_first_order ps) → HoldsAll world h ps us vs → to_vals (values_at h ps us) ≡ vs
      fields_hold end us values.none f r = refl
      fields_hold end us (values.more v vs) f r = absurd r
      fields_hold (part name t taken ps) us values.none f r = absurd (r)
      fields_hold (part name t true ps) us (values.more v vs) f r =
          cc (sym r.1, fields_hold ps (drop (slots t) us) vs (both_second (is_first_order t) (are_first_order ps) f) r.2)
      fields_hold (part name t false ps) us (values.more v vs) f r =
          cc (read_holds t (take (slots t) us) v (both_first (is_first_order t) (are_first_order ps) f) r.1, fields_hold ps (drop (slots t) us) vs (both_second (is_first_order t) (are_first_order ps) f) r.2)

      alternative_holds : (ps : Parts) (i : ℕ) (us : List Scalar) (x : List ℕ) (v : Val) → IsTrue (are_first_order ps) → HoldsAt world h ps i us x v → alternative_at h ps i us ≡ chosen x v
      alternative_holds end i us x v f r = absurd r
      alternative_holds (part name t taken ps) zero us x v f r =
          cc (sym r.1, read_holds t (take (slots t) us) v (both_first (is_first_order t) (are_first_order ps) f) r.2)
      alternative_holds (part name t taken ps) (suc i) us x v f r =
          alternative_holds ps i (drop (slots t) us) x v (both_second (is_first_order t) (are_first_order ps) f) r
