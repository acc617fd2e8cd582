-- What scalars represent fits its type, over the instances of a source: so evaluation over their copies gives what evaluation gives.
use Rattle.std.proofs.Common.{◌≡◌, ℕ, zero, suc, ◌^◌, Bool, true, false, ◌&&◌, not, IsTrue, Option, Some, None, List, codes, map, take, drop, slice_get, refl, sym, ap, ◌∙◌, lt-ltb, subst as at, if◌then◌else◌}
use Rattle.std.proofs.lemmas.Bool.{and_from, and_parts, not-true}
use Rattle.std.proofs.lemmas.Option.{slice_get-map}
use Rattle.std.specs.Option.{option_map}
use Rattle.std.specs.Str.{bytes_eq}
use Rattle.cg_base.proofs.Sequences.{itself as name_self, same_unless}
use Rattle.cg_base.specs.Types as types
use Rattle.cg_base.specs.Types.{Tau, var, seen, unit, word, bool, arrow, abs, variant, fields, Taus, Parts, end, part}
use Rattle.cg_base.specs.Words.{bits}
use Rattle.cg_core_def.specs.Lawful.{AreApart, part_names}
use Rattle.cg_driver_laws.proofs.Instances.{IsFine, IsProperEntry, entry_proper, list_fine}
use Rattle.cg_driver_laws.proofs.Proper.{AreProperParts, IsProper}
use Rattle.cg_driver_laws.proofs.Apart.{none_named}
use Rattle.cg_driver_laws.proofs.Whole.{instances}
use Rattle.cg_driver_laws.specs.Laws.{program_over}
use Rattle.cg_eval_def.specs.Evaluation.{cost_of, evaluation}
use Rattle.cg_eval_def.specs.Foreigns.{is_instance, table_of}
use Rattle.cg_eval_laws.proofs.Mentions.{value_made}
use Rattle.cg_heap.specs.declared.cell.Cell.{Cell}
use Rattle.cg_heap.specs.declared.cell.Cell.TheVariants.{Words, Answers}
use Rattle.cg_heap.specs.declared.cell.Scalar.{Scalar}
use Rattle.cg_heap.specs.ForeignHeaps.{ForeignHeap}
use Rattle.cg_heap.specs.Reps.{Heap, HeapWorld, Holds, HoldsAll, HoldsAt, StandsFor, first_address, first_number, inner, slots, tail}
use Rattle.cg_inst.specs.Judged.{core_in, functions_in}
use Rattle.cg_inst.specs.Lists.{IsList}
use Rattle.cg_inst_laws.proofs.Bodies.{AreTyped, source_typed, tree_in}
use Rattle.cg_inst_laws.proofs.Each.{each_at}
use Rattle.cg_inst_laws.proofs.Sources.{instances_are_good}
use Rattle.cg_inst_laws.specs.Laws.{entry_of}
use Rattle.cg_mono_laws.proofs.Kept.{evaluation_is_kept}
use Rattle.cg_mono_laws.proofs.Listed.{is_found}
use Rattle.cg_mono_laws.specs.Laws.{copies_table, is_listed, world_over}
use Rattle.cg_typing.specs.declared.checked.Checked.{Checked}
use Rattle.cg_typing.specs.Holds.{cores_in, trees_in}
use Rattle.cg_typing.specs.Instances.{AreInstances, Entry, Instance}
use Rattle.cg_typing.specs.Kept.{AreKept, maybe_core, maybe_tree}
use Rattle.cg_typing.specs.Parts.{given_by, is_there, part_named, taken_by}
use Rattle.cg_update.specs.Calls.{Program}
use Rattle.cg_update_laws.specs.Laws.{value_of, world_among}
use Rattle.cg_value.specs.Fits.{World, fits, fits_abstract, fits_alternative, fits_fields, is_answers, is_array, is_gone}
use Rattle.cg_value.specs.Foreign.{Foreign, IsLawful}
use Rattle.cg_value.specs.Values as values
use Rattle.cg_value.specs.Values.{Val, Vals, function}

-- ---- what is represented fits

module _ (world : HeapWorld) (known : World) (instances_fit : (n : ℕ) (v : Val) (a b : Tau) → world.instance_at n ≡ Some (v, arrow a b) → IsTrue (fits known (arrow a b) v))
    (stands_holds : (name ns : List ℕ) (v : Val) → IsTrue (world.stands name ns v) → IsTrue (known.holds name v)) (h : Heap) where
  -- what a cell stands for fits the abstract type
  cell_fits : (name : List ℕ) (args : Taus) (o : Option Cell) (v : Val) → StandsFor world name args o v → IsTrue (fits_abstract known name args v)
  cell_fits name types.none (Some (Answers bs)) v r = rw r.0 (at (λ v. IsTrue (is_answers v)) (sym r.1) refl)
  cell_fits name types.none (Some (Words ns)) v r =
      let p = and_parts (not (bytes_eq name (codes "SysState"))) (world.stands name ns v) r in
      rw (not-true (bytes_eq name (codes "SysState")) p.0) (stands_holds name ns v p.1)
  cell_fits name (types.more (word w) types.none) (Some (Words ns)) v r = at (λ v. IsTrue (bytes_eq name (codes "WordArray") && is_array w v)) (sym r.1) r.0
  cell_fits name _ _ v r = absurd r

  -- an alternative that is held is there by its name
  held_there : (ps : Parts) (i : ℕ) (us : List Scalar) (x : List ℕ) (v : Val) → HoldsAt world h ps i us x v → is_there (part_named x ps) ≡ true
  unfolding Holds
  held_there end i us x v r = absurd r
  held_there (part y t taken ps) zero us x v r = ap (λ b. is_there (if b then Some (record { name = y; ty = t; taken = taken }) else part_named x ps)) (ap (λ z. bytes_eq z y) r.1 ∙ name_self y)
  held_there (part y t taken ps) (suc i) us x v r = either (bytes_eq x y) (held_there ps i (drop (slots t) us) x v r)
    where
      either : (b : Bool) → is_there (part_named x ps) ≡ true → is_there (if b then Some (record { name = y; ty = t; taken = taken }) else part_named x ps) ≡ true
      either true h = refl
      either false h = h

  -- so by no name that isn't there
  other_name : (x y : List ℕ) (ps : Parts) → is_there (part_named y ps) ≡ false → is_there (part_named x ps) ≡ true → bytes_eq x y ≡ false
  other_name x y ps free there = same_unless x y (λ e. absurd (let no = at (λ z. is_there (part_named z ps) ≡ false) (sym e) free in cc))

  mutual
    unfolding Holds fits

    pub held_fits : (t : Tau) (us : List Scalar) (v : Val) → IsProper t → Holds world h t us v → IsTrue (fits known t v)
    held_fits (var n) us v k r = absurd r
    held_fits (seen n) us v k r = absurd r
    held_fits unit us v k r = at (λ v. IsTrue (fits known unit v)) (sym r.1) refl
    held_fits (word w) us v k r = at (λ v. IsTrue (fits known (word w) v)) (sym r.2) (lt-ltb (first_number us) (2 ^ bits w) r.1)
    held_fits bool us v k r = at (λ v. IsTrue (fits known bool v)) (sym r.2) (lt-ltb (first_number us) 2 r.1)
    held_fits (arrow a b) us v k r = instances_fit (first_number us) v a b r.1
    held_fits (abs name args sigil) us v k r = cell_fits name args (h (first_address us)) v r.2
    held_fits (variant ps) us v k r = at (λ v. IsTrue (fits known (variant ps) v)) (sym r.5) (held_at ps (first_number us) (tail us) r.0 r.1 k.0 k.1 r.4)
    held_fits (fields ps sigil) us v k r = at (λ v. IsTrue (fits known (fields ps sigil) v)) (sym r.3) (held_all ps (inner h sigil us) r.0 k.1 r.2)

    held_all : (ps : Parts) (us : List Scalar) (vs : Vals) → AreProperParts ps → HoldsAll world h ps us vs → IsTrue (fits_fields known ps vs)
    held_all end us values.none k r = refl
    held_all end us (values.more v vs) k r = absurd r
    held_all (part name t taken ps) us values.none k r = absurd r
    held_all (part name t true ps) us (values.more v vs) k r =
        and_from (is_gone v) (fits_fields known ps vs) (at (λ v. IsTrue (is_gone v)) (sym r.1) refl) (held_all ps (drop (slots t) us) vs k.1 r.2)
    held_all (part name t false ps) us (values.more v vs) k r =
        and_from (fits known t v) (fits_fields known ps vs) (held_fits t (take (slots t) us) v k.0 r.1) (held_all ps (drop (slots t) us) vs k.1 r.2)

    held_at : (ps : Parts) (i : ℕ) (us : List Scalar) (x : List ℕ) (v : Val) → AreApart (part_names ps) → AreProperParts ps → HoldsAt world h ps i us x v
        → IsTrue (fits_alternative known x ps v)
    held_at end i us x v d k r = absurd r
    held_at (part y t taken ps) zero us x v d k r =
        at (λ b. IsTrue (if b then not taken && fits known t v else fits_alternative known x ps v)) (sym (ap (λ z. bytes_eq z y) r.1 ∙ name_self y))
        (and_from (not taken) (fits known t v) (ap not r.0) (held_fits t (take (slots t) us) v k.0 r.2))
    held_at (part y t taken ps) (suc i) us x v d k r =
        at (λ b. IsTrue (if b then not taken && fits known t v else fits_alternative known x ps v)) (sym (other_name x y ps (none_named y ps d.0) (held_there ps i (drop (slots t) us) x v r)))
        (held_at ps i (drop (slots t) us) x v d.1 k.1 r)

-- ---- instances of a source

-- the value and the type of what may be there
abbrev value_in : Val → Option (Val × Tau) → Val
value_in d None = d
value_in d (Some r) = r.0

abbrev type_in : Tau → Option (Val × Tau) → Tau
type_in d None = d
type_in d (Some r) = r.1

module _ (foreign : Foreign) (heaps : ForeignHeap) (lawful : IsLawful foreign) (checked : Checked) (list : List Instance)
    (kept : AreKept (functions_in checked) (functions_in checked) (map maybe_core (cores_in checked)) (map maybe_tree (trees_in checked)))
    (is : IsList (functions_in checked) (core_in checked) list) where
  abbrev entry : Instance → Entry
  entry = entry_of (functions_in checked) (core_in checked)

  abbrev program : Program
  program = program_over foreign heaps (functions_in checked) (core_in checked) list

  pub derived : AreInstances (functions_in checked) list (map entry list)
  derived = instances checked list is kept

  pub entered : (k : ℕ) (x : Instance) → slice_get list k ≡ Some x → slice_get (map entry list) k ≡ Some (entry x)
  entered k x here = slice_get-map entry list k ∙ ap (option_map entry) here

  -- the types of what it comes to are proper
  pub is_proper : (k : ℕ) (x : Instance) → slice_get list k ≡ Some x → IsProperEntry (entry x)
  is_proper k x here =
      let typed : AreTyped (functions_in checked) (core_in checked) (tree_in checked) = source_typed checked kept in
      entry_proper (functions_in checked) (core_in checked) (tree_in checked) typed x
      (each_at (IsFine (functions_in checked) (core_in checked) (tree_in checked) typed) list k x (list_fine (functions_in checked) (core_in checked) (tree_in checked) typed list is) here)

  -- its type is an arrow
  arrow_is : (k : ℕ) (x : Instance) → slice_get list k ≡ Some x → (entry x).ty ≡ arrow (taken_by (entry x).ty) (given_by (entry x).ty)
  arrow_is k x here = let e = derived.each k x (entry x) here (entered k x here) in e.is_arrow ∙ sym (ap (λ z. arrow (taken_by z) (given_by z)) e.is_arrow)

  -- from a proper one
  argument_proper : (k : ℕ) (x : Instance) → slice_get list k ≡ Some x → IsProper (taken_by (entry x).ty)
  argument_proper k x here = let both : IsProper (taken_by (entry x).ty) × IsProper (given_by (entry x).ty) = at IsProper (arrow_is k x here) (is_proper k x here).ty in both.0

  -- an instance of the list is a value of its type
  instance_fits : (k : ℕ) (x : Instance) (e : Entry) (a b : Tau) → slice_get list k ≡ Some x → slice_get (map entry list) k ≡ Some e → e.ty ≡ arrow a b
      → IsTrue (fits (world_over foreign (functions_in checked) list) (arrow a b) (function x.fun x.types))
  unfolding fits
  instance_fits k x e a b here there ty =
      let good = instances_are_good checked list is k x here in
      and_from (is_instance (functions_in checked) x.fun x.types (arrow a b)) (is_listed list x.fun x.types)
      (value_made (functions_in checked) x.fun x.types (arrow a b)
      (record { many = good.many; closed = good.closed; good = good.good; is = (derived.each k x e here there).is ∙ ap Some ty })) (is_found list k x here)

  module _ (among : ℕ → Bool) where
    -- and so is what stands for one on a heap
    among_fits : (k : ℕ) (v : Val) (a b : Tau) → (world_among program among).instance_at k ≡ Some (v, arrow a b)
        → IsTrue (fits (world_over foreign (functions_in checked) list) (arrow a b) v)
    among_fits k v a b = go (among k) (slice_get list k) (slice_get (map entry list) k) refl refl
      where
        go : (q : Bool) (o : Option Instance) (u : Option Entry) → slice_get list k ≡ o → slice_get (map entry list) k ≡ u → (if q then value_of o u else None) ≡ Some (v, arrow a b)
            → IsTrue (fits (world_over foreign (functions_in checked) list) (arrow a b) v)
        go true (Some x) (Some e) here there is_this =
            let value : function x.fun x.types ≡ v = ap (value_in v) is_this in
            let ty : e.ty ≡ arrow a b = ap (type_in e.ty) is_this in
            at (λ v. IsTrue (fits (world_over foreign (functions_in checked) list) (arrow a b) v)) value (instance_fits k x e a b here there ty)
        go true (Some x) None here there is_this = absurd (cc)
        go true None u here there is_this = absurd (cc)
        go false o u here there is_this = absurd (cc)

    -- what stands for a value of an abstract type is one that the table's type holds
    owned : (name ns : List ℕ) (v : Val) → IsTrue ((world_among program among).stands name ns v) → IsTrue ((world_over foreign (functions_in checked) list).holds name v)
    owned name ns v stands = (and_parts (foreign.owns name && foreign.holds name v) (heaps.stands name ns v) stands).0

    -- an argument of an instance fits what it takes
    argument_fits : (h : Heap) (k : ℕ) (x : Instance) (us : List Scalar) (v : Val) → slice_get list k ≡ Some x → Holds (world_among program among) h (taken_by (entry x).ty) us v
        → IsTrue (fits (world_over foreign (functions_in checked) list) (taken_by (entry x).ty) v)
    argument_fits h k x us v here holds =
        held_fits (world_among program among) (world_over foreign (functions_in checked) list) among_fits owned h (taken_by (entry x).ty) us v
        (argument_proper k x here) holds

    -- evaluation over the copies
    pub over_copies : (h : Heap) (place n k : ℕ) (x : Instance) (us : List Scalar) (v w : Val) → slice_get list place ≡ Some x
        → Holds (world_among program among) h (taken_by (entry x).ty) us v → evaluation (table_of foreign checked) n (function x.fun x.types) v ≡ Some (w, k)
        → evaluation (copies_table foreign (functions_in checked) list (map entry list)) n (function x.fun x.types) v ≡ Some (w, k)
    unfolding evaluation
    over_copies h place n k x us v w here holds gives =
        ap (cost_of (copies_table foreign (functions_in checked) list (map entry list)) n)
        (evaluation_is_kept foreign lawful checked list is (taken_by (entry x).ty) (given_by (entry x).ty) (function x.fun x.types) v n
        (instance_fits place x (entry x) (taken_by (entry x).ty) (given_by (entry x).ty) here (entered place x here) (arrow_is place x here)) (argument_fits h place x us v here holds)).same
        ∙ gives
