-- What fits types of the same shape lies the same in memory.
use Rattle.std.proofs.Common.{◌≡◌, ℕ, zero, suc, ◌+◌, true, false, ◌&&◌, List, [], ◌∷◌, ◌++◌, map, replicate, Option, Some, if◌then◌else◌, refl, sym, ap, ◌∙◌}
use Rattle.std.specs.Str.{bytes_eq}
use Rattle.cg_base.specs.declared.kind.Sigil.{Sigil}
use Rattle.cg_base.specs.declared.kind.Sigil.TheVariants.{R, W, U}
use Rattle.cg_base.specs.declared.place.Place.{Place}
use Rattle.cg_base.specs.Types.{Tau, var, seen, unit, word, bool, arrow, abs, variant, fields, Taus, Parts, end, part}
use Rattle.cg_heap.specs.declared.cell.Cell.{Cell as Held}
use Rattle.cg_heap.specs.declared.cell.Cell.TheVariants.{Slots, Words, Answers}
use Rattle.cg_heap.specs.declared.cell.Scalar.{Scalar}
use Rattle.cg_heap.specs.declared.cell.Scalar.TheVariants.{Unset, Word}
use Rattle.cg_heap.specs.Reps.{slots, slots_of_parts}
use Rattle.cg_kinds.specs.Shapes.{shape, shape_all, shape_parts, shape_sigil}
use Rattle.cg_value.specs.Printed.{is_tuple}
use Rattle.cg_heaptext_def.specs.Reading.{Event, misfit, as_many, events, events_all, events_applied, events_within, have_names, held_at, is_gone, is_record, loose_fields, misfit_cell, scalars, scalars_all, scalars_applied, scalars_bare, skipped, slot_values}
use Rattle.cg_heaptext_def.specs.Trees as written
use Rattle.cg_heaptext_def.specs.Trees.{amount, Written, gone, address, constant, applied, tuple, record', Cell, elements, answers, first, bare, listed, values_in, names_in}
use Rattle.cg_heaptext_laws.proofs.Each.{Each, each_false, each_left, each_right, each_true}
use Rattle.cg_heaptext_laws.proofs.Events.{Fits}

-- ---- slots are those of the shape

mutual
  unfolding shape slots

  slots_same : (t : Tau) → slots t ≡ slots (shape t)
  slots_same (var n) = refl
  slots_same (seen n) = refl
  slots_same unit = refl
  slots_same (word w) = refl
  slots_same bool = refl
  slots_same (arrow a b) = refl
  slots_same (abs name ts s) = refl
  slots_same (variant ps) = ap (λ n. n + 1) (parts_same ps)
  slots_same (fields ps U) = parts_same ps
  slots_same (fields ps R) = refl
  slots_same (fields ps W) = refl

  parts_same : (ps : Parts) → slots_of_parts ps ≡ slots_of_parts (shape_parts ps)
  parts_same end = refl
  parts_same (part x t taken ps) = let e = slots_same t in let f = parts_same ps in λ k. e k + f k

bare_same : (ps : Parts) (i : ℕ) (x : List ℕ) → scalars_bare ps i x ≡ scalars_bare (shape_parts ps) i x
unfolding shape scalars
bare_same end i x = refl
bare_same (part y t taken ps) i x =
    let m = parts_same ps in let n = slots_same t in let e = bare_same ps (suc i) x in
    λ k. if bytes_eq x y then Word i ∷ Word 0 ∷ replicate (m k) Unset else skipped (e k) (n k)

-- ---- where a value lies at a shape: what is `_` is unset, and no field is taken else

unfoldable mutual
  lain : Tau → Written → List Scalar
  lain (variant ps) (applied p x v) = lain_applied ps zero x v
  lain (fields ps U) (tuple p vs) = lain_all ps (listed vs)
  lain (fields ps U) (record' p fs) = lain_all ps (values_in fs)
  lain t v = scalars t v

  lain_all : Parts → List Written → List Scalar
  lain_all (part x t taken ps) (v ∷ vs) = (if is_gone (bare v) then replicate (slots t) Unset else lain t (bare v)) ++ lain_all ps vs
  lain_all _ _ = []

  lain_applied : Parts → ℕ → List ℕ → Written → List Scalar
  lain_applied end i x v = []
  lain_applied (part y t taken ps) i x v = if bytes_eq x y then Word i ∷ (lain t (bare v) ++ replicate (slots_of_parts ps) Unset) else skipped (lain_applied ps (suc i) x v) (slots t)

-- an abstract type has no part in how its address lies
address_same : (name : List ℕ) (ts ts' : Taus) (s s' : Sigil) (v : Written) → scalars (abs name ts s) v ≡ scalars (abs name ts' s') v
unfolding scalars
address_same name ts ts' s s' (address p n) = refl
address_same name ts ts' s s' v = refl

module _ (cells : ℕ → Option Cell) where
  -- `_` fits no type
  never_gone : (t : Tau) (at p : Place) → Each Fits (events cells t at (gone p)) → ⊥
  unfolding events
  never_gone (abs name ts R) at p f = f.0
  never_gone (fields ps R) at p f = f.0
  never_gone t at p f = f.0

  present : (t : Tau) (at : Place) (v : Written) → Each Fits (events cells t at v) → is_gone v ≡ false
  present t at (gone p) f = absurd (never_gone t at p f)
  present t at v f = refl

  mutual
    unfolding events scalars shape lain slots

    -- what fits a type lies as it does at its shape
    lies : (t : Tau) (at : Place) (v : Written) → Each Fits (events cells t at v) → scalars t v ≡ lain (shape t) v
    lies (var n) at v f = refl
    lies (seen n) at v f = refl
    lies unit at v f = refl
    lies (word w) at v f = refl
    lies bool at v f = refl
    lies (arrow a b) at v f = refl
    lies (abs name ts s) at v f = address_same name ts (shape_all ts) s (shape_sigil s) v
    lies (variant ps) at (constant p x) f = bare_same ps zero x
    lies (variant ps) at (applied p x v) f = lies_applied ps at zero x v f
    lies (fields ps U) at (tuple p vs) f = lies_all ps (listed vs) (each_true Fits (is_tuple ps U && as_many ps (listed vs)) _ (misfit at ∷ []) (λ g. g.0) f).1
    lies (fields ps U) at (record' p fs) f = lies_all ps (values_in fs) (each_true Fits (have_names ps (names_in fs)) _ (misfit at ∷ []) (λ g. g.0) f).1
    lies (fields ps R) at (address p n) f = refl
    lies (fields ps W) at (address p n) f = refl
    lies t at v f = absurd f.0

    lies_all : (ps : Parts) (vs : List Written) → Each Fits (events_all cells ps vs) → scalars_all ps vs ≡ lain_all (shape_parts ps) vs
    lies_all end vs f = refl
    lies_all (part x t true ps) [] f = refl
    lies_all (part x t false ps) [] f = refl
    lies_all (part x t true ps) (v ∷ vs) f =
        let mark = if is_gone (bare v) then [] else misfit (first v) ∷ [] in
        let is : true ≡ is_gone (bare v) = sym (each_true Fits (is_gone (bare v)) [] (misfit (first v) ∷ []) (λ g. g.0) (each_left Fits mark (events_all cells ps vs) f)).0 in
        let n = slots_same t in
        let e = lies_all ps vs (each_right Fits mark (events_all cells ps vs) f) in
        λ k. (if is k then replicate (n k) Unset else lain (shape t) (bare v)) ++ e k
    lies_all (part x t false ps) (v ∷ vs) f =
        let here = each_left Fits (events cells t (first v) (bare v)) (events_all cells ps vs) f in
        let is : false ≡ is_gone (bare v) = sym (present t (first v) (bare v) here) in
        let d = lies t (first v) (bare v) here in
        let e = lies_all ps vs (each_right Fits (events cells t (first v) (bare v)) (events_all cells ps vs) f) in
        λ k. (if is k then replicate (slots (shape t)) Unset else d k) ++ e k

    lies_applied : (ps : Parts) (at : Place) (i : ℕ) (x : List ℕ) (v : Written) → Each Fits (events_applied cells ps at x v)
        → scalars_applied ps i x v ≡ lain_applied (shape_parts ps) i x v
    lies_applied end at i x v f = refl
    lies_applied (part y t taken ps) at i x v f =
        elim (bytes_eq x y) as (λ b. Each Fits (if b then (if taken then misfit at ∷ [] else events cells t (first v) (bare v)) else events_applied cells ps at x v)
        → (if b then Word i ∷ (scalars t (bare v) ++ replicate (slots_of_parts ps) Unset) else skipped (scalars_applied ps (suc i) x v) (slots t))
        ≡ (if b then Word i ∷ (lain (shape t) (bare v) ++ replicate (slots_of_parts (shape_parts ps)) Unset)
        else skipped (lain_applied (shape_parts ps) (suc i) x v) (slots (shape t)))) [
          | true ↦ λ f.
              let d = lies t (first v) (bare v) (each_false Fits taken (misfit at ∷ []) (events cells t (first v) (bare v)) (λ g. g.0) f).1 in
              let m = parts_same ps in
              λ k. Word i ∷ (d k ++ replicate (m k) Unset)
          | false ↦ λ f. let e = lies_applied ps at (suc i) x v f in let n = slots_same t in λ k. skipped (e k) (n k)
        ] f

  -- ---- cells

  -- what is met in a cell that is mentioned at a type, behind the mention
  abbrev pub opened : Tau → Option Cell → List Event
  opened (abs name ts s) o = events_within name ts o
  opened (fields ps s) o = if is_record ps o then events_all cells ps (slot_values o) else misfit_cell o
  opened _ o = []

-- what a cell holds that is read at a shape
abbrev lain_at : Tau → Cell → Held
lain_at (fields ps s) (written.slots p fs) = Slots (lain_all ps (values_in fs))
lain_at t (written.slots p fs) = Slots (loose_fields fs)
lain_at t (elements p ns) = Words (map amount ns)
lain_at t (answers p bs) = Answers bs

module _ (cells : ℕ → Option Cell) where
  cell_lies : (t : Tau) (c : Cell) → Each Fits (opened cells t (Some c)) → held_at (Some t) c ≡ lain_at (shape t) c
  unfolding shape
  cell_lies (fields ps s) (written.slots p fs) f =
      ap Slots (lies_all cells ps (values_in fs) (each_true Fits (is_record ps (Some (written.slots p fs))) _ (misfit p ∷ []) (λ g. g.0) f).1)
  cell_lies t (written.slots p fs) f = refl
  cell_lies t (elements p ns) f = refl
  cell_lies t (answers p bs) f = refl

  -- a cell that fits two types of the same shape holds the same at both
  pub cell_same : (s t : Tau) (c : Cell) → shape s ≡ shape t → Each Fits (opened cells s (Some c)) → Each Fits (opened cells t (Some c))
      → held_at (Some s) c ≡ held_at (Some t) c
  cell_same s t c e f g = cell_lies s c f ∙ ap (λ u. lain_at u c) e ∙ sym (cell_lies t c g)
