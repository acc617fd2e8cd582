-- Each mention is at the type of a cell, which is no larger than the whole type, and what is met in the cell is met where it is mentioned.
use Rattle.std.proofs.Common.{◌≡◌, ℕ, ◌≤◌, true, false, ◌&&◌, not, nat_eq, List, [], ◌∷◌, Option, Some, if◌then◌else◌, refl, subst, arith, eqb-true}
use Rattle.std.specs.Str.{bytes_eq}
use Rattle.cg_base.proofs.Options.{some_is}
use Rattle.cg_base.specs.declared.kind.Sigil.TheVariants.{R, W, U}
use Rattle.cg_base.specs.declared.place.Place.{Place}
use Rattle.cg_base.specs.Types.{Tau, unit, word, bool, abs, variant, fields, Taus, Parts, end, part}
use Rattle.cg_typing.specs.Parts.{nodes, nodes_parts}
use Rattle.cg_value.specs.Printed.{is_tuple, is_unit}
use Rattle.cg_heaptext_def.specs.HeapText.{type_among}
use Rattle.cg_heaptext_def.specs.Reading.{Event, misfit, counted, mention, as_many, events, events_all, events_applied, events_bare, events_within, have_names, is_gone, is_record, misfit_cell, slot_values}
use Rattle.cg_heaptext_def.specs.Trees.{amount, Written, numeral, truth, nothing, address, constant, applied, tuple, record', Cell, first, bare, listed, values_in, names_in}
use Rattle.cg_heaptext_laws.proofs.Each.{Each, each_both, each_if, each_left, each_right, each_then, if_then}
use Rattle.cg_heaptext_laws.proofs.Events.{IsPlain, plain_cell, plain_mark, plain_within}
use Rattle.cg_heaptext_laws.proofs.Shapes.{opened}
use Rattle.cg_heaptext_laws.proofs.SmallValues.{IsNarrow}

-- the type of a cell: an abstract one, or a record with no more nodes in its parts than a type may have
abbrev pub IsSized : Tau → Type 0
IsSized (abs name ts s) = Unit {0}
IsSized (fields ps s) = nodes_parts ps ≤ 1024
IsSized _ = ⊥

module _ (cells : ℕ → Option Cell) where
  -- what is mentioned is of such a type, and what is met in it is narrow
  abbrev pub IsRead : Event → Type 0
  IsRead (misfit p) = Unit {0}
  IsRead (counted n bound) = Unit {0}
  IsRead (mention p q t) = IsSized t × Each IsNarrow (opened cells t (cells q))

  -- ---- where nothing is mentioned

  plain_is_read : (e : Event) → IsPlain e → IsRead e
  plain_is_read (misfit p) h = tt
  plain_is_read (counted n bound) h = tt
  plain_is_read (mention p q t) h = absurd h

  read_plain : (es : List Event) → Each IsPlain es → Each IsRead es
  read_plain es h = each_then IsPlain IsRead es plain_is_read h

  read_within : (name : List ℕ) (ts : Taus) (o : Option Cell) → Each IsRead (events_within name ts o)
  read_within name ts o = read_plain (events_within name ts o) (plain_within name ts o)

  read_bare : (ps : Parts) (at : Place) (x : List ℕ) → Each IsRead (events_bare cells ps at x)
  unfolding events
  read_bare end at x = (tt, tt)
  read_bare (part y t taken ps) at x =
      let here = if not taken && is_unit t then [] else misfit at ∷ [] in
      each_if IsRead (bytes_eq x y) here (events_bare cells ps at x) (each_if IsRead (not taken && is_unit t) [] (misfit at ∷ []) tt (tt, tt)) (read_bare ps at x)

  -- in the cell of a record, where that is so of its fields
  read_boxed : (ps : Parts) (o : Option Cell) → (Each IsNarrow (events_all cells ps (slot_values o)) → Each IsRead (events_all cells ps (slot_values o)))
      → Each IsNarrow (if is_record ps o then events_all cells ps (slot_values o) else misfit_cell o)
      → Each IsRead (if is_record ps o then events_all cells ps (slot_values o) else misfit_cell o)
  read_boxed ps o all f =
      if_then IsNarrow IsRead (is_record ps o) (events_all cells ps (slot_values o)) (misfit_cell o) all (λ g. read_plain (misfit_cell o) (plain_cell o)) f

  -- ---- in a value of which all that is met is narrow

  mutual
    unfolding events

    pub reads : (t : Tau) (at : Place) (v : Written) → nodes t ≤ 1024 → Each IsNarrow (events cells t at v) → Each IsRead (events cells t at v)
    reads unit at (nothing p) h f = tt
    reads (word w) at (numeral n) h f = (tt, tt)
    reads bool at (truth p b) h f = tt
    reads (abs name ts R) at (address p n) h f = ((tt, f.1), read_within name ts (cells (amount n)))
    reads (abs name ts W) at (address p n) h f = ((tt, f.1), read_within name ts (cells (amount n)))
    reads (variant ps) at (constant p x) h f = read_bare ps at x
    reads (variant ps) at (applied p x v) h f = reads_applied ps at x v (omega arith) f
    reads (fields ps U) at (tuple p vs) h f =
        let xs = listed vs in
        if_then IsNarrow IsRead (is_tuple ps U && as_many ps xs) (events_all cells ps xs) (misfit at ∷ []) (λ g. reads_all ps xs (omega arith) g) (λ g. absurd g.0) f
    reads (fields ps U) at (record' p fs) h f =
        let xs = values_in fs in
        if_then IsNarrow IsRead (have_names ps (names_in fs)) (events_all cells ps xs) (misfit at ∷ []) (λ g. reads_all ps xs (omega arith) g) (λ g. absurd g.0) f
    reads (fields ps R) at (address p n) h f =
        let o = cells (amount n) in
        ((omega arith, f.1), read_boxed ps o (λ g. reads_all ps (slot_values o) (omega arith) g) f.1)
    reads (fields ps W) at (address p n) h f =
        let o = cells (amount n) in
        ((omega arith, f.1), read_boxed ps o (λ g. reads_all ps (slot_values o) (omega arith) g) f.1)
    reads t at v h f = absurd f.0

    -- in fields
    reads_all : (ps : Parts) (vs : List Written) → nodes_parts ps ≤ 1024 → Each IsNarrow (events_all cells ps vs) → Each IsRead (events_all cells ps vs)
    reads_all (part x t true ps) (v ∷ vs) h f =
        let here = if is_gone (bare v) then [] else misfit (first v) ∷ [] in
        let rest = reads_all ps vs (omega arith) (each_right IsNarrow here (events_all cells ps vs) f) in
        each_both IsRead here (events_all cells ps vs) (read_plain here (plain_mark (is_gone (bare v)) (first v))) rest
    reads_all (part x t false ps) (v ∷ vs) h f =
        let here = events cells t (first v) (bare v) in
        let one = reads t (first v) (bare v) (omega arith) (each_left IsNarrow here (events_all cells ps vs) f) in
        let rest = reads_all ps vs (omega arith) (each_right IsNarrow here (events_all cells ps vs) f) in
        each_both IsRead here (events_all cells ps vs) one rest
    reads_all _ _ h f = tt

    -- in an alternative's payload
    reads_applied : (ps : Parts) (at : Place) (x : List ℕ) (v : Written) → nodes_parts ps ≤ 1024 → Each IsNarrow (events_applied cells ps at x v)
        → Each IsRead (events_applied cells ps at x v)
    reads_applied end at x v h f = absurd f.0
    reads_applied (part y t taken ps) at x v h f =
        let here = events cells t (first v) (bare v) in
        if_then IsNarrow IsRead (bytes_eq x y) (if taken then misfit at ∷ [] else here) (events_applied cells ps at x v)
        (λ g. if_then IsNarrow IsRead taken (misfit at ∷ []) here (λ g. absurd g.0) (λ g. reads t (first v) (bare v) (omega arith) g) g)
        (λ g. reads_applied ps at x v (omega arith) g) f

  -- what is read first at a type is mentioned at it
  pub first_is_read : (es : List Event) (q : ℕ) (s : Tau) → Each IsRead es → type_among es q ≡ Some s → IsSized s × Each IsNarrow (opened cells s (cells q))
  first_is_read [] q s h e = absurd (cc)
  first_is_read (misfit p ∷ es) q s h e = first_is_read es q s h.1 e
  first_is_read (counted n bound ∷ es) q s h e = first_is_read es q s h.1 e
  first_is_read (mention p r t ∷ es) q s h e =
      elim (nat_eq r q) as (λ b. nat_eq r q ≡ b → (if b then Some t else type_among es q) ≡ Some s → IsSized s × Each IsNarrow (opened cells s (cells q))) [
        | true ↦ λ at e.
            let here = subst (λ t. IsSized t × Each IsNarrow (opened cells t (cells r))) (some_is t s e) h.0 in
            (here.0, subst (λ q. Each IsNarrow (opened cells s (cells q))) (eqb-true r q at) here.1)
        | false ↦ λ at e. first_is_read es q s h.1 e
      ] refl e
