-- Each cell that is mentioned is there, and what is met in it is met where it is mentioned.
use Rattle.std.proofs.Common.{◌≡◌, ℕ, true, false, ◌&&◌, not, List, [], ◌∷◌, Option, Some, if◌then◌else◌}
use Rattle.std.specs.Str.{bytes_eq}
use Rattle.cg_base.specs.declared.kind.Sigil.TheVariants.{R, W, U}
use Rattle.cg_base.specs.declared.place.Place.{Place}
use Rattle.cg_base.specs.Types.{Tau, unit, word, bool, abs, variant, fields, Parts, end, part}
use Rattle.cg_value.specs.Printed.{is_tuple, is_unit}
use Rattle.cg_heaptext_def.specs.HeapText.{Mention, addresses, addresses_all, addresses_in}
use Rattle.cg_heaptext_def.specs.Reading.{Event, misfit, counted, mention, as_many, events, events_all, events_applied, events_bare, events_within, have_names, is_gone, is_record, misfit_cell, slot_values}
use Rattle.cg_heaptext_def.specs.Trees as written
use Rattle.cg_heaptext_def.specs.Trees.{amount, Written, numeral, truth, nothing, address, constant, applied, inside, tuple, record', Writtens, Fields, field, Cell, first, bare, listed, values_in, names_in}
use Rattle.cg_heaptext_laws.proofs.Each.{Each, each_both, each_if, each_left, each_right, each_then, if_then}
use Rattle.cg_heaptext_laws.proofs.Events.{Fits, IsPlain, plain_cell, plain_mark, plain_within}
use Rattle.cg_heaptext_laws.proofs.Shapes.{opened}

-- there is a cell
abbrev pub HasCell : Option Cell → Type 0
HasCell o = (c : Cell) × (o ≡ Some c)

module _ (cells : ℕ → Option Cell) where
  -- an address that is mentioned has a cell, and those in a value have
  abbrev pub IsThere : Mention → Type 0
  IsThere m = HasCell (cells (amount m.address))

  abbrev pub IsKnown : Written → Type 0
  IsKnown v = Each IsThere (addresses v)

  pub known_bare : (v : Written) → IsKnown v → IsKnown (bare v)
  known_bare (inside p v) k = known_bare v k
  known_bare v k = k

  known_listed : (vs : Writtens) → Each IsThere (addresses_all vs) → Each IsKnown (listed vs)
  known_listed written.none k = tt
  known_listed (written.more v vs) k = (each_left IsThere (addresses v) (addresses_all vs) k, known_listed vs (each_right IsThere (addresses v) (addresses_all vs) k))

  pub known_in : (fs : Fields) → Each IsThere (addresses_in fs) → Each IsKnown (values_in fs)
  known_in written.end k = tt
  known_in (field x v fs) k = (each_left IsThere (addresses v) (addresses_in fs) k, known_in fs (each_right IsThere (addresses v) (addresses_in fs) k))

  -- what is mentioned is there, and fits
  abbrev pub IsOpen : Event → Type 0
  IsOpen (misfit p) = Unit {0}
  IsOpen (counted n bound) = Unit {0}
  IsOpen (mention p q t) = HasCell (cells q) × Each Fits (opened cells t (cells q))

  plain_is_open : (e : Event) → IsPlain e → IsOpen e
  plain_is_open (misfit p) h = tt
  plain_is_open (counted n bound) h = tt
  plain_is_open (mention p q t) h = absurd h

  open_plain : (es : List Event) → Each IsPlain es → Each IsOpen es
  open_plain es h = each_then IsPlain IsOpen es plain_is_open h

  open_bare : (ps : Parts) (at : Place) (x : List ℕ) → Each IsOpen (events_bare cells ps at x)
  unfolding events
  open_bare end at x = (tt, tt)
  open_bare (part y t taken ps) at x =
      let here = if not taken && is_unit t then [] else misfit at ∷ [] in
      each_if IsOpen (bytes_eq x y) here (events_bare cells ps at x) (each_if IsOpen (not taken && is_unit t) [] (misfit at ∷ []) tt (tt, tt)) (open_bare ps at x)

  module _ (known_cells : (q : ℕ) → Each IsKnown (slot_values (cells q))) where
    mutual
      unfolding events

      -- in a value that fits a type and whose addresses have cells
      pub opens : (t : Tau) (at : Place) (v : Written) → IsKnown v → Each Fits (events cells t at v) → Each IsOpen (events cells t at v)
      opens unit at (nothing p) k f = tt
      opens (word w) at (numeral n) k f = (tt, tt)
      opens bool at (truth p b) k f = tt
      opens (abs name ts R) at (address p n) k f = ((k.0, f.1), open_plain (events_within name ts (cells (amount n))) (plain_within name ts (cells (amount n))))
      opens (abs name ts W) at (address p n) k f = ((k.0, f.1), open_plain (events_within name ts (cells (amount n))) (plain_within name ts (cells (amount n))))
      opens (variant ps) at (constant p x) k f = open_bare ps at x
      opens (variant ps) at (applied p x v) k f = opens_applied ps at x v k f
      opens (fields ps U) at (tuple p vs) k f =
          let xs = listed vs in
          if_then Fits IsOpen (is_tuple ps U && as_many ps xs) (events_all cells ps xs) (misfit at ∷ []) (λ g. opens_all ps xs (known_listed vs k) g) (λ g. absurd g.0) f
      opens (fields ps U) at (record' p fs) k f =
          let xs = values_in fs in
          if_then Fits IsOpen (have_names ps (names_in fs)) (events_all cells ps xs) (misfit at ∷ []) (λ g. opens_all ps xs (known_in fs k) g) (λ g. absurd g.0) f
      opens (fields ps R) at (address p n) k f = (
        (k.0, f.1),
        if_then Fits IsOpen (is_record ps (cells (amount n))) (events_all cells ps (slot_values (cells (amount n)))) (misfit_cell (cells (amount n)))
            (λ g. opens_all ps (slot_values (cells (amount n))) (known_cells (amount n)) g) (λ g. open_plain (misfit_cell (cells (amount n))) (plain_cell (cells (amount n)))) f.1,
      )
      opens (fields ps W) at (address p n) k f = (
        (k.0, f.1),
        if_then Fits IsOpen (is_record ps (cells (amount n))) (events_all cells ps (slot_values (cells (amount n)))) (misfit_cell (cells (amount n)))
            (λ g. opens_all ps (slot_values (cells (amount n))) (known_cells (amount n)) g) (λ g. open_plain (misfit_cell (cells (amount n))) (plain_cell (cells (amount n)))) f.1,
      )
      opens t at v k f = absurd f.0

      -- in fields
      opens_all : (ps : Parts) (vs : List Written) → Each IsKnown vs → Each Fits (events_all cells ps vs) → Each IsOpen (events_all cells ps vs)
      opens_all (part x t true ps) (v ∷ vs) k f =
          let here = if is_gone (bare v) then [] else misfit (first v) ∷ [] in
          let rest = opens_all ps vs k.1 (each_right Fits here (events_all cells ps vs) f) in
          each_both IsOpen here (events_all cells ps vs) (open_plain here (plain_mark (is_gone (bare v)) (first v))) rest
      opens_all (part x t false ps) (v ∷ vs) k f =
          let here = events cells t (first v) (bare v) in
          let one = opens t (first v) (bare v) (known_bare v k.0) (each_left Fits here (events_all cells ps vs) f) in
          let rest = opens_all ps vs k.1 (each_right Fits here (events_all cells ps vs) f) in
          each_both IsOpen here (events_all cells ps vs) one rest
      opens_all _ _ k f = tt

      -- in an alternative's payload
      opens_applied : (ps : Parts) (at : Place) (x : List ℕ) (v : Written) → IsKnown v → Each Fits (events_applied cells ps at x v)
          → Each IsOpen (events_applied cells ps at x v)
      opens_applied end at x v k f = absurd f.0
      opens_applied (part y t taken ps) at x v k f =
          if_then Fits IsOpen (bytes_eq x y) (if taken then misfit at ∷ [] else events cells t (first v) (bare v)) (events_applied cells ps at x v)
          (λ g. if_then Fits IsOpen taken (misfit at ∷ []) (events cells t (first v) (bare v)) (λ g. absurd g.0) (λ g. opens t (first v) (bare v) (known_bare v k) g) g)
          (λ g. opens_applied ps at x v k g) f
