-- Addresses that are mentioned have cells.
use Rattle.std.proofs.Common.{◌≡◌, ℕ, suc, true, false, nat_eq, List, [], ◌∷◌, ◌++◌, Option, Some, None, if◌then◌else◌, refl, subst}
use Rattle.std.specs.List.{flat_map}
use Rattle.std.specs.Prelude.{slice_get}
use Rattle.cg_base.proofs.Options.{some_is}
use Rattle.cg_heaptext_def.specs.HeapText.{IsAbsent, Mention, Never, addresses, addresses_all, addresses_in, cell_among, cells_of, mentioned_in, mentions}
use Rattle.cg_heaptext_def.specs.Trees as written
use Rattle.cg_heaptext_def.specs.Trees.{Cell, Entry, Fields, Heap, Written, Writtens, amount, bare, field, inside, listed, slots, values_in}
use Rattle.cg_heaptext_judge.specs.Values.{AllThere}
use Rattle.cg_heaptext_judge_steps.specs.Sources.{AreThere}

module _ (h : Heap) where
  there_left : (ms ns : List Mention) → AreThere h (ms ++ ns) → AreThere h ms
  there_left [] ns t = tt
  there_left (m ∷ ms) ns t = (t.0, there_left ms ns t.1)

  there_right : (ms ns : List Mention) → AreThere h (ms ++ ns) → AreThere h ns
  there_right [] ns t = t
  there_right (m ∷ ms) ns t = there_right ms ns t.1

  -- ---- in values

  pub bare_there : (v : Written) → AreThere h (addresses v) → AreThere h (addresses (bare v))
  bare_there (inside p v) t = bare_there v t
  bare_there v t = t

  pub listed_there : (vs : Writtens) → AreThere h (addresses_all vs) → AllThere h (listed vs)
  listed_there written.none t = tt
  listed_there (written.more v vs) t = (there_left (addresses v) (addresses_all vs) t, listed_there vs (there_right (addresses v) (addresses_all vs) t))

  pub fields_there : (fs : Fields) → AreThere h (addresses_in fs) → AllThere h (values_in fs)
  fields_there written.end t = tt
  fields_there (field x v fs) t = (there_left (addresses v) (addresses_in fs) t, fields_there fs (there_right (addresses v) (addresses_in fs) t))

  -- ---- where no address that is mentioned is without an entry

  module _ (never : Never (IsAbsent h)) where
    cell_or_none : (m : Mention) (i : ℕ) → slice_get (mentions h) i ≡ Some m → (o : Option Cell) → cells_of h (amount m.address) ≡ o → (c : Cell) × (cells_of h (amount m.address) ≡ Some c)
    cell_or_none m i there (Some c) e = (c, e)
    cell_or_none m i there None e = absurd (never m.place (record { i = i; mention = m; there = there; absent = e; at = refl }))

    there_from : (ms : List Mention) → ((i : ℕ) (m : Mention) → slice_get ms i ≡ Some m → (c : Cell) × (cells_of h (amount m.address) ≡ Some c)) → AreThere h ms
    there_from [] f = tt
    there_from (m ∷ ms) f = (f 0 m refl, there_from ms (λ i n e. f (suc i) n e))

    all_there : AreThere h (mentions h)
    all_there = there_from (mentions h) (λ i m e. cell_or_none m i e (cells_of h (amount m.address)) refl)

    pub argument_there : AreThere h (addresses (bare h.argument))
    argument_there = bare_there h.argument (there_right (flat_map (λ (e : Entry). mentioned_in e.cell) h.entries) (addresses h.argument) all_there)

    among_there : (es : List Entry) (q : ℕ) (c : Cell) → cell_among es q ≡ Some c → AreThere h (flat_map (λ (e : Entry). mentioned_in e.cell) es) → AreThere h (mentioned_in c)
    among_there [] q c e t = absurd (cc)
    among_there (x ∷ es) q c e t =
        let others = flat_map (λ (e : Entry). mentioned_in e.cell) es in
        elim (nat_eq (amount x.address) q) as (λ b. (if b then Some x.cell else cell_among es q) ≡ Some c → AreThere h (mentioned_in c)) [
          | true ↦ λ e. subst (λ c. AreThere h (mentioned_in c)) (some_is x.cell c e) (there_left (mentioned_in x.cell) others t)
          | false ↦ λ e. among_there es q c e (there_right (mentioned_in x.cell) others t)
        ] e

    pub cell_there : (q : ℕ) (c : Cell) → cells_of h q ≡ Some c → AreThere h (mentioned_in c)
    cell_there q c e = among_there h.entries q c e (there_left (flat_map (λ (e : Entry). mentioned_in e.cell) h.entries) (addresses h.argument) all_there)
