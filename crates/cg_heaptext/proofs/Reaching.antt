-- The addresses of cells that are mentioned, and the types of the first mentions.
use Rattle.std.proofs.Common.{◌≡◌, ℕ, zero, suc, ◌+◌, ◌<◌, ◌≤◌, ◌≢◌, ◌⊎◌, inl, inr, true, false, List, [], ◌∷◌, map, refl, sym, ap, ◌∙◌, subst, arith}
use Rattle.std.proofs.Math.Nat.{eq-or-lt_of_le}
use Rattle.std.proofs.lemmas.Bool.{cases_lt, eq-eqb, eqb-false, eqb-true, ne_eqb}
use Rattle.std.proofs.lemmas.Option.{slice_get-map}
use Rattle.std.specs.Option.{option_map}
use Rattle.std.specs.Prelude.{nat_eq, slice_get, Option, Some, None, if◌then◌else◌}
use Rattle.cg_base.proofs.Options.{some_is}
use Rattle.cg_base.proofs.Truths.{either_bool}
use Rattle.cg_base.specs.declared.kind.Sigil.{Sigil}
use Rattle.cg_base.specs.declared.kind.Sigil.TheVariants.{R, W, U}
use Rattle.cg_base.specs.Types.{Tau, type_of}
use Rattle.cg_heap.specs.declared.cell.Cell.{Cell as Held}
use Rattle.cg_heap.specs.Reps.{counted as counted'}
use Rattle.cg_heaptext_contents.specs.Placings.{AreRead, pair_of, read_type}
use Rattle.cg_heaptext_contents.specs.declared.placing.Placed.{Placed}
use Rattle.cg_heaptext_def.specs.Footprints.{amounts, position_from, reached, sigil_of}
use Rattle.cg_heaptext_def.specs.HeapText.{IsSecond, Never, placed, read_at, read_events, type_among}
use Rattle.cg_heaptext_def.specs.Reading.{Event, misfit, counted, mention, held_at}
use Rattle.cg_heaptext_def.specs.Trees.{Entry, Heap, amount}
use Rattle.cg_heaptext_judge_def.specs.Judging.{Met, met_in}
use Rattle.cg_heaptext_judge_notes.specs.Notes.{AreMet, IsMet}
use Rattle.cg_heaptext_judge_notes.specs.declared.notes.Mentioned.{Mentioned}
use Rattle.cg_heap.proofs.Listed.{count_append}
use Rattle.cg_heap.specs.Steps.{count}
use Rattle.cg_heaptext.specs.Reach.{address_of, is_at, mentioned_at, reached_by}

-- ---- positions

-- of a position that was counted from this one on
abbrev Stands : List ℕ → ℕ → ℕ → ℕ → Type 0
Stands ns i n k = (j : ℕ) × (k ≡ j + i) × (slice_get ns j ≡ Some n)

position_holds : (ns : List ℕ) (i n k : ℕ) → position_from i ns n ≡ Some k → Stands ns i n k
position_holds [] i n k e = absurd (cc)
position_holds (m ∷ ns) i n k e = at (either_bool (nat_eq m n)) (position_holds ns (i + 1) n k)
  where
    at : (nat_eq m n ≡ true) ⊎ (nat_eq m n ≡ false) → (position_from (i + 1) ns n ≡ Some k → Stands ns (i + 1) n k) → Stands (m ∷ ns) i n k
    at (inl s) later =
        let f : Some i ≡ Some k = ap (λ b. if b then Some i else position_from (i + 1) ns n) (sym s) ∙ e in
        let g : i ≡ k = some_is i k f in (zero, omega (arith, g), ap Some (eqb-true m n s))
    at (inr d) later =
        let r = later (ap (λ b. if b then Some i else position_from (i + 1) ns n) (sym d) ∙ e) in
        (suc r.0, omega (arith, r.1), r.2)

-- the number at a position
pub position_is : (ns : List ℕ) (n k : ℕ) → position_from 0 ns n ≡ Some k → slice_get ns k ≡ Some n
position_is ns n k e = let r = position_holds ns 0 n k e in let s : r.0 ≡ k = omega (arith, r.1) in subst (λ j. slice_get ns j ≡ Some n) s r.2

-- ---- what is reached

counted_one : (m s : Sigil) (p q : ℕ) → count q (if is_at m s then p ∷ [] else []) ≡ counted' m s p q
counted_one R R p q = omega arith
counted_one R W p q = refl
counted_one R U p q = refl
counted_one W R p q = refl
counted_one W W p q = omega arith
counted_one W U p q = refl
counted_one U R p q = refl
counted_one U W p q = refl
counted_one U U p q = refl

-- the cells stand in the order of their entries
module _ (h : Heap) (t : Tau) (cells : List Placed) (are : map pair_of cells ≡ placed h t) where
  cell_there : (k r : ℕ) → slice_get (amounts h) k ≡ Some r → address_of (slice_get cells k) ≡ r ∷ []
  cell_there k r e = at (slice_get cells k) (slice_get h.entries k) placed_is amount_is
    where
      f : Entry → ℕ × Held
      f = λ e. (amount e.address, held_at (read_at h t (amount e.address)) e.cell)

      placed_is : option_map pair_of (slice_get cells k) ≡ option_map f (slice_get h.entries k)
      placed_is = sym (slice_get-map pair_of cells k) ∙ ap (λ ps. slice_get ps k) are ∙ slice_get-map f h.entries k

      amount_is : option_map (λ (e : Entry). amount e.address) (slice_get h.entries k) ≡ Some r
      amount_is = sym (slice_get-map (λ (e : Entry). amount e.address) h.entries k) ∙ e

      at : (o : Option Placed) (u : Option Entry) → option_map pair_of o ≡ option_map f u → option_map (λ (e : Entry). amount e.address) u ≡ Some r → address_of o ≡ r ∷ []
      at None None a b = absurd (cc)
      at None (Some x) a b = absurd (cc)
      at (Some p) None a b = absurd (cc)
      at (Some p) (Some x) a b =
          let same : pair_of p ≡ f x = some_is (pair_of p) (f x) a in
          ap (λ n. n ∷ []) (ap (λ (y : ℕ × Held). y.0) same ∙ some_is (amount x.address) r b)

  one_reached : (s : Sigil) (m : Mentioned) (c : Met) (q : ℕ) → IsMet (amounts h) m c → count q (reached_by s cells m) ≡ counted' s (sigil_of c.ty) c.address q
  one_reached s m c q is =
      let there = cell_there m.entry c.address (position_is (amounts h) c.address m.entry is.entry) in
      ap (λ l. count q (if is_at s (sigil_of (type_of m.ty.now)) then l else [])) there ∙ ap (λ u. count q (if is_at s (sigil_of u) then c.address ∷ [] else [])) is.ty ∙ counted_one s (sigil_of c.ty) c.address q

  pub times_reached : (s : Sigil) (es : List Event) (ms : List Mentioned) (q : ℕ) → AreMet (amounts h) ms (met_in es) → count q (mentioned_at s cells ms) ≡ reached s es q
  times_reached s [] [] q a = refl
  times_reached s [] (m ∷ ms) q a = absurd a
  times_reached s (misfit p ∷ es) ms q a = times_reached s es ms q a
  times_reached s (counted n bound ∷ es) ms q a = times_reached s es ms q a
  times_reached s (mention p r u ∷ es) [] q a = absurd a
  times_reached s (mention p r u ∷ es) (m ∷ ms) q a =
      count_append q (reached_by s cells m) (mentioned_at s cells ms)
      ∙ (let x = one_reached s m (record { place = p; address = r; ty = u }) q a.0 in let y = times_reached s es ms q a.1 in λ i. x i + y i)

-- ---- the first type at which a cell is read

module _ (h : Heap) (apart : Never (IsSecond h)) where
  -- no two entries have one address
  one_entry : (i j : ℕ) (d e : Entry) → slice_get h.entries i ≡ Some d → slice_get h.entries j ≡ Some e → amount d.address ≡ amount e.address → i < j → ⊥
  one_entry i j d e a b same l = apart e.place (record { i = i; j = j; earlier = d; later = e; order = l; one = a; other = b; same = same; at = refl })

  address_at : (k r : ℕ) → slice_get (amounts h) k ≡ Some r → (e : Entry) × (slice_get h.entries k ≡ Some e) × (amount e.address ≡ r)
  address_at k r e = at (slice_get h.entries k) refl (sym (slice_get-map (λ (e : Entry). amount e.address) h.entries k) ∙ e)
    where
      at : (o : Option Entry) → o ≡ slice_get h.entries k → option_map (λ (e : Entry). amount e.address) o ≡ Some r → (e : Entry) × (slice_get h.entries k ≡ Some e) × (amount e.address ≡ r)
      at None s b = absurd (cc)
      at (Some x) s b = (x, sym s, some_is (amount x.address) r b)

  -- an address is that of an entry just where its position is the entry's
  same_test : (i k r : ℕ) (e : Entry) → slice_get h.entries i ≡ Some e → position_from 0 (amounts h) r ≡ Some k → nat_eq k i ≡ nat_eq r (amount e.address)
  same_test i k r e there position = at (either_bool (nat_eq k i))
    where
      d : (d : Entry) × (slice_get h.entries k ≡ Some d) × (amount d.address ≡ r)
      d = address_at k r (position_is (amounts h) r k position)

      apart_from : k ≢ i → r ≢ amount e.address
      apart_from not same = by (cases_lt k i)
        where
          by : (k < i) ⊎ (i ≤ k) → ⊥
          by (inl l) = one_entry k i d.0 e d.1 there (d.2 ∙ same) l
          by (inr l) = one_entry i k e d.0 there d.1 (sym same ∙ sym d.2) (ne_lt not l)
            where
              ne_lt : k ≢ i → i ≤ k → i < k
              ne_lt n l = less (eq-or-lt_of_le l)
                where
                  less : (i ≡ k) ⊎ (i < k) → i < k
                  less (inl s) = absurd (n (sym s))
                  less (inr k) = k

      at : (nat_eq k i ≡ true) ⊎ (nat_eq k i ≡ false) → nat_eq k i ≡ nat_eq r (amount e.address)
      at (inl s) =
          let same : k ≡ i = eqb-true k i s in
          let one : d.0 ≡ e = some_is d.0 e (sym d.1 ∙ ap (slice_get h.entries) same ∙ there) in
          s ∙ sym (eq-eqb r (amount e.address) (sym d.2 ∙ ap (λ (x : Entry). amount x.address) one))
      at (inr f) = f ∙ sym (ne_eqb r (amount e.address) (apart_from (eqb-false k i f)))

  first_types : (i : ℕ) (e : Entry) → slice_get h.entries i ≡ Some e → (es : List Event) (ms : List Mentioned) → AreMet (amounts h) ms (met_in es) → read_type ms i ≡ type_among es (amount e.address)
  first_types i e there [] [] a = refl
  first_types i e there [] (m ∷ ms) a = absurd a
  first_types i e there (misfit p ∷ es) ms a = first_types i e there es ms a
  first_types i e there (counted n bound ∷ es) ms a = first_types i e there es ms a
  first_types i e there (mention p r u ∷ es) [] a = absurd a
  first_types i e there (mention p r u ∷ es) (m ∷ ms) a =
      let test = same_test i m.entry r e there a.0.entry in
      let rest = first_types i e there es ms a.1 in
      ap (λ b. if b then Some (type_of m.ty.now) else read_type ms i) test ∙ ap (λ o. if nat_eq r (amount e.address) then Some (type_of m.ty.now) else o) rest
      ∙ ap (λ v. if nat_eq r (amount e.address) then Some v else type_among es (amount e.address)) a.0.ty

  pub are_read : (t : Tau) (ms : List Mentioned) → AreMet (amounts h) ms (met_in (read_events h t)) → AreRead h t ms
  are_read t ms a i e there = first_types i e there (read_events h t) ms a
