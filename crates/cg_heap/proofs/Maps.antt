-- What a store over an ordered map holds after a call of the map.
use Rattle.std.proofs.Common.{rules, ◌≡◌, ◌⊎◌, inl, inr, ℕ, true, false, nat_eq, cond, arith, List, [], ◌∷◌, refl, sym, ap, ◌∙◌}
use Rattle.std.specs.BTreeMap.{BTreeMap, is_at, Updates, WritesThrough}
use Rattle.std.specs.Cmp.{nat_cmp_total, eq_by_cmp_equiv}
use Rattle.std.specs.FinMap as map
use Rattle.std.specs.FinMap.{FinMap, find, gets, get-insert, get-remove, get-from_entries, same_map, nat_cmp-IsAntisymmetric}
use Rattle.std.specs.Map.{lookup}
use Rattle.std.specs.Option.{unwrap_or, IsSome}
use Rattle.std.specs.declared.option.Option.{Option}
use Rattle.std.specs.declared.option.Option.TheVariants.{None, Some}
use Rattle.std.specs.Ordering.{nat_cmp, eq_by_cmp}
use Rattle.cg_base.proofs.Truths.{either_bool}
use Rattle.cg_heap.specs.declared.cell.Cell.{Cell}
use Rattle.cg_heap.specs.Mapped.{mapped}
use Rattle.cg_heap.specs.Stored.{Stored, asked_of, cell_at, changed, in_cell, in_place}

-- a map's test of keys is that of numbers, the other way round
pub same_key : (p q : ℕ) → eq_by_cmp nat_cmp q p ≡ nat_eq p q
same_key p q = by (either_bool (nat_eq p q))
  where
    by : (nat_eq p q ≡ true) ⊎ (nat_eq p q ≡ false) → eq_by_cmp nat_cmp q p ≡ nat_eq p q
    by (inl e) = grind (arith, e)
    by (inr e) = grind (arith, e)

found_lookup : (es : List (ℕ × Cell)) (q : ℕ) → find nat_cmp q es ≡ lookup (is_at (nat_cmp q)) es
found_lookup [] q = refl
found_lookup (e ∷ es) q = ap (cond (eq_by_cmp nat_cmp q e.0) (Some e.1)) (found_lookup es q)

-- the cell at an address is the entry at the key
pub held_at : (es : List (ℕ × Cell)) (q : ℕ) → map.get (map.from_entries {R = nat_cmp} es) q ≡ lookup (is_at (nat_cmp q)) es
held_at es q = get-from_entries nat_cmp_total es q ∙ found_lookup es q

turned : (k q : ℕ) (w v : Option Cell) → cond (is_at (nat_cmp k) q) w v ≡ cond (eq_by_cmp nat_cmp q k) w v
turned k q w v = ap (λ b. cond b w v) ((eq_by_cmp_equiv nat_cmp_total).symm k q)

-- an entry was put in
pub put_in : (old new : BTreeMap ℕ Cell) (k : ℕ) (v : Cell) → Updates nat_cmp old new k (Some v) → map.from_entries {R = nat_cmp} new.entries ≡ map.insert (map.from_entries old.entries) k v
put_in old new k v updates =
    same_map nat_cmp_total nat_cmp-IsAntisymmetric _ _ (λ q. held_at new.entries q ∙ updates.0 q ∙ turned k q (Some v) (lookup (is_at (nat_cmp q)) old.entries)
    ∙ sym (get-insert nat_cmp_total (map.from_entries old.entries) k v q ∙ ap (cond (eq_by_cmp nat_cmp q k) (Some v)) (held_at old.entries q)))

-- an entry was taken out
pub taken_out : (old new : BTreeMap ℕ Cell) (k : ℕ) → Updates nat_cmp old new k None → map.from_entries {R = nat_cmp} new.entries ≡ map.remove (map.from_entries old.entries) k
taken_out old new k updates =
    same_map nat_cmp_total nat_cmp-IsAntisymmetric _ _ (λ q. held_at new.entries q ∙ updates.0 q ∙ turned k q None (lookup (is_at (nat_cmp q)) old.entries)
    ∙ sym (get-remove nat_cmp_total (map.from_entries old.entries) k q ∙ ap (cond (eq_by_cmp nat_cmp q k) None) (held_at old.entries q)))

-- to put in what is there changes nothing
pub same_put : (m : FinMap nat_cmp Cell) (k : ℕ) (v : Cell) → map.get m k ≡ Some v → map.insert m k v ≡ m
same_put m k v here = same_map nat_cmp_total nat_cmp-IsAntisymmetric _ _ (λ q. grind (gets, rules))

-- ---- a cell was changed

changed_by : (o : Option Cell) (p : ℕ) (s : Stored) (c : Cell) → cell_at s p ≡ Some c → record { cells = map.insert s.cells p (unwrap_or o c); top = s.top } ≡ in_place p o s
changed_by (Some d) p s c here = refl
changed_by None p s c here = (λ i. record { cells = same_put s.cells p c here i; top = s.top })

pub changed_is : (f : Cell → Option Cell) (p : ℕ) (old new : BTreeMap ℕ Cell) (top : ℕ) (c d : Cell) → lookup (is_at (nat_cmp p)) old.entries ≡ Some c → d ≡ unwrap_or (f c) c
    → WritesThrough nat_cmp (nat_cmp p) old d new → mapped new.entries top ≡ changed f p (mapped old.entries top)
changed_is f p old new top c d found is written =
    let here : map.get (map.from_entries {R = nat_cmp} old.entries) p ≡ Some c = held_at old.entries p ∙ found in
    let there : IsSome (lookup (is_at (nat_cmp p)) old.entries) = rw found refl in
    ap (λ m. record { cells = m; top = top }) (put_in old new p d (written.3 there) ∙ ap (map.insert (map.from_entries old.entries) p) is)
    ∙ changed_by (f c) p (mapped old.entries top) c here
    ∙ ap (λ o. in_place p (in_cell f o) (mapped old.entries top)) (sym here)

pub unchanged_is : (f : Cell → Option Cell) (p : ℕ) (old new : BTreeMap ℕ Cell) (top : ℕ) → lookup (is_at (nat_cmp p)) old.entries ≡ None → new ≡ old → mapped new.entries top ≡ changed f p (mapped old.entries top)
unchanged_is f p old new top missed is =
    ap (λ m. mapped m.entries top) is ∙ ap (λ o. in_place p (in_cell f o) (mapped old.entries top)) (sym (held_at old.entries p ∙ missed))

-- ---- a cell was looked up

pub asked_is : {A : Type 0} (f : Cell → Option A) (p : ℕ) (es : List (ℕ × Cell)) (top : ℕ) (c : Cell) → lookup (is_at (nat_cmp p)) es ≡ Some c → f c ≡ asked_of f p (mapped es top)
asked_is f p es top c found = ap (in_cell f) (sym (held_at es p ∙ found))

pub asked_none : {A : Type 0} (f : Cell → Option A) (p : ℕ) (es : List (ℕ × Cell)) (top : ℕ) → lookup (is_at (nat_cmp p)) es ≡ None → None ≡ asked_of f p (mapped es top)
asked_none f p es top found = ap (in_cell f) (sym (held_at es p ∙ found))
