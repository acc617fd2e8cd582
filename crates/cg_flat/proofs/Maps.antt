-- Maps from addresses, as maps by hash hold them, and maps whose values are made anew.
use Rattle.std.proofs.Common.{◌≡◌, ℕ, nat_eq, Bool, true, false, cond, List, [], ◌∷◌, map, refl, sym, ap, ◌∙◌}
use Rattle.std.specs.Cmp.{nat_cmp_total, eq_by_cmp_equiv, unsigned_tied}
use Rattle.std.specs.FinMap as table
use Rattle.std.specs.FinMap.{FinMap, find, get-entries, get-insert, get-remove, get-from_entries, same_map, nat_cmp-IsAntisymmetric}
use Rattle.std.specs.HashMap.{HashMap, Updates}
use Rattle.std.specs.Map.{lookup}
use Rattle.std.specs.Option.{option_map}
use Rattle.std.specs.declared.option.Option.{Option}
use Rattle.std.specs.declared.option.Option.TheVariants.{None, Some}
use Rattle.std.specs.Ordering.{nat_cmp, eq_by_cmp}
use Rattle.cg_heap.proofs.Sounds.{alike as cell_alike}
use Rattle.cg_flat.specs.Flat.{each}

-- ---- what a map by hash holds

found_lookup : {X : Type 0} (es : List (ℕ × X)) (q : ℕ) → find nat_cmp q es ≡ lookup (nat_eq q) es
found_lookup [] q = refl
found_lookup (e ∷ es) q = ap (λ b. cond b (Some e.1) (find nat_cmp q es)) (unsigned_tied q e.0) ∙ ap (cond (nat_eq q e.0) (Some e.1)) (found_lookup es q)

-- what stands at an address is the entry at the key
pub held_at : {X : Type 0} (es : List (ℕ × X)) (q : ℕ) → table.get (table.from_entries {R = nat_cmp} es) q ≡ lookup (nat_eq q) es
held_at es q = get-from_entries nat_cmp_total es q ∙ found_lookup es q

turned : {X : Type 0} (k q : ℕ) (w v : Option X) → cond (nat_eq k q) w v ≡ cond (eq_by_cmp nat_cmp q k) w v
turned k q w v = ap (λ b. cond b w v) (sym (unsigned_tied k q) ∙ (eq_by_cmp_equiv nat_cmp_total).symm k q)

-- an entry was put in
pub put_in : {X S : Type 0} (old new : HashMap ℕ X S) (k : ℕ) (v : X) → Updates nat_eq old new k (Some v) → table.from_entries {R = nat_cmp} new.entries ≡ table.insert (table.from_entries old.entries) k v
put_in old new k v updates =
    same_map nat_cmp_total nat_cmp-IsAntisymmetric _ _ (λ q. held_at new.entries q ∙ updates.0 q ∙ turned k q (Some v) (lookup (nat_eq q) old.entries)
    ∙ sym (get-insert nat_cmp_total (table.from_entries old.entries) k v q ∙ ap (cond (eq_by_cmp nat_cmp q k) (Some v)) (held_at old.entries q)))

-- an entry was taken out
pub taken_out : {X S : Type 0} (old new : HashMap ℕ X S) (k : ℕ) → Updates nat_eq old new k None → table.from_entries {R = nat_cmp} new.entries ≡ table.remove (table.from_entries old.entries) k
taken_out old new k updates =
    same_map nat_cmp_total nat_cmp-IsAntisymmetric _ _ (λ q. held_at new.entries q ∙ updates.0 q ∙ turned k q None (lookup (nat_eq q) old.entries)
    ∙ sym (get-remove nat_cmp_total (table.from_entries old.entries) k q ∙ ap (cond (eq_by_cmp nat_cmp q k) None) (held_at old.entries q)))

-- ---- two addresses

pub alike : (x y : ℕ) → eq_by_cmp nat_cmp x y ≡ true → x ≡ y
alike x y e = cell_alike x y (nat_cmp x y) refl e

pub itself : (x : ℕ) → eq_by_cmp nat_cmp x x ≡ true
itself x = (eq_by_cmp_equiv nat_cmp_total).refl x

pub got_put : {X : Type 0} (m : FinMap nat_cmp X) (p : ℕ) (v : X) → table.get (table.insert m p v) p ≡ Some v
got_put m p v = get-insert nat_cmp_total m p v p ∙ ap (λ b. cond b (Some v) (table.get m p)) (itself p)

pub got_put_other : {X : Type 0} (m : FinMap nat_cmp X) (p : ℕ) (v : X) (q : ℕ) → eq_by_cmp nat_cmp q p ≡ false → table.get (table.insert m p v) q ≡ table.get m q
got_put_other m p v q e = get-insert nat_cmp_total m p v q ∙ ap (λ b. cond b (Some v) (table.get m q)) e

pub got_removed : {X : Type 0} (m : FinMap nat_cmp X) (p : ℕ) → table.get (table.remove m p) p ≡ None
got_removed m p = get-remove nat_cmp_total m p p ∙ ap (λ b. cond b None (table.get m p)) (itself p)

pub got_removed_other : {X : Type 0} (m : FinMap nat_cmp X) (p q : ℕ) → eq_by_cmp nat_cmp q p ≡ false → table.get (table.remove m p) q ≡ table.get m q
got_removed_other m p q e = get-remove nat_cmp_total m p q ∙ ap (λ b. cond b None (table.get m q)) e

back_at : {X : Type 0} (m : FinMap nat_cmp X) (p : ℕ) (v : X) → table.get m p ≡ Some v → (q : ℕ) (b : Bool) → eq_by_cmp nat_cmp q p ≡ b → table.get m q ≡ cond b (Some v) (table.get (table.remove m p) q)
back_at m p v here q true e = ap (table.get m) (alike q p e) ∙ here
back_at m p v here q false e = sym (got_removed_other m p q e)

-- what was taken out and is put back
pub put_back : {X : Type 0} (m : FinMap nat_cmp X) (p : ℕ) (v : X) → table.get m p ≡ Some v → m ≡ table.insert (table.remove m p) p v
put_back m p v here =
    same_map nat_cmp_total nat_cmp-IsAntisymmetric _ _ (λ q. back_at m p v here q (eq_by_cmp nat_cmp q p) refl ∙ sym (get-insert nat_cmp_total (table.remove m p) p v q))

-- ---- each value made anew

find_each : {X Y : Type 0} (f : X → Y) (q : ℕ) (es : List (ℕ × X)) → find nat_cmp q (map (λ e. (e.0, f e.1)) es) ≡ option_map f (find nat_cmp q es)
find_each f q [] = refl
find_each f q (e ∷ es) =
    elim (eq_by_cmp nat_cmp q e.0) as (λ b. cond b (Some (f e.1)) (find nat_cmp q (map (λ e. (e.0, f e.1)) es)) ≡ option_map f (cond b (Some e.1) (find nat_cmp q es))) [
      | true ↦ refl
      | false ↦ find_each f q es
    ]

pub get-each : {X Y : Type 0} (f : X → Y) (m : FinMap nat_cmp X) (q : ℕ) → table.get (each f m) q ≡ option_map f (table.get m q)
get-each f m q = get-from_entries nat_cmp_total _ q ∙ find_each f q (table.entries m) ∙ ap (option_map f) (sym (get-entries m q))

each_at : {X Y : Type 0} (f g : X → Y) (m n : FinMap nat_cmp X) (p : ℕ) (d : Y) → ((q : ℕ) → eq_by_cmp nat_cmp q p ≡ false → option_map g (table.get n q) ≡ option_map f (table.get m q))
    → option_map g (table.get n p) ≡ Some d → (q : ℕ) (b : Bool) → eq_by_cmp nat_cmp q p ≡ b → option_map g (table.get n q) ≡ cond b (Some d) (option_map f (table.get m q))
each_at f g m n p d others here q true e = ap (λ k. option_map g (table.get n k)) (alike q p e) ∙ here
each_at f g m n p d others here q false e = others q e

-- one value is d, and the others are as they were
pub each_put : {X Y : Type 0} (f g : X → Y) (m n : FinMap nat_cmp X) (p : ℕ) (d : Y) → ((q : ℕ) → eq_by_cmp nat_cmp q p ≡ false → option_map g (table.get n q) ≡ option_map f (table.get m q))
    → option_map g (table.get n p) ≡ Some d → each g n ≡ table.insert (each f m) p d
each_put f g m n p d others here =
    same_map nat_cmp_total nat_cmp-IsAntisymmetric _ _ (λ q. get-each g n q ∙ each_at f g m n p d others here q (eq_by_cmp nat_cmp q p) refl
    ∙ sym (get-insert nat_cmp_total (each f m) p d q ∙ ap (cond (eq_by_cmp nat_cmp q p) (Some d)) (get-each f m q)))

mapped_cond : {X Y : Type 0} (f : X → Y) (b : Bool) (o : Option X) → option_map f (cond b None o) ≡ cond b None (option_map f o)
mapped_cond f true o = refl
mapped_cond f false o = refl

pub each_without : {X Y : Type 0} (f : X → Y) (m : FinMap nat_cmp X) (p : ℕ) → each f (table.remove m p) ≡ table.remove (each f m) p
each_without f m p =
    same_map nat_cmp_total nat_cmp-IsAntisymmetric _ _ (λ q. get-each f (table.remove m p) q ∙ ap (option_map f) (get-remove nat_cmp_total m p q) ∙ mapped_cond f (eq_by_cmp nat_cmp q p) (table.get m q)
    ∙ sym (get-remove nat_cmp_total (each f m) p q ∙ ap (cond (eq_by_cmp nat_cmp q p) None) (get-each f m q)))
