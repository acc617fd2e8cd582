-- Cells that are put into a store one by one.
use Rattle.std.proofs.Common.{◌≡◌, ℕ, suc, ◌<◌, ◌≤◌, ◌⊎◌, inl, inr, cond, true, false, List, [], ◌∷◌, ◌++◌, refl, sym, ap, ◌∙◌, subst, append_assoc, length, map, option_to_list, arith}
use Rattle.std.proofs.Math.Nat.{max_comm}
use Rattle.std.proofs.lemmas.Bool.{eqb-true}
use Rattle.std.proofs.lemmas.List.{append-nil, map_push}
use Rattle.std.specs.Cmp.{nat_cmp_total}
use Rattle.std.specs.FinMap as finite
use Rattle.std.specs.FinMap.{FinMap}
use Rattle.std.specs.Ordering.{nat_cmp, eq_by_cmp}
use Rattle.std.specs.Prelude.{◌^◌, max, nat_eq, slice_get, Option, Some, None, Result, Ok, Err, OnErr, if◌then◌else◌}
use Rattle.cg_base.proofs.Truths.{either_bool}
use Rattle.cg_heap.proofs.Maps.{same_key}
use Rattle.cg_heap.specs.declared.cell.Cell.{Cell as Held}
use Rattle.cg_heap.specs.Stored.{Stored, cell_at, cell_length, with_cell}
use Rattle.cg_heaptext.specs.Filled.{IsFilled, greatest}
use Rattle.cg_heaptext_contents.specs.Placings.{pair_of}
use Rattle.cg_heaptext_contents.specs.declared.placing.Placed.{Placed}
use Rattle.cg_heaptext_def.specs.Footprints.{held_in}
use Rattle.cg_heaptext_def.specs.Placed.{CanBePlaced}

-- ---- addresses apart

-- without the first of them
one_less : (c : ℕ × Held) (cs : List (ℕ × Held)) → CanBePlaced (c ∷ cs) → CanBePlaced cs
one_less c cs p = record {
  apart = λ i j d e there here same. let f : suc i ≡ suc j = p.apart (suc i) (suc j) d e there here same in omega (arith, f);
  least = λ i d there. p.least (suc i) d there;
  most = λ i d there. p.most (suc i) d there;
  short = λ i d there. p.short (suc i) d there;
}

-- without those in front
behind : (front cs : List (ℕ × Held)) → CanBePlaced (front ++ cs) → CanBePlaced cs
behind [] cs p = p
behind (c ∷ front) cs p = behind front cs (one_less c (front ++ cs) p)

-- a cell that is found stands somewhere
abbrev Stands : List (ℕ × Held) → ℕ → Type 0
Stands cs q = (j : ℕ) × ((e : ℕ × Held) × (slice_get cs j ≡ Some e) × (e.0 ≡ q))

none_or_stands : (cs : List (ℕ × Held)) (q : ℕ) → (held_in cs q ≡ None) ⊎ Stands cs q
none_or_stands [] q = inl refl
none_or_stands (c ∷ cs) q = by (either_bool (nat_eq c.0 q)) (none_or_stands cs q)
  where
    by : (nat_eq c.0 q ≡ true) ⊎ (nat_eq c.0 q ≡ false) → (held_in cs q ≡ None) ⊎ Stands cs q → (held_in (c ∷ cs) q ≡ None) ⊎ Stands (c ∷ cs) q
    by (inl s) later = inr (0, (c, refl, eqb-true c.0 q s))
    by (inr d) (inl none) = inl (ap (λ b. if b then Some c.1 else held_in cs q) d ∙ none)
    by (inr d) (inr s) = inr (suc s.0, s.1)

-- behind the first there is none at its address
first_alone : (c : ℕ × Held) (cs : List (ℕ × Held)) → CanBePlaced (c ∷ cs) → held_in cs c.0 ≡ None
first_alone c cs p = by (none_or_stands cs c.0)
  where
    by : (held_in cs c.0 ≡ None) ⊎ Stands cs c.0 → held_in cs c.0 ≡ None
    by (inl none) = none
    by (inr s) = let same : 0 ≡ suc s.0 = p.apart 0 (suc s.0) c s.1.0 refl s.1.1 (sym s.1.2) in absurd (omega (arith, same))

-- what stands at an address behind others stands there among all
held_back : (front cs : List (ℕ × Held)) → CanBePlaced (front ++ cs) → (q : ℕ) → (held_in cs q ≡ None) ⊎ (held_in cs q ≡ held_in (front ++ cs) q)
held_back [] cs p q = inr refl
held_back (c ∷ front) cs p q = by (either_bool (nat_eq c.0 q)) (held_back front cs (one_less c (front ++ cs) p) q)
  where
    by : (nat_eq c.0 q ≡ true) ⊎ (nat_eq c.0 q ≡ false) → (held_in cs q ≡ None) ⊎ (held_in cs q ≡ held_in (front ++ cs) q)
        → (held_in cs q ≡ None) ⊎ (held_in cs q ≡ held_in (c ∷ front ++ cs) q)
    by s (inl none) = inl none
    by (inl s) (inr is) = inl (is ∙ subst (λ r. held_in (front ++ cs) r ≡ None) (eqb-true c.0 q s) (first_alone c (front ++ cs) p))
    by (inr d) (inr is) = inr (is ∙ sym (ap (λ b. if b then Some c.1 else held_in (front ++ cs) q) d))

-- ---- the store on the way

get_insert : (m : FinMap nat_cmp Held) (p : ℕ) (c : Held) (q : ℕ) → finite.get (finite.insert m p c) q ≡ cond (nat_eq p q) (Some c) (finite.get m q)
get_insert m p c q = finite.get-insert nat_cmp_total m p c q ∙ ap (λ b. cond b (Some c) (finite.get m q)) (same_key p q)

-- the cells that were taken off the end, with those that are left before them; a store holds just them
pub record IsUnderWay (all left : List (ℕ × Held)) (s : Stored) : Type 0 where
  pub done : List (ℕ × Held)
  pub parts : all ≡ left ++ done
  pub filled : IsFilled done s

-- before the first
pub begins : (all : List (ℕ × Held)) (s : Stored) → ((q : ℕ) → cell_at s q ≡ None) → s.top ≡ 0 → IsUnderWay all all s
begins all s empty top = record { done = []; parts = sym (append-nil all); filled = record { holds = empty; top = top } }

-- the last of those that are left
pub last_of : (all : List (ℕ × Held)) (cells left : List Placed) (o : Option Placed) (p : Placed) (s : Stored) → cells ≡ left ++ option_to_list o → o ≡ Some p → IsUnderWay all (map pair_of cells) s
    → IsUnderWay all (map pair_of left ++ pair_of p ∷ []) s
last_of all cells left o p s parts is under =
    subst (λ cs. IsUnderWay all cs s) (ap (map pair_of) (parts ∙ ap (λ x. left ++ option_to_list x) is) ∙ map_push pair_of left p) under

module _ (all left : List (ℕ × Held)) (c : ℕ × Held) (s : Stored) (placeable : CanBePlaced all) (under : IsUnderWay all (left ++ c ∷ []) s) where
  again : all ≡ left ++ (c ∷ under.done)
  again = under.parts ∙ append_assoc left (c ∷ []) under.done

  there : CanBePlaced (c ∷ under.done)
  there = behind left (c ∷ under.done) (subst CanBePlaced again placeable)

  pub is_absent : cell_at s c.0 ≡ None
  is_absent = under.filled.holds c.0 ∙ first_alone c under.done there

  pub is_least : 1 ≤ c.0
  is_least = there.least 0 c refl

  pub is_most : c.0 < 2 ^ 32
  is_most = there.most 0 c refl

  pub is_short : cell_length c.1 < 2 ^ 32
  is_short = there.short 0 c refl

  -- one cell more
  pub goes_on : IsUnderWay all left (with_cell c.0 c.1 s)
  goes_on = record {
    done = c ∷ under.done;
    parts = again;
    filled = record {
      holds = λ q. get_insert s.cells c.0 c.1 q ∙ ap (λ o. cond (nat_eq c.0 q) (Some c.1) o) (under.filled.holds q);
      top = ap (λ n. max n c.0) under.filled.top ∙ max_comm (greatest under.done) c.0;
    };
  }

-- what was placed when it ends
pub some_placed : (all left : List (ℕ × Held)) (s : Stored) → CanBePlaced all → IsUnderWay all left s → (q : ℕ) → (cell_at s q ≡ None) ⊎ (cell_at s q ≡ held_in all q)
some_placed all left s placeable under q = by (held_back left under.done (subst CanBePlaced under.parts placeable) q)
  where
    by : (held_in under.done q ≡ None) ⊎ (held_in under.done q ≡ held_in (left ++ under.done) q) → (cell_at s q ≡ None) ⊎ (cell_at s q ≡ held_in all q)
    by (inl none) = inl (under.filled.holds q ∙ none)
    by (inr is) = inr (under.filled.holds q ∙ is ∙ ap (λ cs. held_in cs q) (sym under.parts))

pub all_placed : (all : List (ℕ × Held)) (cells : List Placed) (s : Stored) → length cells ≡ 0 → IsUnderWay all (map pair_of cells) s → IsFilled all s
all_placed all [] s none under = subst (λ cs. IsFilled cs s) (sym under.parts) under.filled
all_placed all (p ∷ cells) s none under = absurd (omega (arith, none))

-- what holds at all events holds at an error
pub on_err : {T E : Type 0} (r : Result T E) (P : Type 0) → P → OnErr r P
on_err (Ok x) P p = tt
on_err (Err e) P p = p
