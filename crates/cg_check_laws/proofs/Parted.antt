-- What the occurrence marks make of a context that a node's events allow: the split that the node asks for, at each entry.
use Rattle.std.proofs.Common.{◌≡◌, ◌≢◌, ℕ, suc, ◌<◌, Bool, true, false, ◌||◌, cond, IsTrue, Option, Some, None, List, [], length, ⊎_elim, refl, sym, ap, ◌∙◌, subst, arith, nat_eq, eqb-true}
use Rattle.std.proofs.lemmas.List.Elements.{All-nil}
use Rattle.std.specs.List.{All}
use Rattle.cg_base.specs.declared.kind.Kinds.{Kinds}
use Rattle.cg_base.specs.Types.{Tau}
use Rattle.cg_core.specs.declared.derivation.Mark.{Mark}
use Rattle.cg_core.specs.declared.derivation.Mark.TheVariants.{Seen}
use Rattle.cg_core.specs.declared.term.Seen.{Seen as Observer}
use Rattle.cg_kinds.specs.Kinds.{bang}
use Rattle.cg_kinds.proofs.Laws.{bang_free}
use Rattle.cg_typing.specs.Contexts.{Context, look, mark_at, push, first_side, second_side, first, second, among, drops, shares, Fits, Splits, Drops, DropsBut}
use Rattle.cg_check_def.specs.NormalForm.{pick, marks}
use Rattle.cg_faults.specs.Plain.{plain_at, observed}
use Rattle.cg_check_laws.proofs.Basics.{or_else, below_suc, below_or_not, look_first, look_second, length_push, look_old, look_new, at_old, at_new, look_past, mark_marks, length_marks, at_banged, length_banged}
use Rattle.cg_typing.proofs.Lists.{first_as_many as length_first, second_as_many as length_second}

module _ (vars : List Kinds) where
  pub banged_drops : (t : Tau) → drops vars (bang t) ≡ true
  banged_drops t = (bang_free vars t).0

  pub banged_shares : (t : Tau) → shares vars (bang t) ≡ true
  banged_shares t = (bang_free vars t).1

  -- what the context has for a part that touches the variable or does not
  abbrev pub Entry : Bool → Option Tau → Tau → Type 0
  Entry true o t = o ≡ Some t
  Entry false None t = Unit {0}
  Entry false (Some u) t = (u ≡ t) × IsTrue (drops vars u)

  dropping : (u t : Tau) → u ≡ t → drops vars t ≡ true → IsTrue (drops vars u)
  dropping u t q d = subst (λ t. IsTrue (drops vars t)) (sym q) d

  -- the split of one entry: the whole of what a node asks, at one variable that is observed or not
  entry_split : (s a b : Bool) (o : Option Tau) (t : Tau)
      → (s ≡ true → b ≡ false → drops vars t ≡ true) → (s ≡ false → a ≡ true → b ≡ true → shares vars t ≡ true) → Entry (s || (a || b)) o t
      → Fits vars s (pick s a b o) o × Entry a (first_side (pick s a b o) o) (cond s (bang t) t) × Entry b (second_side (pick s a b o) o) t
  entry_split true a b None t d h e = absurd (cc)
  entry_split false true true None t d h e = absurd (cc)
  entry_split false true false None t d h e = absurd (cc)
  entry_split false false true None t d h e = absurd (cc)
  entry_split false false false None t d h e = (refl, tt, tt)
  entry_split true true true (Some u) t d h e = (refl, ap (λ o. first_side Seen o) e, e)
  entry_split true true false (Some u) t d h e = let q : u ≡ t = cc in (refl, ap (λ o. first_side Seen o) e, (q, dropping u t q (d refl refl)))
  entry_split true false true (Some u) t d h e = let q : u ≡ t = cc in (refl, (ap bang q, banged_drops u), e)
  entry_split true false false (Some u) t d h e = let q : u ≡ t = cc in (refl, (ap bang q, banged_drops u), (q, dropping u t q (d refl refl)))
  entry_split false true true (Some u) t d h e = let q : u ≡ t = cc in ((subst (λ t. IsTrue (shares vars t)) (sym q) (h refl refl refl), refl), e, e)
  entry_split false true false (Some u) t d h e = (refl, e, tt)
  entry_split false false true (Some u) t d h e = (refl, tt, e)
  entry_split false false false (Some u) t d h e = (refl, tt, e)

  -- the same at each variable: q are the types of the first side
  pub record Parted (os : List Observer) (m : List Mark) (g : Context) (p q : List Tau) (a b : ℕ → Bool) : Type 0 where
    pub splits : Splits vars os m g
    pub long1 : length (first m g) ≡ length q
    pub long2 : length (second m g) ≡ length p
    pub at1 : (i : ℕ) → i < length q → Entry (a i) (look (first m g) i) (plain_at q i)
    pub at2 : (i : ℕ) → i < length p → Entry (b i) (look (second m g) i) (plain_at p i)

  pub parted_observed : (os : List Observer) (g : Context) (p : List Tau) (a b : ℕ → Bool) → length g ≡ length p → All (λ o. o.var < length p) os
      → ((i : ℕ) → i < length p → among i os ≡ true → b i ≡ false → drops vars (plain_at p i) ≡ true)
      → ((i : ℕ) → i < length p → among i os ≡ false → a i ≡ true → b i ≡ true → shares vars (plain_at p i) ≡ true)
      → ((i : ℕ) → i < length p → Entry (among i os || (a i || b i)) (look g i) (plain_at p i))
      → Parted os (marks (λ i. among i os) a b g) g p (observed os p) a b
  parted_observed os g p a b l w d h e =
      let s : ℕ → Bool = λ i. among i os in
      let m : List Mark = marks s a b g in
      let lm : length m ≡ length g = length_marks s a b g in
      let all : (i : ℕ) → i < length p → Fits vars (s i) (mark_at m i) (look g i) × Entry (a i) (first_side (mark_at m i) (look g i)) (cond (s i) (bang (plain_at p i)) (plain_at p i)) × Entry (b i) (second_side (mark_at m i) (look g i)) (plain_at p i) =
      λ i lt. subst (λ x. Fits vars (s i) x (look g i) × Entry (a i) (first_side x (look g i)) (cond (s i) (bang (plain_at p i)) (plain_at p i)) × Entry (b i) (second_side x (look g i)) (plain_at p i))
      (sym (mark_marks s a b g i)) (entry_split (s i) (a i) (b i) (look g i) (plain_at p i) (d i lt) (h i lt) (e i lt)) in
      let lb : length (observed os p) ≡ length p = length_banged s p in
      record {
        splits = record { long = lm; fits = λ i lt. (all i (omega arith)).0; observed = subst (λ n. All (λ o. o.var < n) os) (sym l) w };
        long1 = length_first m g lm ∙ l ∙ sym lb;
        long2 = length_second m g lm ∙ l;
        at1 = λ i lt. subst (λ o. Entry (a i) o (plain_at (observed os p) i)) (sym (look_first m g i))
            (subst (λ t. Entry (a i) (first_side (mark_at m i) (look g i)) t) (sym (at_banged s p i)) (all i (omega arith)).1);
        at2 = λ i lt. subst (λ o. Entry (b i) o (plain_at p i)) (sym (look_second m g i)) (all i lt).2;
      }

  -- with no observers
  pub parted : (g : Context) (p : List Tau) (a b : ℕ → Bool) → length g ≡ length p
      → ((i : ℕ) → i < length p → a i ≡ true → b i ≡ true → shares vars (plain_at p i) ≡ true)
      → ((i : ℕ) → i < length p → Entry (a i || b i) (look g i) (plain_at p i))
      → Parted [] (marks (λ i. false) a b g) g p p a b
  parted g p a b l h e =
      let lm : length (marks (λ i. false) a b g) ≡ length g = length_marks (λ i. false) a b g in
      let m : List Mark = marks (λ i. false) a b g in
      let all : (i : ℕ) → i < length p → Fits vars false (mark_at m i) (look g i) × Entry (a i) (first_side (mark_at m i) (look g i)) (plain_at p i) × Entry (b i) (second_side (mark_at m i) (look g i)) (plain_at p i) =
      λ i lt. subst (λ x. Fits vars false x (look g i) × Entry (a i) (first_side x (look g i)) (plain_at p i) × Entry (b i) (second_side x (look g i)) (plain_at p i))
      (sym (mark_marks (λ i. false) a b g i)) (entry_split false (a i) (b i) (look g i) (plain_at p i) (λ u v. absurd (cc)) (λ u. h i lt) (e i lt)) in
      record {
        splits = record { long = lm; fits = λ i lt. (all i (omega arith)).0; observed = All-nil (λ (o : Observer). o.var < length g) };
        long1 = length_first m g lm ∙ l;
        long2 = length_second m g lm ∙ l;
        at1 = λ i lt. subst (λ o. Entry (a i) o (plain_at p i)) (sym (look_first m g i)) (all i lt).1;
        at2 = λ i lt. subst (λ o. Entry (b i) o (plain_at p i)) (sym (look_second m g i)) (all i lt).2;
      }

  fresh : (t : Tau) (b : Bool) → (drops vars t || b) ≡ true → Entry b (Some t) t
  fresh t true h = refl
  fresh t false h = (refl, or_else (drops vars t) false h refl)

  -- a new variable
  pub enter : (g : Context) (p : List Tau) (t : Tau) (a : ℕ → Bool) → length g ≡ length p
      → ((i : ℕ) → i < length p → Entry (a i) (look g i) (plain_at p i)) → (drops vars t || a (length p)) ≡ true
      → (i : ℕ) → i < length (push p t) → Entry (a i) (look (push g (Some t)) i) (plain_at (push p t) i)
  enter g p t a l e d i lt =
      let lt' : i < suc (length p) = subst (λ n. i < n) (length_push p t) lt in
      ⊎_elim
      (λ k. let k' : i < length g = omega arith in
      subst (λ o. Entry (a i) o (plain_at (push p t) i)) (sym (look_old g (Some t) i k'))
      (subst (λ u. Entry (a i) (look g i) u) (sym (at_old p t i k)) (e i k)))
      (λ k. let k' : i ≡ length g = omega arith in
      subst (λ o. Entry (a i) o (plain_at (push p t) i)) (sym (look_new g (Some t) i k'))
      (subst (λ u. Entry (a i) (Some t) u) (sym (at_new p t i k)) (fresh t (a i) (subst (λ n. (drops vars t || a n) ≡ true) (sym k) d))))
      (below_suc i (length p) lt')

  -- leaves
  pub entry_drops : (o : Option Tau) (t u : Tau) → Entry false o t → o ≡ Some u → IsTrue (drops vars u)
  entry_drops None t u e h = absurd (cc)
  entry_drops (Some v) t u e h = let q : v ≡ u = cc in subst (λ t. IsTrue (drops vars t)) q e.1

  pub all_drop : (g : Context) (p : List Tau) → length g ≡ length p → ((i : ℕ) → i < length p → Entry false (look g i) (plain_at p i)) → Drops vars g
  all_drop g p l e i t h = ⊎_elim
      (λ k. entry_drops (look g i) (plain_at p i) t (e i k) h)
      (λ k. let n = look_past g i (omega arith) in absurd (cc))
      (below_or_not i (length p))

  differ : (i j : ℕ) → i ≢ j → (q : Bool) → nat_eq i j ≡ q → nat_eq i j ≡ false
  differ i j ne true h = absurd (ne (eqb-true i j h))
  differ i j ne false h = h

  pub others_drop : (j : ℕ) (g : Context) (p : List Tau) → length g ≡ length p → ((i : ℕ) → i < length p → Entry (nat_eq i j) (look g i) (plain_at p i)) → DropsBut vars j g
  others_drop j g p l e i t ne h = ⊎_elim
      (λ k. entry_drops (look g i) (plain_at p i) t (subst (λ q. Entry q (look g i) (plain_at p i)) (differ i j ne (nat_eq i j) refl) (e i k)) h)
      (λ k. let n = look_past g i (omega arith) in absurd (cc))
      (below_or_not i (length p))

  -- one branch's entry
  pub branch_entry : (a b : Bool) (o : Option Tau) (t : Tau) → Entry (a || b) o t → (a ≡ false → b ≡ true → drops vars t ≡ true) → Entry a o t
  branch_entry true b o t e d = e
  branch_entry false true o t e d = subst (λ o. Entry false o t) (sym e) (refl, d refl refl)
  branch_entry false false o t e d = e

  pub flip : (a b : Bool) (o : Option Tau) (t : Tau) → Entry (a || b) o t → Entry (b || a) o t
  flip true true o t e = e
  flip true false o t e = e
  flip false true o t e = e
  flip false false o t e = e
