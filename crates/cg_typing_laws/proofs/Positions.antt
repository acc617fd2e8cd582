-- One entry more, which is gone, within contexts and marks: entries, splits, and what may be dropped.
use Rattle.std.proofs.Common.{◌≡◌, ℕ, zero, suc, ◌<◌, ◌≤◌, Bool, true, false, ◌||◌, Option, None, List, [], ◌∷◌, map, length, ◌⊎◌, inl, inr, ⊎_elim, refl, sym, ap, ◌∙◌, subst, arith, nat_eq, eqb-true, eq-eqb}
use Rattle.std.proofs.lemmas.List.Elements.{All-map}
use Rattle.cg_base.specs.declared.kind.Kinds.{Kinds}
use Rattle.cg_base.specs.Types.{Tau}
use Rattle.cg_core.specs.declared.derivation.Mark.{Mark}
use Rattle.cg_core.specs.declared.derivation.Mark.TheVariants.{Gone}
use Rattle.cg_core.specs.declared.term.Seen.{Seen as Observer}
use Rattle.cg_typing.specs.Contexts.{Context, look, mark_at, push, first_side, second_side, first, second, among, Fits, Splits, Drops, DropsBut}
use Rattle.cg_check_laws.proofs.Basics.{length_push}
use Rattle.cg_typing.specs.Inserted.{inserted, raised, raise_observer}
use Rattle.cg_base.proofs.Truths.{same_test as same_truth}
use Rattle.cg_typing.proofs.Lists.{first_as_many as length_first, second_as_many as length_second}

-- ---- positions

-- a position is the new one or an old one
pub where_is : (k i : ℕ) → (i ≡ k) ⊎ ((j : ℕ) × (i ≡ raised k j))
where_is zero zero = inl refl
where_is zero (suc i) = inr (i, refl)
where_is (suc k) zero = inr (zero, refl)
where_is (suc k) (suc i) = ⊎_elim (λ e. inl (ap suc e)) (λ p. inr (suc p.0, ap suc p.1)) (where_is k i)

below : (k j n : ℕ) → k ≤ n → raised k j < suc n → j < n
below zero j n b lt = omega arith
below (suc k) zero n b lt = omega arith
below (suc k) (suc j) zero b lt = absurd (omega arith)
below (suc k) (suc j) (suc n) b lt = let q = below k j n (omega arith) (omega arith) in omega arith

raised_within : (k j n : ℕ) → j < n → raised k j < suc n
raised_within zero j n lt = omega arith
raised_within (suc k) zero n lt = omega arith
raised_within (suc k) (suc j) zero lt = absurd (omega arith)
raised_within (suc k) (suc j) (suc n) lt = let l = raised_within k j n (omega arith) in omega arith

raised_apart : (k i j : ℕ) → raised k i ≡ raised k j → i ≡ j
raised_apart zero i j e = omega arith
raised_apart (suc k) zero zero e = refl
raised_apart (suc k) zero (suc j) e = absurd (omega arith)
raised_apart (suc k) (suc i) zero e = absurd (omega arith)
raised_apart (suc k) (suc i) (suc j) e = ap suc (raised_apart k i j (omega arith))

raised_past : (k j : ℕ) → k ≡ raised k j → ⊥
raised_past zero j e = absurd (omega arith)
raised_past (suc k) zero e = absurd (omega arith)
raised_past (suc k) (suc j) e = raised_past k j (omega arith)

pub no_truth : (a : Bool) → (a ≡ true → ⊥) → a ≡ false
no_truth true f = absurd (f refl)
no_truth false f = refl

same_test : (k i j : ℕ) → nat_eq (raised k i) (raised k j) ≡ nat_eq i j
same_test k i j = same_truth _ _ (λ h. eq-eqb i j (raised_apart k i j (eqb-true _ _ h))) (λ h. eq-eqb _ _ (ap (raised k) (eqb-true i j h)))

new_test : (k j : ℕ) → nat_eq k (raised k j) ≡ false
new_test k j = no_truth _ (λ h. raised_past k j (eqb-true _ _ h))

among_raised : (k i : ℕ) (os : List Observer) → among (raised k i) (map (raise_observer k) os) ≡ among i os
among_raised k i [] = refl
among_raised k i (o ∷ os) = ap (λ b. b || among (raised k i) (map (raise_observer k) os)) (same_test k i o.var) ∙ ap (λ b. nat_eq i o.var || b) (among_raised k i os)

among_new : (k : ℕ) (os : List Observer) → among k (map (raise_observer k) os) ≡ false
among_new k [] = refl
among_new k (o ∷ os) = ap (λ b. b || among k (map (raise_observer k) os)) (new_test k o.var) ∙ among_new k os

-- ---- lists

length_inserted : {A : Type 0} (k : ℕ) (x : A) (xs : List A) → length (inserted k x xs) ≡ suc (length xs)
length_inserted zero x xs = refl
length_inserted (suc k) x [] = refl
length_inserted (suc k) x (y ∷ ys) = ap suc (length_inserted k x ys)

pub look_old : (k : ℕ) (o : Option Tau) (g : Context) (i : ℕ) → k ≤ length g → look (inserted k o g) (raised k i) ≡ look g i
look_old zero o g i b = refl
look_old (suc k) o [] i b = absurd (omega arith)
look_old (suc k) o (x ∷ g) zero b = refl
look_old (suc k) o (x ∷ g) (suc i) b = look_old k o g i (omega arith)

look_new : (k : ℕ) (o : Option Tau) (g : Context) → k ≤ length g → look (inserted k o g) k ≡ o
look_new zero o g b = refl
look_new (suc k) o [] b = absurd (omega arith)
look_new (suc k) o (x ∷ g) b = look_new k o g (omega arith)

mark_old : (k : ℕ) (m : Mark) (ms : List Mark) (i : ℕ) → k ≤ length ms → mark_at (inserted k m ms) (raised k i) ≡ mark_at ms i
mark_old zero m ms i b = refl
mark_old (suc k) m [] i b = absurd (omega arith)
mark_old (suc k) m (x ∷ ms) zero b = refl
mark_old (suc k) m (x ∷ ms) (suc i) b = mark_old k m ms i (omega arith)

mark_new : (k : ℕ) (m : Mark) (ms : List Mark) → k ≤ length ms → mark_at (inserted k m ms) k ≡ m
mark_new zero m ms b = refl
mark_new (suc k) m [] b = absurd (omega arith)
mark_new (suc k) m (x ∷ ms) b = mark_new k m ms (omega arith)

first_inserted : (k : ℕ) (ms : List Mark) (g : Context) → length ms ≡ length g → k ≤ length g → first (inserted k Gone ms) (inserted k None g) ≡ inserted k None (first ms g)
first_inserted zero ms g e b = refl
first_inserted (suc k) ms [] e b = absurd (omega arith)
first_inserted (suc k) [] (o ∷ g) e b = absurd (omega arith)
first_inserted (suc k) (m ∷ ms) (o ∷ g) e b = ap (λ h. first_side m o ∷ h) (first_inserted k ms g (omega arith) (omega arith))

second_inserted : (k : ℕ) (ms : List Mark) (g : Context) → length ms ≡ length g → k ≤ length g → second (inserted k Gone ms) (inserted k None g) ≡ inserted k None (second ms g)
second_inserted zero ms g e b = refl
second_inserted (suc k) ms [] e b = absurd (omega arith)
second_inserted (suc k) [] (o ∷ g) e b = absurd (omega arith)
second_inserted (suc k) (m ∷ ms) (o ∷ g) e b = ap (λ h. second_side m o ∷ h) (second_inserted k ms g (omega arith) (omega arith))

pub push_inserted : (k : ℕ) (g : Context) (o : Option Tau) → k ≤ length g → push (inserted k None g) o ≡ inserted k None (push g o)
push_inserted zero g o b = refl
push_inserted (suc k) [] o b = absurd (omega arith)
push_inserted (suc k) (x ∷ g) o b = ap (λ h. x ∷ h) (push_inserted k g o (omega arith))

-- ---- splits and drops

module _ (vars : List Kinds) (k : ℕ) where
  fits_same : (b c : Bool) (m n : Mark) (o p : Option Tau) → b ≡ c → m ≡ n → o ≡ p → Fits vars c n p → Fits vars b m o
  fits_same b c m n o p x y z f = subst (λ b. Fits vars b m o) (sym x) (subst (λ m. Fits vars c m o) (sym y) (subst (Fits vars c n) (sym z) f))

  observer_inserted : (g : Context) (j : ℕ) → j < length g → raised k j < length (inserted k None g)
  observer_inserted g j lt = subst (λ n. raised k j < n) (sym (length_inserted k None g)) (raised_within k j (length g) lt)

  pub splits_inserted : (os : List Observer) (ms : List Mark) (g : Context) → k ≤ length g → Splits vars os ms g
      → Splits vars (map (raise_observer k) os) (inserted k Gone ms) (inserted k None g)
  splits_inserted os ms g b s =
      let long = s.long in let b' : k ≤ length ms = omega arith in record {
        long = length_inserted k Gone ms ∙ ap suc s.long ∙ sym (length_inserted k None g);
        fits = λ i lt. ⊎_elim
            (λ e. subst (λ i. Fits vars (among i (map (raise_observer k) os)) (mark_at (inserted k Gone ms) i) (look (inserted k None g) i)) (sym e)
            (fits_same _ false _ Gone _ None (among_new k os) (mark_new k Gone ms b') (look_new k None g b) refl))
            (λ p. subst (λ i. Fits vars (among i (map (raise_observer k) os)) (mark_at (inserted k Gone ms) i) (look (inserted k None g) i)) (sym p.1)
            (fits_same _ (among p.0 os) _ (mark_at ms p.0) _ (look g p.0) (among_raised k p.0 os) (mark_old k Gone ms p.0 b') (look_old k None g p.0 b)
            (s.fits p.0 (below k p.0 (length g) b (subst (λ i. i < suc (length g)) p.1 (subst (λ n. i < n) (length_inserted k None g) lt))))))
            (where_is k i);
        observed = All-map (λ (o : Observer). o.var < length (inserted k None g)) (raise_observer k) os (λ j o lt. observer_inserted g _ (s.observed j o lt));
      }

  pub first_part : (os : List Observer) (ms : List Mark) (g : Context) → k ≤ length g → Splits vars os ms g → first (inserted k Gone ms) (inserted k None g) ≡ inserted k None (first ms g)
  first_part os ms g b s = first_inserted k ms g s.long b

  pub second_part : (os : List Observer) (ms : List Mark) (g : Context) → k ≤ length g → Splits vars os ms g → second (inserted k Gone ms) (inserted k None g) ≡ inserted k None (second ms g)
  second_part os ms g b s = second_inserted k ms g s.long b

  pub below_first : (os : List Observer) (ms : List Mark) (g : Context) → k ≤ length g → Splits vars os ms g → k ≤ length (first ms g)
  below_first os ms g b s = subst (λ n. k ≤ n) (sym (length_first ms g s.long)) b

  pub below_second : (os : List Observer) (ms : List Mark) (g : Context) → k ≤ length g → Splits vars os ms g → k ≤ length (second ms g)
  below_second os ms g b s = subst (λ n. k ≤ n) (sym (length_second ms g s.long)) b

  pub below_push : (g : Context) (o : Option Tau) → k ≤ length g → k ≤ length (push g o)
  below_push g o b = let l = length_push g o in omega arith

  pub drops_inserted : (g : Context) → k ≤ length g → Drops vars g → Drops vars (inserted k None g)
  drops_inserted g b d i t e = ⊎_elim
      (λ q. let n = look_new k None g b in let m = ap (λ i. look (inserted k None g) i) q in absurd (cc))
      (λ p. d p.0 t (sym (look_old k None g p.0 b) ∙ sym (ap (λ i. look (inserted k None g) i) p.1) ∙ e)) (where_is k i)

  pub drops_but_inserted : (j : ℕ) (g : Context) → k ≤ length g → DropsBut vars j g → DropsBut vars (raised k j) (inserted k None g)
  drops_but_inserted j g b d i t n e = ⊎_elim
      (λ q. let n = look_new k None g b in let m = ap (λ i. look (inserted k None g) i) q in absurd (cc))
      (λ p. d p.0 t (λ q. n (p.1 ∙ ap (raised k) q)) (sym (look_old k None g p.0 b) ∙ sym (ap (λ i. look (inserted k None g) i) p.1) ∙ e)) (where_is k i)
