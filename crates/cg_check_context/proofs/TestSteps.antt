-- Tests of the pass, and what follows of their answers whatever comes behind them.
use Rattle.std.proofs.Common.{◌≡◌, ◌<◌, ◌≤◌, ℕ, zero, suc, Bool, true, false, not, ◌||◌, cond, List, [], ◌∷◌, ◌++◌, length, drop, Err, get_or, refl, sym, ap, ◌∙◌, arith, ◌+◌}
use Rattle.std.proofs.lemmas.List.{at_drop_more, at_drop_all}
use Rattle.cg_base.specs.declared.kind.Kinds.{Kinds}
use Rattle.cg_base.specs.declared.place.Place.{Place}
use Rattle.cg_base.specs.declared.ty.Ty.{the_lemmas}
use Rattle.cg_base.specs.Types.{Tau, unit}
use Rattle.cg_check_def.specs.Pass.{Out, need, observers_test, branches_test}
use Rattle.cg_check_context.specs.declared.source.Known.{Known}
use Rattle.cg_check_context.specs.View.{entries_of, type_of_known, types_in}
use Rattle.cg_core.specs.declared.term.Seen.{Seen}
use Rattle.cg_core.specs.Kernels.{Function}
use Rattle.cg_faults.specs.declared.rule.Rule.TheVariants.{K4, K5}
use Rattle.cg_check_uses.specs.declared.entry.Use.{Use}
use Rattle.cg_faults.specs.Plain.{plain_at}
use Rattle.cg_faults.specs.Rule.{rule}
use Rattle.cg_kinds.specs.Kinds.{kinds}
use Rattle.cg_typing.specs.Contexts.{push, shares, drops}
use Rattle.cg_check_uses.specs.Uses.{flag_at}
use Rattle.cg_check_laws.proofs.SameTypeTests.{same_when, same_unless}
use Rattle.cg_kinds.proofs.BangKinds.{bang_shares, bang_drops}

-- flags
pub flag_get : (bs : List Bool) (i : ℕ) (d : Bool) → i < length bs → flag_at bs i ≡ get_or bs i d
flag_get [] i d h = absurd (omega (arith, h))
flag_get (b ∷ bs) zero d h = refl
flag_get (b ∷ bs) (suc i) d h = flag_get bs i d (omega (arith, h))

pub flag_past : (bs : List Bool) (i : ℕ) → length bs ≤ i → flag_at bs i ≡ false
flag_past [] i h = refl
flag_past (b ∷ bs) zero h = absurd (omega (arith, h))
flag_past (b ∷ bs) (suc i) h = flag_past bs i (omega (arith, h))

pub push_flag : (bs : List Bool) (b : Bool) → bs ++ b ∷ [] ≡ push bs b
push_flag [] b = refl
push_flag (c ∷ bs) b = ap (λ us. c ∷ us) (push_flag bs b)

pub unit_shares : (vs : List Kinds) → (kinds vs unit).share ≡ true
unfolding kinds
unit_shares vs = refl

-- observers, one after another
module _ {A : Type 0} (functions : List Function) (vars : List Kinds) (p : List Tau) (before : List Bool) (os : List Seen) (k : Out A) where
  abbrev Rest : ℕ → Out A
  Rest i = observers_test functions vars p before (drop i os) k

  abbrev Fine : Seen → Bool
  Fine o = not (flag_at before o.var) || shares vars (plain_at p o.var)

  observers_rest : (i : ℕ) (d : Seen) → i < length os → Rest i ≡ need K4 (get_or os i d).place (Fine (get_or os i d)) (Rest (i + 1))
  observers_rest i d h = at_drop_more (λ l. observers_test functions vars p before l k) os i d h

  pub observers_more : (i : ℕ) (d : Seen) → i < length os → Fine (get_or os i d) ≡ true
      → observers_test functions vars p before (drop (i + 1) os) k ≡ observers_test functions vars p before (drop i os) k
  observers_more i d h e = sym (observers_rest i d h ∙ ap (λ b. need K4 (get_or os i d).place b (Rest (i + 1))) e)

  pub observers_stop : (i : ℕ) (d : Seen) → i < length os → Fine (get_or os i d) ≡ false
      → observers_test functions vars p before (drop i os) k ≡ Err (rule K4, (get_or os i d).place)
  observers_stop i d h e = observers_rest i d h ∙ ap (λ b. need K4 (get_or os i d).place b (Rest (i + 1))) e

  pub observers_past : (i : ℕ) → length os ≤ i → observers_test functions vars p before (drop i os) k ≡ k
  observers_past i h = at_drop_all (λ l. observers_test functions vars p before l k) os i h

-- variables behind branches, one after another
module _ {A : Type 0} (functions : List Function) (vars : List Kinds) (x y : Place) (ks : List Known) (us vs : List Use) (k : Out A) where
  abbrev Left : ℕ → Out A
  Left i = branches_test functions vars x y (types_in (entries_of (drop i ks))) (drop i us) (drop i vs) k

  abbrev Even : Known → Use → Use → Bool
  Even d u v = drops vars (type_of_known d) || cond u.used v.used (not v.used)

  branches_left : (i : ℕ) (d : Known) (u v : Use) → i < length ks → i < length us → i < length vs → d ≡ get_or ks i d → u ≡ get_or us i u → v ≡ get_or vs i v
      → Left i ≡ need K5 (cond u.used y x) (Even d u v) (Left (i + 1))
  branches_left i d u v h l m a b c =
      let more : Left i ≡ branches_test functions vars x y (types_in (entries_of (get_or ks i d ∷ drop (i + 1) ks))) (get_or us i u ∷ drop (i + 1) us) (get_or vs i v ∷ drop (i + 1) vs) k =
      at_drop_more (λ z. branches_test functions vars x y (types_in (entries_of z)) (drop i us) (drop i vs) k) ks i d h
      ∙ at_drop_more (λ z. branches_test functions vars x y (types_in (entries_of (get_or ks i d ∷ drop (i + 1) ks))) z (drop i vs) k) us i u l
      ∙ at_drop_more (λ z. branches_test functions vars x y (types_in (entries_of (get_or ks i d ∷ drop (i + 1) ks))) (get_or us i u ∷ drop (i + 1) us) z k) vs i v m in
      more
      ∙ ap (λ d. need K5 (cond (get_or us i u).used y x) (Even d (get_or us i u) (get_or vs i v)) (Left (i + 1))) (sym a)
      ∙ ap (λ u. need K5 (cond u.used y x) (Even d u (get_or vs i v)) (Left (i + 1))) (sym b)
      ∙ ap (λ v. need K5 (cond u.used y x) (Even d u v) (Left (i + 1))) (sym c)

  pub branches_more : (i : ℕ) (d : Known) (u v : Use) → i < length ks → i < length us → i < length vs → d ≡ get_or ks i d → u ≡ get_or us i u → v ≡ get_or vs i v
      → Even d u v ≡ true
      → branches_test functions vars x y (types_in (entries_of (drop (i + 1) ks))) (drop (i + 1) us) (drop (i + 1) vs) k
      ≡ branches_test functions vars x y (types_in (entries_of (drop i ks))) (drop i us) (drop i vs) k
  branches_more i d u v h l m a b c e = sym (branches_left i d u v h l m a b c ∙ ap (λ t. need K5 (cond u.used y x) t (Left (i + 1))) e)

  pub branches_stop : (i : ℕ) (d : Known) (u v : Use) → i < length ks → i < length us → i < length vs → d ≡ get_or ks i d → u ≡ get_or us i u → v ≡ get_or vs i v
      → Even d u v ≡ false
      → branches_test functions vars x y (types_in (entries_of (drop i ks))) (drop i us) (drop i vs) k ≡ Err (rule K5, cond u.used y x)
  branches_stop i d u v h l m a b c e = branches_left i d u v h l m a b c ∙ ap (λ t. need K5 (cond u.used y x) t (Left (i + 1))) e

-- the shortest list is over
pub branches_past : {A : Type 0} (functions : List Function) (vars : List Kinds) (x y : Place) (ks : List Known) (us vs : List Use) (k : Out A) (i : ℕ)
    → (i < length ks → i < length us → i < length vs → ⊥) → branches_test functions vars x y (types_in (entries_of (drop i ks))) (drop i us) (drop i vs) k ≡ k
branches_past functions vars x y [] us vs k zero h = refl
branches_past functions vars x y [] us vs k (suc i) h = refl
branches_past functions vars x y (d ∷ ks) [] vs k zero h = refl
branches_past functions vars x y (d ∷ ks) [] vs k (suc i) h = no_first (drop i ks) (drop (suc i) vs)
  where
    no_first : (ks : List Known) (vs : List Use) → branches_test functions vars x y (types_in (entries_of ks)) [] vs k ≡ k
    no_first [] vs = refl
    no_first (d ∷ ks) vs = refl
branches_past functions vars x y (d ∷ ks) (u ∷ us) [] k zero h = refl
branches_past functions vars x y (d ∷ ks) (u ∷ us) [] k (suc i) h = no_second (drop i ks) (drop i us)
  where
    no_second : (ks : List Known) (us : List Use) → branches_test functions vars x y (types_in (entries_of ks)) us [] k ≡ k
    no_second [] us = refl
    no_second (d ∷ ks) [] = refl
    no_second (d ∷ ks) (u ∷ us) = refl
branches_past functions vars x y (d ∷ ks) (u ∷ us) (v ∷ vs) k zero h = absurd (h (omega arith) (omega arith) (omega arith))
branches_past functions vars x y (d ∷ ks) (u ∷ us) (v ∷ vs) k (suc i) h = branches_past functions vars x y ks us vs k i (λ a b c. h (omega (arith, a)) (omega (arith, b)) (omega (arith, c)))

pub ruleset test_steps = (same_when, same_unless, flag_get, flag_past, push_flag, bang_shares, unit_shares, bang_drops, the_lemmas)

pub ruleset observer_steps = (observers_more, observers_stop, observers_past)

pub ruleset branch_steps = (branches_more, branches_stop, branches_past)
