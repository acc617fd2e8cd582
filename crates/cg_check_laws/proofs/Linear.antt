-- A variable that can be neither dropped nor shared is used exactly once.
use Rattle.std.proofs.Common.{◌≡◌, ℕ, ◌+◌, ◌<◌, Bool, true, false, cond, Option, Some, None, List, [], length, refl, sym, ap, subst, arith, nat_eq, eqb-true, eq-eqb}
use Rattle.cg_base.specs.declared.kind.Kinds.{Kinds}
use Rattle.cg_base.specs.Types.{Tau}
use Rattle.cg_core.specs.declared.derivation.Mark.{Mark}
use Rattle.cg_core.specs.declared.derivation.Mark.TheVariants.{Gone, Left, Right, Both, Seen}
use Rattle.cg_core.specs.declared.term.Seen.{Seen as Observer}
use Rattle.cg_core.specs.Derivations.{Derivation, Derivations}
use Rattle.cg_core.specs.Kernels.{Function}
use Rattle.cg_core.specs.Terms.{Tree, term, Shape, var, unit, bool, lit, fun, op, app, lets, let_bang, if_else, con, case_of, esac, struct, member, take_field, put, cast, annot, none, more, Named, end, field, Note}
use Rattle.cg_typing.specs.Contexts.{Context, look, mark_at, push, first_side, second_side, first, second, among, drops, shares, Fits, Splits, Drops, DropsBut}
use Rattle.cg_typing.specs.Rules.{Derives, DerivesFields}
use Rattle.cg_typing.specs.Trees.{marks_of, first_marks}
use Rattle.cg_check_def.specs.Uses.{InTurn, InView, Uses, UsesFields, LinearVariablesAreUsedOnce}
use Rattle.cg_check_laws.proofs.Basics.{look_first, look_second, length_push, look_old, look_within}
use Rattle.cg_check_uses.proofs.Numbers.{apart}
use Rattle.cg_typing.proofs.Lists.{first_as_many as length_first, second_as_many as length_second}

module _ (vars : List Kinds) where
  -- an entry that is there n times: gone, or one that can be neither dropped nor shared
  abbrev pub Linear : Option Tau → ℕ → Type 0
  Linear None n = n ≡ 0
  Linear (Some t) n = (n ≡ 1) × (drops vars t ≡ false) × (shares vars t ≡ false)

  -- each such entry goes one way
  pub record Shared (o p : Option Tau) (n : ℕ) : Type 0 where
    pub before : ℕ
    pub behind : ℕ
    pub first : Linear o before
    pub second : Linear p behind
    pub sum : n ≡ before + behind

  goes : (m : Mark) (o : Option Tau) (n : ℕ) → Fits vars false m o → Linear o n → Shared (first_side m o) (second_side m o) n
  goes Gone None n f l = record { before = 0; behind = 0; first = refl; second = refl; sum = l }
  goes Left (Some t) n f l = record { before = n; behind = 0; first = l; second = refl; sum = omega arith }
  goes Right (Some t) n f l = record { before = 0; behind = n; first = refl; second = l; sum = omega arith }
  goes Both (Some t) n f l = apart (shares vars t) f.0 l.2
  goes Seen (Some t) n f l = absurd (cc)
  goes Gone (Some t) n f l = absurd f
  goes Left None n f l = absurd f
  goes Right None n f l = absurd f
  goes Both None n f l = absurd f
  goes Seen None n f l = absurd f

  -- an observed one stays on the second side
  stays : (m : Mark) (o : Option Tau) (n : ℕ) → Fits vars true m o → Linear o n → Linear (second_side m o) n
  stays Seen (Some t) n f l = l
  stays Gone None n f l = absurd (cc)
  stays Left (Some t) n f l = absurd (cc)
  stays Right (Some t) n f l = absurd (cc)
  stays Both (Some t) n f l = absurd (let z = f.1 in cc)
  stays Gone (Some t) n f l = absurd f
  stays Left None n f l = absurd f
  stays Right None n f l = absurd f
  stays Both None n f l = absurd f
  stays Seen None n f l = absurd f

  -- the same of a context
  goes_in : (os : List Observer) (m : List Mark) (g : Context) → Splits vars os m g → (i n : ℕ) → among i os ≡ false → i < length g → Linear (look g i) n
      → Shared (look (first m g) i) (look (second m g) i) n
  goes_in os m g s i n q lt l =
      subst (λ o. Shared o (look (second m g) i) n) (sym (look_first m g i)) (subst (λ o. Shared (first_side (mark_at m i) (look g i)) o n) (sym (look_second m g i))
      (goes (mark_at m i) (look g i) n (subst (λ b. Fits vars b (mark_at m i) (look g i)) q (s.fits i lt)) l))

  stays_in : (os : List Observer) (m : List Mark) (g : Context) → Splits vars os m g → (i n : ℕ) → among i os ≡ true → i < length g → Linear (look g i) n → Linear (look (second m g) i) n
  stays_in os m g s i n q lt l =
      subst (λ o. Linear o n) (sym (look_second m g i)) (stays (mark_at m i) (look g i) n (subst (λ b. Fits vars b (mark_at m i) (look g i)) q (s.fits i lt)) l)

  pushed : (g : Context) (o : Option Tau) (i n : ℕ) → i < length g → Linear (look g i) n → Linear (look (push g o) i) n
  pushed g o i n lt l = subst (λ x. Linear x n) (sym (look_old g o i lt)) l

  longer : (g : Context) (o : Option Tau) (i : ℕ) → i < length g → i < length (push g o)
  longer g o i lt = omega (arith, length_push g o)

  none_left : (g : Context) → Drops vars g → (i n : ℕ) → Linear (look g i) n → n ≡ 0
  none_left g d i n l = go (look g i) refl l
    where
      go : (o : Option Tau) → look g i ≡ o → Linear o n → n ≡ 0
      go None e l = l
      go (Some t) e l = apart (drops vars t) (d i t e) l.1

  one_left : (g : Context) (i j n : ℕ) (t : Tau) → look g j ≡ Some t → DropsBut vars j g → Linear (look g i) n → n ≡ cond (nat_eq i j) 1 0
  one_left g i j n t present others l = go (nat_eq i j) refl (look g i) refl l
    where
      go : (q : Bool) → nat_eq i j ≡ q → (o : Option Tau) → look g i ≡ o → Linear o n → n ≡ cond q 1 0
      go true e None f l = let z = eqb-true i j e in let y = ap (λ i. look g i) z in absurd (cc)
      go true e (Some u) f l = l.0
      go false e None f l = l
      go false e (Some u) f l = apart (drops vars u) (others i u (λ z. apart (nat_eq i j) (eq-eqb i j z) e) f) l.1

module _ (functions : List Function) (vars : List Kinds) where
  abbrev Counts : Tree Note → Type 0
  Counts c = (g : Context) (d : Derivation) (dir : Option Tau) → Derives functions vars g d dir c → (i n : ℕ) → i < length g → Linear vars (look g i) n → Uses i c n

  abbrev CountsFields : Named Note → Type 0
  CountsFields fs = (g : Context) (strings : List (List Mark)) (ds : Derivations) (dir : Option Tau) → DerivesFields functions vars g strings ds dir fs
      → (i n : ℕ) → i < length g → Linear vars (look g i) n → UsesFields i fs n

  -- two parts, of which what is said of each side is told
  turn : (m : List Mark) (g : Context) (X Y : ℕ → Type 0) (i n : ℕ) → Splits vars [] m g → i < length g → Linear vars (look g i) n
      → ((a : ℕ) → i < length (first m g) → Linear vars (look (first m g) i) a → X a) → ((b : ℕ) → i < length (second m g) → Linear vars (look (second m g) i) b → Y b) → InTurn X Y n
  turn m g X Y i n s lt l f h =
      let w = goes_in vars [] m g s i n refl lt l in
      record {
        before = w.before;
        behind = w.behind;
        first = f w.before (subst (λ k. i < k) (sym (length_first m g s.long)) lt) w.first;
        second = h w.behind (subst (λ k. i < k) (sym (length_second m g s.long)) lt) w.second;
        sum = w.sum;
      }

  last_turn : (X : ℕ → Type 0) (n : ℕ) → X n → InTurn X (λ b. b ≡ 0) n
  last_turn X n x = record { before = n; behind = 0; first = x; second = refl; sum = omega arith }

  view : (os : List Observer) (m : List Mark) (g : Context) (X Y : ℕ → Type 0) (i n : ℕ) → Splits vars os m g → i < length g → Linear vars (look g i) n
      → ((a : ℕ) → i < length (first m g) → Linear vars (look (first m g) i) a → X a) → ((b : ℕ) → i < length (second m g) → Linear vars (look (second m g) i) b → Y b)
      → InView (among i os) X Y n
  view os m g X Y i n s lt l f h = go (among i os) refl
    where
      lt1 : i < length (first m g)
      lt1 = subst (λ k. i < k) (sym (length_first m g s.long)) lt

      lt2 : i < length (second m g)
      lt2 = subst (λ k. i < k) (sym (length_second m g s.long)) lt

      go : (q : Bool) → among i os ≡ q → InView q X Y n
      go true e = h n lt2 (stays_in vars os m g s i n e lt l)
      go false e = let w = goes_in vars os m g s i n e lt l in
          record { before = w.before; behind = w.behind; first = f w.before lt1 w.first; second = h w.behind lt2 w.second; sum = w.sum }

  mutual
    pub counts : (c : Tree Note) → Counts c
    counts (term a shape) = counts_shape a shape

    counts_shape : (a : Note) (shape : Shape Note) → Counts (term a shape)
    counts_shape a (var j) g d dir h i n lt l = one_left vars g i j n a.ty h.present h.others l
    counts_shape a unit g d dir h i n lt l = none_left vars g h.others i n l
    counts_shape a (bool b) g d dir h i n lt l = none_left vars g h.others i n l
    counts_shape a (lit v) g d dir h i n lt l = none_left vars g h.others i n l
    counts_shape a (fun f args) g d dir h i n lt l = none_left vars g h.others i n l
    counts_shape a (op o none) g d dir h i n lt l = absurd h
    counts_shape a (op o (more x none)) g d dir h i n lt l = last_turn (λ a. Uses i x a) n (counts x _ _ _ h.operand i n lt l)
    counts_shape a (op o (more x (more y none))) g d dir h i n lt l =
        turn (marks_of d) g (λ a. Uses i x a) _ i n h.splits lt l (λ a lt l. counts x _ _ _ h.left i a lt l) (λ b lt l. last_turn (λ a. Uses i y a) b (counts y _ _ _ h.right i b lt l))
    counts_shape a (op o (more x (more y (more z ts)))) g d dir h i n lt l = absurd h
    counts_shape a (app f x) g d dir h i n lt l =
        turn (marks_of d) g (λ a. Uses i f a) (λ b. Uses i x b) i n h.splits lt l (λ a lt l. counts f _ _ _ h.function i a lt l) (λ b lt l. counts x _ _ _ h.argument i b lt l)
    counts_shape a (lets v e k) g d dir h i n lt l =
        turn (marks_of d) g (λ a. Uses i e a) (λ b. Uses i k b) i n h.splits lt l (λ a lt l. counts e _ _ _ h.value i a lt l)
        (λ b lt l. counts k _ _ _ h.body i b (longer vars _ _ i lt) (pushed vars _ _ i b lt l))
    counts_shape a (let_bang os v e k) g d dir h i n lt l =
        view os (marks_of d) g (λ a. Uses i e a) (λ b. Uses i k b) i n h.splits lt l (λ a lt l. counts e _ _ _ h.value i a lt l)
        (λ b lt l. counts k _ _ _ h.body i b (longer vars _ _ i lt) (pushed vars _ _ i b lt l))
    counts_shape a (if_else c x y) g d dir h i n lt l =
        turn (marks_of d) g (λ a. Uses i c a) (λ b. Uses i x b × Uses i y b) i n h.splits lt l (λ a lt l. counts c _ _ _ h.condition i a lt l)
        (λ b lt l. (counts x _ _ _ h.first i b lt l, counts y _ _ _ h.second i b lt l))
    counts_shape a (con name e) g d dir h i n lt l = counts e _ _ _ h.payload i n lt l
    counts_shape a (case_of e at v x y) g d dir h i n lt l =
        turn (marks_of d) g (λ a. Uses i e a) (λ b. Uses i x b × Uses i y b) i n h.splits lt l (λ a lt l. counts e _ _ _ h.subject i a lt l)
        (λ b lt l. (counts x _ _ _ h.first i b (longer vars _ _ i lt) (pushed vars _ _ i b lt l), counts y _ _ _ h.second i b (longer vars _ _ i lt) (pushed vars _ _ i b lt l)))
    counts_shape a (esac at e) g d dir h i n lt l = counts e _ _ _ h.subject i n lt l
    counts_shape a (struct fs) g d dir h i n lt l = counts_fields fs _ _ _ _ h.fields i n lt l
    counts_shape a (member e at) g d dir h i n lt l = counts e _ _ _ h.whole i n lt l
    counts_shape a (take_field e at v w k) g d dir h i n lt l =
        turn (marks_of d) g (λ a. Uses i e a) (λ b. Uses i k b) i n h.splits lt l (λ a lt l. counts e _ _ _ h.whole i a lt l)
        (λ b lt l. counts k _ _ _ h.body i b (longer vars _ _ i (longer vars _ _ i lt)) (pushed vars _ _ i b (longer vars _ _ i lt) (pushed vars _ _ i b lt l)))
    counts_shape a (put e at x) g d dir h i n lt l =
        turn (marks_of d) g (λ a. Uses i e a) (λ b. Uses i x b) i n h.splits lt l (λ a lt l. counts e _ _ _ h.whole i a lt l) (λ b lt l. counts x _ _ _ h.value i b lt l)
    counts_shape a (cast e) g d dir h i n lt l = counts e _ _ _ h.operand i n lt l
    counts_shape a (annot e t) g d dir h i n lt l = counts e _ _ _ h.value i n lt l

    counts_fields : (fs : Named Note) → CountsFields fs
    counts_fields end g strings ds dir h i n lt l = absurd h
    counts_fields (field name e end) g strings ds dir h i n lt l = last_turn (λ a. Uses i e a) n (counts e _ _ _ h.value i n lt l)
    counts_fields (field name e (field later x fs)) g strings ds dir h i n lt l =
        turn (first_marks strings) g (λ a. Uses i e a) (λ b. UsesFields i (field later x fs) b) i n h.splits lt l (λ a lt l. counts e _ _ _ h.value i a lt l)
        (λ b lt l. counts_fields (field later x fs) _ _ _ _ h.later i b lt l)

pub linear : LinearVariablesAreUsedOnce
linear = record {
  present = λ functions vars g d direction c h i t is nd ns. counts functions vars c g d direction h i 1 (look_within g i t is) (subst (λ o. Linear vars o 1) (sym is) (refl, nd, ns));
  gone = λ functions vars g d direction c h i lt is. counts functions vars c g d direction h i 0 lt (subst (λ o. Linear vars o 0) (sym is) refl);
}
