-- What a derivation with any splits tells of an entry: a gone one is not touched, and one that is not used can be dropped.
use Rattle.std.proofs.Common.{◌≡◌, ℕ, ◌<◌, Bool, true, false, ◌&&◌, ◌||◌, not, IsTrue, Option, Some, None, List, [], length, refl, sym, ap, subst, arith, nat_eq, eqb-true, eq-eqb}
use Rattle.cg_base.specs.declared.kind.Kinds.{Kinds}
use Rattle.cg_base.specs.declared.place.Place.{Place}
use Rattle.cg_base.specs.Types.{Tau}
use Rattle.cg_core.specs.declared.derivation.Mark.{Mark}
use Rattle.cg_core.specs.declared.derivation.Mark.TheVariants.{Gone, Left, Right, Both, Seen}
use Rattle.cg_core.specs.declared.term.Seen.{Seen as Observer}
use Rattle.cg_core.specs.Derivations.{Derivation, Derivations}
use Rattle.cg_core.specs.Kernels.{Function}
use Rattle.cg_core.specs.Terms.{Tree, term, Shape, var, unit, bool, lit, fun, op, app, lets, let_bang, if_else, con, case_of, esac, struct, member, take_field, put, cast, annot, none, more, Named, end, field, Note, erased, erased_named}
use Rattle.cg_typing.specs.Contexts.{Context, look, mark_at, push, first_side, second_side, first, second, among, drops, Fits, Splits, Drops, DropsBut}
use Rattle.cg_faults.specs.Occurrences.{touched, touched_fields, used, used_fields}
use Rattle.cg_typing.specs.Rules.{Derives, DerivesFields}
use Rattle.cg_typing.specs.Trees.{marks_of, first_marks}
use Rattle.cg_check_laws.proofs.Basics.{or_false, look_first, look_second, length_push, look_old}
use Rattle.cg_check_uses.proofs.Numbers.{apart}
use Rattle.cg_base.proofs.Truths.{either_false as none_or}
use Rattle.cg_typing.proofs.Lists.{first_as_many as length_first, second_as_many as length_second}

module _ (vars : List Kinds) where
  abbrev pub Held : Bool → Bool → Option Tau → Type 0
  Held t u None = t ≡ false
  Held t u (Some a) = u ≡ false → IsTrue (drops vars a)

  not_left : (a b : Bool) → a ≡ false → (not a && b) ≡ false → b ≡ false
  not_left true b h k = absurd (cc)
  not_left false b h k = k

  held_split : (s a b ua ub : Bool) (m : Mark) (o : Option Tau) → Fits vars s m o → Held a ua (first_side m o) → Held b ub (second_side m o)
      → Held (s || (a || b)) ((not s && ua) || ub) o
  held_split s a b ua ub Gone None f x y = none_or s _ f (none_or a b x y)
  held_split s a b ua ub Left (Some t) f x y = λ h. x (not_left s ua f (or_false (not s && ua) ub h).0)
  held_split s a b ua ub Right (Some t) f x y = λ h. y (or_false (not s && ua) ub h).1
  held_split s a b ua ub Both (Some t) f x y = λ h. y (or_false (not s && ua) ub h).1
  held_split s a b ua ub Seen (Some t) f x y = λ h. y (or_false (not s && ua) ub h).1
  held_split s a b ua ub Gone (Some t) f x y = absurd f
  held_split s a b ua ub Left None f x y = absurd f
  held_split s a b ua ub Right None f x y = absurd f
  held_split s a b ua ub Both None f x y = absurd f
  held_split s a b ua ub Seen None f x y = absurd f

  -- two parts, with any observers
  pub held_two : (os : List Observer) (m : List Mark) (g : Context) → Splits vars os m g → (a b ua ub : ℕ → Bool)
      → ((i : ℕ) → i < length (first m g) → Held (a i) (ua i) (look (first m g) i)) → ((i : ℕ) → i < length (second m g) → Held (b i) (ub i) (look (second m g) i))
      → (i : ℕ) → i < length g → Held (among i os || (a i || b i)) ((not (among i os) && ua i) || ub i) (look g i)
  held_two os m g s a b ua ub x y i lt =
      let l1 = length_first m g s.long in let l2 = length_second m g s.long in
      held_split (among i os) (a i) (b i) (ua i) (ub i) (mark_at m i) (look g i) (s.fits i lt)
      (subst (λ o. Held (a i) (ua i) o) (look_first m g i) (x i (omega arith))) (subst (λ o. Held (b i) (ub i) o) (look_second m g i) (y i (omega arith)))

  abbrev pub HeldIn : Context → Tree Place → Type 0
  HeldIn g e = (i : ℕ) → i < length g → Held (touched i e) (used i e) (look g i)

  pub held_old : (g : Context) (o : Option Tau) (e : Tree Place) → HeldIn (push g o) e → HeldIn g e
  held_old g o e h i lt = subst (λ o. Held (touched i e) (used i e) o) (look_old g o i lt) (h i (let n = length_push g o in omega arith))

  held_drops : (g : Context) → Drops vars g → (i : ℕ) → Held false false (look g i)
  held_drops g d i = go (look g i) refl
    where
      go : (o : Option Tau) → look g i ≡ o → Held false false o
      go None e = refl
      go (Some t) e = λ u. d i t e

  pub held_or : (a b ua ub : Bool) (o : Option Tau) → Held a ua o → Held b ub o → Held (a || b) (ua || ub) o
  held_or a b ua ub None x y = none_or a b x y
  held_or a b ua ub (Some t) x y = λ h. x (or_false ua ub h).0

  or_none : (x : Bool) → (x || false) ≡ x
  or_none true = refl
  or_none false = refl

  held_last : (a ua : Bool) (o : Option Tau) → Held a ua o → Held (a || false) (ua || false) o
  held_last a ua o h = subst (λ x. Held x (ua || false) o) (sym (or_none a)) (subst (λ x. Held a x o) (sym (or_none ua)) h)

  held_var : (g : Context) (i j : ℕ) (t : Tau) → look g j ≡ Some t → DropsBut vars j g → Held (nat_eq i j) (nat_eq i j) (look g i)
  held_var g i j t present others = go (nat_eq i j) refl (look g i) refl
    where
      go : (q : Bool) → nat_eq i j ≡ q → (o : Option Tau) → look g i ≡ o → Held q q o
      go true e None n = let z = eqb-true i j e in let y = ap (λ i. look g i) z in absurd (cc)
      go true e (Some t) n = λ u. absurd (cc)
      go false e None n = refl
      go false e (Some t) n = λ u. others i t (λ z. apart (nat_eq i j) (eq-eqb i j z) e) n

module _ (functions : List Function) (vars : List Kinds) where
  abbrev pub D : Context → Derivation → Option Tau → Tree Note → Type 0
  D = Derives functions vars

  abbrev pub Holds : Tree Note → Type 0
  Holds c = (g : Context) (d : Derivation) (dir : Option Tau) → D g d dir c → HeldIn vars g (erased c)

  abbrev pub HoldsFields : Named Note → Type 0
  HoldsFields fs = (g : Context) (strings : List (List Mark)) (ds : Derivations) (dir : Option Tau) → DerivesFields functions vars g strings ds dir fs
      → (i : ℕ) → i < length g → Held vars (touched_fields i (erased_named fs)) (used_fields i (erased_named fs)) (look g i)

  abbrev t_ : Tree Note → ℕ → Bool
  t_ c i = touched i (erased c)

  abbrev u_ : Tree Note → ℕ → Bool
  u_ c i = used i (erased c)

  mutual
    unfolding erased

    pub held : (c : Tree Note) → Holds c
    held (term a shape) = held_shape a shape

    held_shape : (a : Note) (shape : Shape Note) → Holds (term a shape)
    held_shape a (var j) g d dir h i lt = held_var vars g i j a.ty h.present h.others
    held_shape a unit g d dir h i lt = held_drops vars g h.others i
    held_shape a (bool b) g d dir h i lt = held_drops vars g h.others i
    held_shape a (lit v) g d dir h i lt = held_drops vars g h.others i
    held_shape a (fun f args) g d dir h i lt = held_drops vars g h.others i
    held_shape a (op o none) g d dir h i lt = absurd h
    held_shape a (op o (more x none)) g d dir h i lt = held_last vars (t_ x i) (u_ x i) (look g i) (held x _ _ _ h.operand i lt)
    held_shape a (op o (more l (more r none))) g d dir h i lt =
        held_two vars [] (marks_of d) g h.splits (t_ l) (λ i. t_ r i || false) (u_ l) (λ i. u_ r i || false) (held l _ _ _ h.left)
        (λ i lt. held_last vars (t_ r i) (u_ r i) (look (second (marks_of d) g) i) (held r _ _ _ h.right i lt)) i lt
    held_shape a (op o (more l (more r (more x ts)))) g d dir h i lt = absurd h
    held_shape a (app f x) g d dir h i lt = held_two vars [] (marks_of d) g h.splits (t_ f) (t_ x) (u_ f) (u_ x) (held f _ _ _ h.function) (held x _ _ _ h.argument) i lt
    held_shape a (lets v e k) g d dir h i lt =
        held_two vars [] (marks_of d) g h.splits (t_ e) (t_ k) (u_ e) (u_ k) (held e _ _ _ h.value) (held_old vars _ _ (erased k) (held k _ _ _ h.body)) i lt
    held_shape a (let_bang os v e k) g d dir h i lt =
        held_two vars os (marks_of d) g h.splits (t_ e) (t_ k) (u_ e) (u_ k) (held e _ _ _ h.value) (held_old vars _ _ (erased k) (held k _ _ _ h.body)) i lt
    held_shape a (if_else c x y) g d dir h i lt =
        held_two vars [] (marks_of d) g h.splits (t_ c) (λ i. t_ x i || t_ y i) (u_ c) (λ i. u_ x i || u_ y i) (held c _ _ _ h.condition)
        (λ i lt. held_or vars (t_ x i) (t_ y i) (u_ x i) (u_ y i) _ (held x _ _ _ h.first i lt) (held y _ _ _ h.second i lt)) i lt
    held_shape a (con n e) g d dir h i lt = held e _ _ _ h.payload i lt
    held_shape a (case_of e at v x y) g d dir h i lt =
        held_two vars [] (marks_of d) g h.splits (t_ e) (λ i. t_ x i || t_ y i) (u_ e) (λ i. u_ x i || u_ y i) (held e _ _ _ h.subject)
        (λ i lt. held_or vars (t_ x i) (t_ y i) (u_ x i) (u_ y i) _ (held_old vars _ _ (erased x) (held x _ _ _ h.first) i lt) (held_old vars _ _ (erased y) (held y _ _ _ h.second) i lt)) i lt
    held_shape a (esac at e) g d dir h i lt = held e _ _ _ h.subject i lt
    held_shape a (struct fs) g d dir h i lt = held_fields fs _ _ _ _ h.fields i lt
    held_shape a (member e at) g d dir h i lt = held e _ _ _ h.whole i lt
    held_shape a (take_field e at v w k) g d dir h i lt =
        held_two vars [] (marks_of d) g h.splits (t_ e) (t_ k) (u_ e) (u_ k) (held e _ _ _ h.whole) (held_old vars _ _ (erased k) (held_old vars _ _ (erased k) (held k _ _ _ h.body))) i lt
    held_shape a (put e at x) g d dir h i lt = held_two vars [] (marks_of d) g h.splits (t_ e) (t_ x) (u_ e) (u_ x) (held e _ _ _ h.whole) (held x _ _ _ h.value) i lt
    held_shape a (cast e) g d dir h i lt = held e _ _ _ h.operand i lt
    held_shape a (annot e t) g d dir h i lt = held e _ _ _ h.value i lt

    pub held_fields : (fs : Named Note) → HoldsFields fs
    held_fields end g strings ds dir h i lt = absurd h
    held_fields (field n e end) g strings ds dir h i lt = held_last vars (t_ e i) (u_ e i) (look g i) (held e _ _ _ h.value i lt)
    held_fields (field n e (field m x fs)) g strings ds dir h i lt =
        held_two vars [] (first_marks strings) g h.splits (t_ e) (λ i. touched_fields i (erased_named (field m x fs))) (u_ e) (λ i. used_fields i (erased_named (field m x fs)))
        (held e _ _ _ h.value) (held_fields (field m x fs) _ _ _ _ h.later) i lt
