-- The rows of nodes with one part, and of operators, where no event fails.
use Rattle.std.proofs.Common.{◌≡◌, ℕ, Bool, true, false, ◌||◌, not, cond, Option, Some, None, List, [], length, refl, sym, ap, ◌∙◌, subst}
use Rattle.cg_base.specs.declared.kind.Kinds.{Kinds}
use Rattle.cg_base.specs.declared.place.Place.{Place}
use Rattle.cg_base.specs.Types as types
use Rattle.cg_base.specs.Types.{Tau}
use Rattle.cg_core.specs.declared.at.At.{At}
use Rattle.cg_core.specs.declared.op.Op.{Op}
use Rattle.cg_core.specs.Kernels.{Function}
use Rattle.cg_core.specs.Terms.{Tree, term, var, unit, bool, lit, fun, op, app, lets, let_bang, if_else, con, case_of, esac, struct, member, take_field, put, cast, annot, none, more, Arg}
use Rattle.cg_typing.specs.Contexts.{Context, look, first, second}
use Rattle.cg_faults.specs.Events.{Event, Before, after, meets, binary_events, guided, unary_events, events, RulesHold}
use Rattle.cg_check_def.specs.NormalForm.{core, tree, marks, operand_type}
use Rattle.cg_faults.specs.Occurrences.{touched, sightings}
use Rattle.cg_typing.specs.Operators.{Sort, arithmetic, equality, order, logic, sort_of, takes, gives, operand}
use Rattle.cg_typing.specs.Parts.{alternative_in, held}
use Rattle.cg_faults.specs.Plain.{plain, plain_in, plain_at}
use Rattle.cg_typing.specs.Rules.{Derives, is_literal}
use Rattle.cg_check_laws.proofs.Basics.{hold_left, hold_right}
use Rattle.cg_check_laws.proofs.Clash.{clash}
use Rattle.cg_check_laws.proofs.Occurs.{seen_left, seen_right}
use Rattle.cg_check_laws.proofs.Parted.{Entry, parted}
use Rattle.cg_check_laws.proofs.SoundLeaves.{Has, Sound, SoundShape, meets_is, in_meets}
use Rattle.cg_base.proofs.Truths.{or_true as or_right}

-- ---- operators: what their events say of their operands

-- the type of the operands
abbrev pub operand_is : Sort → Tau → Tau
operand_is logic t = types.bool
operand_is arithmetic t = t
operand_is equality t = t
operand_is order t = t

pub way_is : (sort : Sort) (dir : Option Tau) (q : Bool) (t : Tau) → operand sort dir q (operand_is sort t) ≡ operand sort dir q t
way_is logic dir q t = refl
way_is arithmetic dir q t = refl
way_is equality dir q t = refl
way_is order dir q t = refl

pub literal_core : (functions : List Function) (p : List Tau) (dir : Option Tau) (e : Tree Place) → is_literal (core functions p dir e) ≡ is_literal e
literal_core functions p dir (term a (lit v)) = refl
literal_core functions p dir (term a (var i)) = refl
literal_core functions p dir (term a unit) = refl
literal_core functions p dir (term a (bool b)) = refl
literal_core functions p dir (term a (fun f args)) = refl
literal_core functions p dir (term a (op o none)) = refl
literal_core functions p dir (term a (op o (more x none))) = refl
literal_core functions p dir (term a (op o (more l (more r none)))) = refl
literal_core functions p dir (term a (op o (more l (more r (more x ts))))) = refl
literal_core functions p dir (term a (app f x)) = refl
literal_core functions p dir (term a (lets v e k)) = refl
literal_core functions p dir (term a (let_bang os v e k)) = refl
literal_core functions p dir (term a (if_else c x y)) = refl
literal_core functions p dir (term a (con n e)) = refl
literal_core functions p dir (term a (case_of e at v x y)) = refl
literal_core functions p dir (term a (esac at e)) = refl
literal_core functions p dir (term a (struct fs)) = refl
literal_core functions p dir (term a (member e at)) = refl
literal_core functions p dir (term a (take_field e at v w k)) = refl
literal_core functions p dir (term a (put e at x)) = refl
literal_core functions p dir (term a (cast e)) = refl
literal_core functions p dir (term a (annot e t)) = refl

-- a type that is met
pub meets_at : (functions : List Function) (p : List Tau) (dir : Option Tau) (e : Tree Place) (place : Place) (t : Tau) → plain functions p e ≡ t → RulesHold (meets dir place t)
    → plain_in functions p dir e ≡ t
meets_at functions p dir e place t is h = meets_is functions p dir e place (subst (λ u. RulesHold (meets dir place u)) (sym is) h) ∙ is

module _ (functions : List Function) (p : List Tau) (dir : Option Tau) (place : Place) where
  -- with one operand, in the direction that its core has
  pub record OneHolds (sort : Sort) (x whole : Tree Place) (part : Option Tau → List Event) : Type 0 where
    pub holds : RulesHold (part (operand sort dir true (operand_type sort dir (plain functions p x))))
    pub is : plain_in functions p (operand sort dir true (operand_type sort dir (plain functions p x))) x ≡ operand_is sort (operand_type sort dir (plain functions p x))
    pub takes : takes sort (operand_is sort (operand_type sort dir (plain functions p x))) ≡ true
    pub result : plain_in functions p dir whole ≡ gives sort (operand_is sort (operand_type sort dir (plain functions p x)))

module _ (functions : List Function) (p : List Tau) (place : Place) (x whole : Tree Place) (part : Option Tau → List Event) where
  pub one_holds : (sort : Sort) (dir : Option Tau) → plain functions p whole ≡ gives sort (plain functions p x)
      → RulesHold (unary_events sort dir place (plain functions p x) part) → OneHolds functions p dir place sort x whole part
  one_holds logic dir is h = record {
    holds = hold_left _ _ h;
    is = refl;
    takes = refl;
    result = meets_at functions p dir whole place types.bool is (hold_right (part (Some types.bool)) _ h);
  }
  one_holds arithmetic (Some t) is h = record { holds = h.1; is = refl; takes = h.0; result = refl }
  one_holds arithmetic None is h = record { holds = hold_left _ _ h; is = refl; takes = (hold_right (part None) _ h).0; result = is }
  one_holds equality dir is h = let h1 = hold_right (part None) _ h in
      record { holds = hold_left _ _ h; is = refl; takes = h1.0; result = meets_at functions p dir whole place types.bool is h1.1 }
  one_holds order dir is h = let h1 = hold_right (part None) _ h in
      record { holds = hold_left _ _ h; is = refl; takes = h1.0; result = meets_at functions p dir whole place types.bool is h1.1 }

-- with two operands, the left one a literal or not
module _ (functions : List Function) (p : List Tau) (dir : Option Tau) where
  abbrev pub operands_are : Sort → Bool → Tree Place → Tree Place → Tau
  operands_are sort q l r = operand_type sort dir (cond q (plain functions p r) (plain functions p l))

  pub record TwoHold (sort : Sort) (q : Bool) (l r whole : Tree Place) (left right : Option Tau → List Event) : Type 0 where
    pub left_holds : RulesHold (left (operand sort dir (not q) (operands_are sort q l r)))
    pub right_holds : RulesHold (right (operand sort dir q (operands_are sort q l r)))
    pub left_is : plain_in functions p (operand sort dir (not q) (operands_are sort q l r)) l ≡ operand_is sort (operands_are sort q l r)
    pub right_is : plain_in functions p (operand sort dir q (operands_are sort q l r)) r ≡ operand_is sort (operands_are sort q l r)
    pub takes : takes sort (operand_is sort (operands_are sort q l r)) ≡ true
    pub result : plain_in functions p dir whole ≡ gives sort (operand_is sort (operands_are sort q l r))

module _ (functions : List Function) (p : List Tau) (place : Place) (l r whole : Tree Place) (left right : Option Tau → List Event) where
  abbrev a : Tau
  a = plain functions p l

  abbrev b : Tau
  b = plain functions p r

  pub two_hold : (sort : Sort) (dir : Option Tau) (q : Bool) → plain functions p whole ≡ gives sort (cond q b a)
      → RulesHold (binary_events sort dir place q a b left right) → TwoHold functions p dir sort q l r whole left right
  two_hold logic dir q is h =
      let h1 = hold_right (left (Some types.bool)) _ h in
      record {
        left_holds = hold_left _ _ h;
        right_holds = hold_left _ _ h1;
        left_is = refl;
        right_is = refl;
        takes = refl;
        result = meets_at functions p dir whole place types.bool is (hold_right (right (Some types.bool)) _ h1);
      }
  two_hold arithmetic (Some t) true is h =
      record { left_holds = hold_left _ _ h.1; right_holds = hold_right (left (Some t)) _ h.1; left_is = refl; right_is = refl; takes = h.0; result = refl }
  two_hold arithmetic (Some t) false is h =
      record { left_holds = hold_left _ _ h.1; right_holds = hold_right (left (Some t)) _ h.1; left_is = refl; right_is = refl; takes = h.0; result = refl }
  two_hold arithmetic None true is h =
      let h1 = hold_right (right None) _ h in
      record { left_holds = h1.1; right_holds = hold_left _ _ h; left_is = refl; right_is = refl; takes = h1.0; result = is }
  two_hold arithmetic None false is h =
      let h1 = hold_right (left None) _ h in
      record { left_holds = hold_left _ _ h; right_holds = h1.1; left_is = refl; right_is = refl; takes = h1.0; result = is }
  two_hold equality dir true is h =
      let g = hold_left (guided equality place b right left) _ h in
      let g1 = hold_right (right None) _ g in
      let m = hold_right (guided equality place b right left) _ h in
      record { left_holds = g1.1; right_holds = hold_left _ _ g; left_is = refl; right_is = refl; takes = g1.0; result = meets_at functions p dir whole place types.bool is m }
  two_hold equality dir false is h =
      let g = hold_left (guided equality place a left right) _ h in
      let g1 = hold_right (left None) _ g in
      let m = hold_right (guided equality place a left right) _ h in
      record { left_holds = hold_left _ _ g; right_holds = g1.1; left_is = refl; right_is = refl; takes = g1.0; result = meets_at functions p dir whole place types.bool is m }
  two_hold order dir true is h =
      let g = hold_left (guided order place b right left) _ h in
      let g1 = hold_right (right None) _ g in
      let m = hold_right (guided order place b right left) _ h in
      record { left_holds = g1.1; right_holds = hold_left _ _ g; left_is = refl; right_is = refl; takes = g1.0; result = meets_at functions p dir whole place types.bool is m }
  two_hold order dir false is h =
      let g = hold_left (guided order place a left right) _ h in
      let g1 = hold_right (left None) _ g in
      let m = hold_right (guided order place a left right) _ h in
      record { left_holds = hold_left _ _ g; right_holds = g1.1; left_is = refl; right_is = refl; takes = g1.0; result = meets_at functions p dir whole place types.bool is m }

-- ---- the rows

module _ (functions : List Function) (vars : List Kinds) (types_in : ℕ) where
  abbrev E : List Tau → Before → Option Tau → Tree Place → List Event
  E = events functions vars

  or_none : (x : Bool) → (x || false) ≡ x
  or_none true = refl
  or_none false = refl

  only : (t : Tree Place) (g : Context) (p : List Tau) → Has functions vars types_in (λ i. touched i t || false) g p → Has functions vars types_in (λ i. touched i t) g p
  only t g p e i lt = subst (λ q. Entry vars q (look g i) (plain_at p i)) (or_none (touched i t)) (e i lt)

  pub sound_unary : (a : Place) (o : Op) (x : Tree Place) → Sound functions vars types_in x → SoundShape functions vars types_in a (op o (more x none))
  sound_unary a o (term ax sx) f p b dir g s l e h q =
      let x : Tree Place = term ax sx in
      let whole : Tree Place = term a (op o (more x none)) in
      let k = one_holds functions p a x whole (λ way. E p b way x) (sort_of o) dir refl h in
      let t = operand_type (sort_of o) dir (plain functions p x) in
      let w = operand (sort_of o) dir true t in
      let d = f p b w g s.1.0 l (only x g p e) k.holds (λ i lt. seen_left _ _ [] (q i lt)) in
      record {
        tree = refl;
        counted = sym s.0;
        operand = subst (λ way. Derives functions vars g (tree functions g p x) way (core functions p w x)) (sym (ap (λ u. operand (sort_of o) dir true u) k.is ∙ way_is (sort_of o) dir true t)) d;
        takes = subst (λ u. takes (sort_of o) u ≡ true) (sym k.is) k.takes;
        is = k.result ∙ ap (gives (sort_of o)) (sym k.is);
        meets = in_meets functions p dir whole;
      }

  pub sound_binary : (a : Place) (o : Op) (l r : Tree Place) → Sound functions vars types_in l → Sound functions vars types_in r → SoundShape functions vars types_in a (op o (more l (more r none)))
  sound_binary a o (term al sl) (term ar sr) fl fr p b dir g s lg e h q =
      let l : Tree Place = term al sl in
      let r : Tree Place = term ar sr in
      let whole : Tree Place = term a (op o (more l (more r none))) in
      let left : Option Tau → List Event = λ way. E p b way l in
      let right : Option Tau → List Event = λ way. E p (after b l) way r in
      let k = two_hold functions p a l r whole left right (sort_of o) dir (is_literal l) refl h in
      let t = operands_are functions p dir (sort_of o) (is_literal l) l r in
      let wl = operand (sort_of o) dir (not (is_literal l)) t in
      let wr = operand (sort_of o) dir (is_literal l) t in
      let m = marks (λ i. false) (λ i. touched i l) (λ i. touched i r) g in
      let pt = parted vars g p (λ i. touched i l) (λ i. touched i r) lg
      (λ i lt u v. clash functions vars types_in r p (after b l) wr (length p) s.1.1.0 k.right_holds i lt v (or_right (b i) _ u))
      (λ i lt. subst (λ q. Entry vars q (look g i) (plain_at p i)) (ap (λ u. touched i l || u) (or_none (touched i r))) (e i lt)) in
      let dl = fl p b wl (first m g) s.1.0 pt.long1 pt.at1 k.left_holds (λ i lt. seen_left _ _ _ (q i lt)) in
      let dr = fr p (after b l) wr (second m g) s.1.1.0 pt.long2 pt.at2 k.right_holds (λ i lt. seen_left _ _ [] (seen_right _ (sightings i l) _ (q i lt))) in
      let c = literal_core functions p wl l in
      record {
        tree = refl;
        counted = sym s.0;
        splits = pt.splits;
        left = subst (λ z. Derives functions vars (first m g) (tree functions (first m g) p l) (operand (sort_of o) dir (not z) (plain_in functions p wl l)) (core functions p wl l)) (sym c)
            (subst (λ way. Derives functions vars (first m g) (tree functions (first m g) p l) way (core functions p wl l))
            (sym (ap (λ u. operand (sort_of o) dir (not (is_literal l)) u) k.left_is ∙ way_is (sort_of o) dir (not (is_literal l)) t)) dl);
        right = subst (λ z. Derives functions vars (second m g) (tree functions (second m g) p r) (operand (sort_of o) dir z (plain_in functions p wr r)) (core functions p wr r)) (sym c)
            (subst (λ way. Derives functions vars (second m g) (tree functions (second m g) p r) way (core functions p wr r))
            (sym (ap (λ u. operand (sort_of o) dir (is_literal l) u) k.right_is ∙ way_is (sort_of o) dir (is_literal l) t)) dr);
        alike = k.left_is ∙ sym k.right_is;
        takes = subst (λ u. takes (sort_of o) u ≡ true) (sym k.left_is) k.takes;
        is = k.result ∙ ap (gives (sort_of o)) (sym k.left_is);
        meets = in_meets functions p dir whole;
      }

  pub sound_con : (a : Place) (name : List ℕ) (e : Tree Place) → Sound functions vars types_in e → SoundShape functions vars types_in a (con name e)
  sound_con a name e f p b None g s l en h q = absurd (let z = h.0 in cc)
  sound_con a name e f p b (Some t) g s l en h q =
      record { tree = refl; checked = refl; left = h.1.0; payload = f p b (Some (held (alternative_in name t))) g s l en h.1.1 q }

  pub sound_esac : (a : Place) (at : At) (e : Tree Place) → Sound functions vars types_in e → SoundShape functions vars types_in a (esac at e)
  sound_esac a at (term ae se) f p b dir g s l en h q =
      let e : Tree Place = term ae se in
      let whole : Tree Place = term a (esac at e) in
      let h1 = hold_right (E p b None e) _ h in
      record {
        tree = refl;
        subject = f p b None g s l en (hold_left _ _ h) q;
        left = h1.1.0;
        last = h1.1.1.0;
        is = meets_is functions p dir whole a h1.1.1.1;
        meets = in_meets functions p dir whole;
      }

  pub sound_member : (a : Place) (e : Tree Place) (at : At) → Sound functions vars types_in e → SoundShape functions vars types_in a (member e at)
  sound_member a (term ae se) at f p b dir g s l en h q =
      let e : Tree Place = term ae se in
      let whole : Tree Place = term a (member e at) in
      let h1 = hold_right (E p b None e) _ h in
      record {
        tree = refl;
        whole = f p b None g s l en (hold_left _ _ h) q;
        left = h1.1.0;
        shared = h1.1.1.0;
        is = meets_is functions p dir whole a h1.1.1.1;
        meets = in_meets functions p dir whole;
      }

  pub sound_cast : (a : Place) (e : Tree Place) → Sound functions vars types_in e → SoundShape functions vars types_in a (cast e)
  sound_cast a (term ae se) f p b None g s l en h q = absurd (let z = h.0 in cc)
  sound_cast a (term ae se) f p b (Some t) g s l en h q =
      record { tree = refl; checked = refl; operand = f p b None g s l en (hold_left _ _ h) q; widens = (hold_right (E p b None (term ae se)) _ h).0 }

  pub sound_annot : (a : Place) (e : Tree Place) (t : Arg) → Sound functions vars types_in e → SoundShape functions vars types_in a (annot e t)
  sound_annot a e t f p b dir g s l en h q =
      let whole : Tree Place = term a (annot e t) in
      record {
        tree = refl;
        arrays = h.0;
        value = f p b (Some t.ty) g s.0 l en (hold_left _ _ h.1) q;
        is = meets_is functions p dir whole a (hold_right (E p b (Some t.ty) e) _ h.1);
        meets = in_meets functions p dir whole;
      }
