-- Where there is a derivation, no rule fails: operators.
use Rattle.std.proofs.Common.{◌≡◌, Bool, true, false, ◌||◌, not, cond, Option, Some, None, List, [], refl, sym, ap, ◌∙◌, subst}
use Rattle.cg_base.specs.declared.kind.Kinds.{Kinds}
use Rattle.cg_base.specs.declared.place.Place.{Place}
use Rattle.cg_base.specs.Types as types
use Rattle.cg_base.specs.Types.{Tau}
use Rattle.cg_core.specs.declared.op.Op.{Op}
use Rattle.cg_core.specs.Kernels.{Function}
use Rattle.cg_core.specs.Terms.{Tree, term, op, none, more, Note, erased}
use Rattle.cg_kinds.specs.Kinds.{is_word}
use Rattle.cg_typing.specs.Contexts.{first, second}
use Rattle.cg_faults.specs.Events.{Event, Before, after, guided, binary_events, unary_events, events, RulesHold}
use Rattle.cg_check_def.specs.NormalForm.{operand_type}
use Rattle.cg_faults.specs.Occurrences.{touched, used, sightings}
use Rattle.cg_typing.specs.Operators.{Sort, arithmetic, equality, order, logic, sort_of, takes, gives, operand}
use Rattle.cg_faults.specs.Plain.{plain, plain_in}
use Rattle.cg_typing.specs.Rules.{Meets, type_at, is_literal}
use Rattle.cg_typing.specs.Trees.{sub, marks_of}
use Rattle.cg_check_laws.proofs.Basics.{hold_append}
use Rattle.cg_check_laws.proofs.Clean.{within_first, within_second, clean_second}
use Rattle.cg_check_laws.proofs.CompleteParts.{Complete, Done, type_is, noted_is, in_is, meets_as, literal_erased}
use Rattle.cg_check_laws.proofs.Held.{D, held}
use Rattle.cg_check_laws.proofs.Occurs.{seen_append}
use Rattle.cg_base.proofs.Truths.{or_true as or_right, or_left}

-- with one operand: u is its type, and t the type of the whole
module _ (functions : List Function) (p : List Tau) (place : Place) (x whole : Tree Place) (part : Option Tau → List Event) where
  pub record OneOk (sort : Sort) (dir : Option Tau) (u t : Tau) : Type 0 where
    pub way : operand sort dir true u ≡ operand sort dir true (operand_type sort dir (plain functions p x))
    pub ok : RulesHold (unary_events sort dir place (plain functions p x) part)
    pub is : t ≡ plain_in functions p dir whole

  pub one_ok : (sort : Sort) (dir : Option Tau) (u t : Tau) → plain functions p whole ≡ gives sort (plain functions p x) → u ≡ plain_in functions p (operand sort dir true u) x
      → takes sort u ≡ true → t ≡ gives sort u → Meets dir t → RulesHold (part (operand sort dir true u)) → OneOk sort dir u t
  one_ok logic dir u t w e k g m h = record {
    way = refl;
    ok = hold_append (part (Some types.bool)) _ h (meets_as dir place t types.bool g m);
    is = in_is functions p dir whole t m (g ∙ sym w);
  }
  one_ok arithmetic None u t w e k g m h = record {
    way = refl;
    ok = hold_append (part None) _ h (subst (λ v. is_word v ≡ true) e k, tt);
    is = g ∙ e ∙ sym w;
  }
  one_ok arithmetic (Some v) u t w e k g m h =
      let q : u ≡ v = sym (m ∙ g) in
      record { way = ap Some q; ok = (subst (λ v. is_word v ≡ true) q k, subst (λ v. RulesHold (part (Some v))) q h); is = sym m }
  one_ok equality dir u t w e k g m h = record {
    way = refl;
    ok = hold_append (part None) _ h (subst (λ v. takes equality v ≡ true) e k, meets_as dir place t types.bool g m);
    is = in_is functions p dir whole t m (g ∙ sym w);
  }
  one_ok order dir u t w e k g m h = record {
    way = refl;
    ok = hold_append (part None) _ h (subst (λ v. takes order v ≡ true) e k, meets_as dir place t types.bool g m);
    is = in_is functions p dir whole t m (g ∙ sym w);
  }

-- with two: u and v are their types
module _ (functions : List Function) (p : List Tau) (place : Place) (l r whole : Tree Place) (left right : Option Tau → List Event) where
  abbrev a : Tau
  a = plain functions p l

  abbrev b : Tau
  b = plain functions p r

  pub record TwoOk (sort : Sort) (dir : Option Tau) (q : Bool) (u v t : Tau) : Type 0 where
    pub left_way : operand sort dir (not q) u ≡ operand sort dir (not q) (operand_type sort dir (cond q b a))
    pub right_way : operand sort dir q v ≡ operand sort dir q (operand_type sort dir (cond q b a))
    pub ok : RulesHold (binary_events sort dir place q a b left right)
    pub is : t ≡ plain_in functions p dir whole

  pub two_ok : (sort : Sort) (dir : Option Tau) (q : Bool) (u v t : Tau) → plain functions p whole ≡ gives sort (cond q b a)
      → u ≡ plain_in functions p (operand sort dir (not q) u) l → v ≡ plain_in functions p (operand sort dir q v) r → u ≡ v
      → takes sort u ≡ true → t ≡ gives sort u → Meets dir t → RulesHold (left (operand sort dir (not q) u)) → RulesHold (right (operand sort dir q v)) → TwoOk sort dir q u v t
  two_ok logic dir q u v t w e f s k g m h i = record {
    left_way = refl;
    right_way = refl;
    ok = hold_append (left (Some types.bool)) _ h (hold_append (right (Some types.bool)) _ i (meets_as dir place t types.bool g m));
    is = in_is functions p dir whole t m (g ∙ sym w);
  }
  two_ok arithmetic (Some c) true u v t w e f s k g m h i =
      let x : u ≡ c = sym (m ∙ g) in let y : v ≡ c = sym s ∙ x in
      record {
        left_way = ap Some x;
        right_way = ap Some y;
        is = sym m;
        ok = (subst (λ z. is_word z ≡ true) x k, hold_append (left (Some c)) _ (subst (λ z. RulesHold (left (Some z))) x h) (subst (λ z. RulesHold (right (Some z))) y i));
      }
  two_ok arithmetic (Some c) false u v t w e f s k g m h i =
      let x : u ≡ c = sym (m ∙ g) in let y : v ≡ c = sym s ∙ x in
      record {
        left_way = ap Some x;
        right_way = ap Some y;
        is = sym m;
        ok = (subst (λ z. is_word z ≡ true) x k, hold_append (left (Some c)) _ (subst (λ z. RulesHold (left (Some z))) x h) (subst (λ z. RulesHold (right (Some z))) y i));
      }
  two_ok arithmetic None true u v t w e f s k g m h i =
      let x : u ≡ b = s ∙ f in
      record {
        left_way = ap Some x;
        right_way = refl;
        is = g ∙ x ∙ sym w;
        ok = hold_append (right None) _ i (subst (λ z. is_word z ≡ true) x k, subst (λ z. RulesHold (left (Some z))) x h);
      }
  two_ok arithmetic None false u v t w e f s k g m h i =
      let y : v ≡ a = sym s ∙ e in
      record {
        left_way = refl;
        right_way = ap Some y;
        is = g ∙ e ∙ sym w;
        ok = hold_append (left None) _ h (subst (λ z. is_word z ≡ true) e k, subst (λ z. RulesHold (right (Some z))) y i);
      }
  two_ok equality dir true u v t w e f s k g m h i =
      let x : u ≡ b = s ∙ f in
      record {
        left_way = ap Some x;
        right_way = refl;
        is = in_is functions p dir whole t m (g ∙ sym w);
        ok = hold_append (guided equality place b right left) _ (hold_append (right None) _ i (subst (λ z. takes equality z ≡ true) x k, subst (λ z. RulesHold (left (Some z))) x h))
            (meets_as dir place t types.bool g m);
      }
  two_ok equality dir false u v t w e f s k g m h i =
      let y : v ≡ a = sym s ∙ e in
      record {
        left_way = refl;
        right_way = ap Some y;
        is = in_is functions p dir whole t m (g ∙ sym w);
        ok = hold_append (guided equality place a left right) _ (hold_append (left None) _ h (subst (λ z. takes equality z ≡ true) e k, subst (λ z. RulesHold (right (Some z))) y i))
            (meets_as dir place t types.bool g m);
      }
  two_ok order dir true u v t w e f s k g m h i =
      let x : u ≡ b = s ∙ f in
      record {
        left_way = ap Some x;
        right_way = refl;
        is = in_is functions p dir whole t m (g ∙ sym w);
        ok = hold_append (guided order place b right left) _ (hold_append (right None) _ i (subst (λ z. takes order z ≡ true) x k, subst (λ z. RulesHold (left (Some z))) x h))
            (meets_as dir place t types.bool g m);
      }
  two_ok order dir false u v t w e f s k g m h i =
      let y : v ≡ a = sym s ∙ e in
      record {
        left_way = refl;
        right_way = ap Some y;
        is = in_is functions p dir whole t m (g ∙ sym w);
        ok = hold_append (guided order place a left right) _ (hold_append (left None) _ h (subst (λ z. takes order z ≡ true) e k, subst (λ z. RulesHold (right (Some z))) y i))
            (meets_as dir place t types.bool g m);
      }

module _ (functions : List Function) (vars : List Kinds) where
  abbrev E : List Tau → Before → Option Tau → Tree Place → List Event
  E = events functions vars

  pub complete_unary : (a : Note) (o : Op) (x : Tree Note) → Complete functions vars x → Complete functions vars (term a (op o (more x none)))
  unfolding erased
  complete_unary a o x cx p b dir g d w c h =
      let ex = erased x in
      let whole : Tree Place = term a.place (op o (more ex none)) in
      let way = operand (sort_of o) dir true (type_at x) in
      let dx = cx p b way g (sub d 0) w (λ i lt t. c i lt (or_left _ _ t)) h.operand in
      let k = one_ok functions p a.place ex whole (λ way. E p b way ex) (sort_of o) dir (type_at x) a.ty refl (type_is functions vars p b way ex x dx) h.takes h.is h.meets dx.ok in
      let dy = subst (λ w. Done functions vars p b w ex x) k.way dx in
      let ta = noted_is a _ k.is in let qx = dy.core_is in
      record {
        core_is = cc;
        ok = hold_append _ _ k.ok (tt, tt);
        sighted = λ i lt. seen_append _ (sightings i ex) _ (dx.sighted i lt) tt;
      }

  or_none : (x : Bool) → (x || false) ≡ x
  or_none true = refl
  or_none false = refl

  pub complete_binary : (a : Note) (o : Op) (l r : Tree Note) → Complete functions vars l → Complete functions vars r → Complete functions vars (term a (op o (more l (more r none))))
  unfolding erased
  complete_binary a o l r cl cr p b dir g d w c h =
      let el = erased l in let er = erased r in let m = marks_of d in
      let whole : Tree Place = term a.place (op o (more el (more er none))) in
      let q = is_literal el in
      let wl = operand (sort_of o) dir (not q) (type_at l) in
      let wr = operand (sort_of o) dir q (type_at r) in
      let hl = subst (λ z. D functions vars (first m g) (sub d 0) (operand (sort_of o) dir (not z) (type_at l)) l) (sym (literal_erased l)) h.left in
      let hr = subst (λ z. D functions vars (second m g) (sub d 1) (operand (sort_of o) dir z (type_at r)) r) (sym (literal_erased l)) h.right in
      let dl = cl p b wl (first m g) (sub d 0) (within_first vars m g p h.splits w) (λ i lt t. c i lt (or_left _ _ t)) hl in
      let cn = clean_second vars [] m g p b el (λ i. touched i er) (λ i. used i er) h.splits w (λ i lt t. c i lt (or_right (touched i el) _ (or_left _ _ t)))
      (held functions vars l _ _ _ hl) (held functions vars r _ _ _ hr) in
      let dr = cr p (after b el) wr (second m g) (sub d 1) (within_second vars m g p h.splits w) cn hr in
      let k = two_ok functions p a.place el er whole (λ way. E p b way el) (λ way. E p (after b el) way er) (sort_of o) dir q (type_at l) (type_at r) a.ty refl
      (type_is functions vars p b wl el l dl) (type_is functions vars p (after b el) wr er r dr) h.alike h.takes h.is h.meets dl.ok dr.ok in
      let dl' = subst (λ w. Done functions vars p b w el l) k.left_way dl in
      let dr' = subst (λ w. Done functions vars p (after b el) w er r) k.right_way dr in
      let ta = noted_is a _ k.is in let ql = dl'.core_is in let qr = dr'.core_is in
      record {
        core_is = cc;
        ok = hold_append _ _ k.ok (tt, tt);
        sighted = λ i lt. seen_append _ (sightings i el) _ (dl.sighted i lt) (seen_append _ (sightings i er) _ (dr.sighted i lt) tt);
      }
