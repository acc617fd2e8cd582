-- The pass at a form is one step after another.
use Rattle.std.proofs.Common.{◌≡◌, Bool, true, false, not, ◌||◌, cond, List, [], ◌∷◌, length, Option, Some, None, Ok, refl, ap, ◌∙◌}
use Rattle.cg_base.specs.declared.kind.Kinds.{Kinds}
use Rattle.cg_base.specs.declared.place.Place.{Place}
use Rattle.cg_base.specs.Types as types
use Rattle.cg_base.specs.Types.{Tau}
use Rattle.cg_check.specs.Forms.{esac_by, struct_by, scoped, let_by, let_bang_by, if_by, matched_by, case_by, member_by, taken_by, take_by, put_by}
use Rattle.cg_check.specs.Operators.{binary_by, by_left, by_right, unary_by}
use Rattle.cg_check_pieces.proofs.Steps.{again, same_steps}
use Rattle.cg_check_pieces.specs.Directions.{is_by_right}
use Rattle.cg_check_nodes.specs.Nodes as forms
use Rattle.cg_check_nodes.specs.Scopes.{fine}
use Rattle.cg_check_def.specs.Pass.{Out, Got, Way, unary, binary, operated, operated_both, bind, need, meet, none_bad, check, check_shape, leave, observers_test, branches_test}
use Rattle.cg_core.specs.declared.at.At.{At}
use Rattle.cg_core.specs.declared.op.Op.{Op}
use Rattle.cg_core.specs.declared.term.Seen.{Seen}
use Rattle.cg_core.specs.Kernels.{Function}
use Rattle.cg_core.specs.Terms.{Tree, Named, lets, let_bang, if_else, case_of, esac, struct, member, take_field, put}
use Rattle.cg_faults.specs.declared.rule.Rule.{Rule}
use Rattle.cg_faults.specs.declared.rule.Rule.TheVariants.{K2, K3, K4, K5, K6, K7, T1, T5, T6, T7, T8, T9, T10, T12}
use Rattle.cg_check_uses.specs.declared.entry.Use.{Use}
use Rattle.cg_faults.specs.Plain.{plain_at, observed}
use Rattle.cg_faults.specs.Same.{same}
use Rattle.cg_kinds.specs.Kinds.{kinds, is_word}
use Rattle.cg_typing.specs.Contexts.{push, drops, shares}
use Rattle.cg_typing.specs.Operators.{Sort, arithmetic, equality, order, logic, takes}
use Rattle.cg_typing.specs.Parts.{field_in, alternative_in, held, is_there, is_last, is_left, is_read_only, may_be_put_over, with_part}
use Rattle.cg_typing.specs.Rules.{note_at, second_branch}
use Rattle.cg_check_uses.specs.Uses.{flag_at, mark, mark_but, seen_places, last, front}

need_then : {A B : Type 0} (r : Rule) (p : Place) (b : Bool) (x : Out A) (k : A → Out B) → bind (need r p b x) k ≡ need r p b (bind x k)
need_then r p true x k = refl
need_then r p false x k = refl

two_then : {A B : Type 0} (r s : Rule) (p q : Place) (a b : Bool) (x : A) (k : A → Out B) → bind (need r p a (need s q b (Ok x))) k ≡ need r p a (need s q b (k x))
two_then r s p q true b x k = need_then s q b (Ok x) k
two_then r s p q false b x k = refl

three_then : {A B : Type 0} (r s t : Rule) (p q o : Place) (a b c : Bool) (x : A) (k : A → Out B)
    → bind (need r p a (need s q b (need t o c (Ok x)))) k ≡ need r p a (need s q b (need t o c (k x)))
three_then r s t p q o true b c x k = two_then s t q o b c x k
three_then r s t p q o false b c x k = refl

meet_and : {A B : Type 0} (d : Option Tau) (p : Place) (t : Tau) (x : A) (k : A → Out B) → bind (meet d p t (Ok x)) k ≡ meet d p t (k x)
meet_and None p t x k = refl
meet_and (Some w) p t x k = need_then T1 p (same w t) (Ok x) k

meet_then : {B : Type 0} (d : Option Tau) (p : Place) (t : Tau) (k : Out B) → bind (meet d p t fine) (λ _. k) ≡ meet d p t k
meet_then d p t k = meet_and d p t tt (λ _. k)

-- operators
pub by_right_then : (sort : Sort) (o : Op) (d : Option Tau) (place : Place) (literal : Bool) (before : List Bool) (l r : Way) → is_by_right sort d literal ≡ true
    → binary_by sort o d place literal before l r ≡ by_right sort o d place before l r
by_right_then sort o d place literal before l r h = ap (λ b. cond b (by_right sort o d place before l r) (by_left sort o d place before l r)) h

pub by_left_else : (sort : Sort) (o : Op) (d : Option Tau) (place : Place) (literal : Bool) (before : List Bool) (l r : Way) → is_by_right sort d literal ≡ false
    → binary_by sort o d place literal before l r ≡ by_left sort o d place before l r
by_left_else sort o d place literal before l r h = ap (λ b. cond b (by_right sort o d place before l r) (by_left sort o d place before l r)) h

module _ (o : Op) (place : Place) (before : List Bool) where
  guide_then : (test : Tau → Bool) (x : Out Got) (k : Got → Out Got)
      → bind (bind x (λ u. need T12 place (test u.ty) (Ok u))) k ≡ bind x (λ u. need T12 place (test u.ty) (k u))
  guide_then test x k = again x (λ u. need T12 place (test u.ty) (Ok u)) k ∙ same_steps x _ _ (λ u. need_then T12 place (test u.ty) (Ok u) k)

  -- a truth value, of one operand and of two
  one_truth : (d : Option Tau) (u : Got) → bind (meet d place types.bool (Ok types.bool)) (λ t. Ok (operated o place t u)) ≡ meet d place types.bool (Ok (operated o place types.bool u))
  one_truth d u = meet_and d place types.bool types.bool (λ t. Ok (operated o place t u))

  truth : (d : Option Tau) (x y : Got) → bind (meet d place types.bool (Ok types.bool)) (λ t. Ok (operated_both o place t x y)) ≡ meet d place types.bool (Ok (operated_both o place types.bool x y))
  truth d x y = meet_and d place types.bool types.bool (λ t. Ok (operated_both o place t x y))

  compared : (test : Tau → Bool) (d : Option Tau) (x : Way)
      → bind (bind (x before None) (λ u. need T12 place (test u.ty) (Ok u))) (λ u. bind (meet d place types.bool (Ok types.bool)) (λ t. Ok (operated o place t u)))
      ≡ bind (x before None) (λ u. need T12 place (test u.ty) (meet d place types.bool (Ok (operated o place types.bool u))))
  compared test d x = guide_then test (x before None) _ ∙ same_steps (x before None) _ _ (λ u. ap (λ (z : Out Got). need T12 place (test u.ty) z) (one_truth d u))

  pub unary_is : (sort : Sort) (d : Option Tau) (x : Way) → unary_by sort o d place before x ≡ unary sort o d place before x
  unary_is logic d x = same_steps (x before (Some types.bool)) _ _ (λ u. one_truth d u)
  unary_is arithmetic (Some t) x = need_then T12 place (is_word t) (x before (Some t)) (λ u. Ok (operated o place t u))
  unary_is arithmetic None x = guide_then is_word (x before None) (λ u. Ok (operated o place u.ty u))
  unary_is equality d x = compared (takes equality) d x
  unary_is order d x = compared (takes order) d x

  left_first : (test : Tau → Bool) (d : Option Tau) (l r : Way)
      → bind (bind (l before None) (λ u. need T12 place (test u.ty) (Ok u)))
      (λ x. bind (r (mark before x.uses) (Some x.ty)) (λ y. bind (meet d place types.bool (Ok types.bool)) (λ t. Ok (operated_both o place t x y))))
      ≡ bind (l before None) (λ x. need T12 place (test x.ty) (bind (r (mark before x.uses) (Some x.ty)) (λ y. meet d place types.bool (Ok (operated_both o place types.bool x y)))))
  left_first test d l r =
      guide_then test (l before None) _
      ∙ same_steps (l before None) _ _ (λ x. ap (λ (z : Out Got). need T12 place (test x.ty) z) (same_steps (r (mark before x.uses) (Some x.ty)) _ _ (λ y. truth d x y)))

  right_first : (test : Tau → Bool) (d : Option Tau) (l r : Way)
      → bind (bind (r before None) (λ u. need T12 place (test u.ty) (Ok u)))
      (λ y. bind (l before (Some y.ty)) (λ x. bind (meet d place types.bool (Ok types.bool)) (λ t. Ok (operated_both o place t x y))))
      ≡ bind (r before None) (λ y. need T12 place (test y.ty) (bind (l before (Some y.ty)) (λ x. meet d place types.bool (Ok (operated_both o place types.bool x y)))))
  right_first test d l r =
      guide_then test (r before None) _
      ∙ same_steps (r before None) _ _ (λ y. ap (λ (z : Out Got). need T12 place (test y.ty) z) (same_steps (l before (Some y.ty)) _ _ (λ x. truth d x y)))

  pub binary_is : (sort : Sort) (d : Option Tau) (literal : Bool) (l r : Way) → binary_by sort o d place literal before l r ≡ binary sort o d place literal before l r
  binary_is logic d literal l r =
      same_steps (l before (Some types.bool)) _ _ (λ x. same_steps (r (mark before x.uses) (Some types.bool)) _ _ (λ y. truth d x y))
  binary_is arithmetic (Some t) literal l r =
      need_then T12 place (is_word t) (l before (Some t)) (λ x. bind (r (mark before x.uses) (Some t)) (λ y. Ok (operated_both o place t x y)))
  binary_is arithmetic None true l r =
      guide_then is_word (r before None) (λ y. bind (l before (Some y.ty)) (λ x. Ok (operated_both o place y.ty x y)))
  binary_is arithmetic None false l r =
      guide_then is_word (l before None) (λ x. bind (r (mark before x.uses) (Some x.ty)) (λ y. Ok (operated_both o place x.ty x y)))
  binary_is equality d true l r = right_first (takes equality) d l r
  binary_is equality d false l r = left_first (takes equality) d l r
  binary_is order d true l r = right_first (takes order) d l r
  binary_is order d false l r = left_first (takes order) d l r

module _ (functions : List Function) (vars : List Kinds) where
  leave_then : {B : Type 0} (b : Place) (t : Tau) (u : Use) (k : Out B) → bind (leave functions vars b t u fine) (λ _. k) ≡ leave functions vars b t u k
  leave_then b t u k = go (drops vars t) u.used u.bad
    where
      go : (d e : Bool) (bad : Option Place) → bind (need K3 b (d || e) (cond d fine (none_bad bad fine))) (λ _. k) ≡ need K3 b (d || e) (cond d k (none_bad bad k))
      go true e bad = refl
      go false true None = refl
      go false true (Some p) = refl
      go false false bad = refl

  observers_then : {B : Type 0} (p : List Tau) (before : List Bool) (os : List Seen) (k : Out B)
      → bind (observers_test functions vars p before os fine) (λ _. k) ≡ observers_test functions vars p before os k
  observers_then p before [] k = refl
  observers_then p before (o ∷ os) k =
      need_then K4 o.place (not (flag_at before o.var) || shares vars (plain_at p o.var)) (observers_test functions vars p before os fine) (λ _. k)
      ∙ ap (need K4 o.place (not (flag_at before o.var) || shares vars (plain_at p o.var))) (observers_then p before os k)

  branches_then : {B : Type 0} (x y : Place) (p : List Tau) (us vs : List Use) (k : Out B)
      → bind (branches_test functions vars x y p us vs fine) (λ _. k) ≡ branches_test functions vars x y p us vs k
  branches_then x y [] us vs k = refl
  branches_then x y (t ∷ p) [] vs k = refl
  branches_then x y (t ∷ p) (u ∷ us) [] k = refl
  branches_then x y (t ∷ p) (u ∷ us) (v ∷ vs) k =
      need_then K5 (cond u.used y x) (drops vars t || cond u.used v.used (not v.used)) (branches_test functions vars x y p us vs fine) (λ _. k)
      ∙ ap (need K5 (cond u.used y x) (drops vars t || cond u.used v.used (not v.used))) (branches_then x y p us vs k)

  scoped_then : (p : List Tau) (before : List Bool) (d : Option Tau) (b : Place) (t : Tau) (e : Tree Place) (k : Got → Out Got)
      → bind (scoped functions vars p before d b t e) k ≡ bind (check functions vars (push p t) before d e) (λ v. leave functions vars b t (last v.uses) (k v))
  scoped_then p before d b t e k =
      again (check functions vars (push p t) before d e) (λ v. bind (leave functions vars b t (last v.uses) fine) (λ _. Ok v)) k
      ∙ same_steps (check functions vars (push p t) before d e) (λ v. bind (bind (leave functions vars b t (last v.uses) fine) (λ _. Ok v)) k) (λ v. leave functions vars b t (last v.uses) (k v))
      (λ v. again (leave functions vars b t (last v.uses) fine) (λ _. Ok v) k ∙ leave_then b t (last v.uses) (k v))

  pub let_is : (p : List Tau) (before : List Bool) (d : Option Tau) (place binder : Place) (e k : Tree Place)
      → let_by functions vars p before d place binder e k ≡ check_shape functions vars p before d place (lets binder e k)
  let_is p before d place binder e k =
      same_steps (check functions vars p before None e) (λ u. bind (scoped functions vars p (push (mark before u.uses) false) d binder u.ty k) (λ v. Ok (forms.let_node (length p) place binder u v))) _
      (λ u. scoped_then p (push (mark before u.uses) false) d binder u.ty k (λ v. Ok (forms.let_node (length p) place binder u v)))

  pub let_bang_is : (p : List Tau) (before : List Bool) (d : Option Tau) (place : Place) (os : List Seen) (binder : Place) (e k : Tree Place)
      → let_bang_by functions vars p before d place os binder e k ≡ check_shape functions vars p before d place (let_bang os binder e k)
  let_bang_is p before d place os binder e k =
      let seen = seen_places (length p) os in
      observers_then p before os _
      ∙ ap (λ (x : Out Got). observers_test functions vars p before os x)
      (same_steps (check functions vars (observed os p) before None e) _ _
      (λ u. need_then K2 (note_at e) (kinds vars u.ty).escape (Ok (push (mark_but seen before u.uses) false)) _
      ∙ ap (λ (x : Out Got). need K2 (note_at e) (kinds vars u.ty).escape x)
      (scoped_then p (push (mark_but seen before u.uses) false) d binder u.ty k (λ v. Ok (forms.let_bang_node (length p) seen place os binder u v)))))

  pub if_is : (p : List Tau) (before : List Bool) (d : Option Tau) (place : Place) (c x y : Tree Place)
      → if_by functions vars p before d place c x y ≡ check_shape functions vars p before d place (if_else c x y)
  if_is p before d place c x y =
      same_steps (check functions vars p before (Some types.bool) c) _ _ (λ u.
      same_steps (check functions vars p (mark before u.uses) d x) _ _ (λ v.
      same_steps (check functions vars p (mark before u.uses) (second_branch d v.ty) y) _ _ (λ w.
      branches_then (note_at x) (note_at y) p v.uses w.uses (Ok (forms.if_node place u v w)))))

  pub case_is : (p : List Tau) (before : List Bool) (d : Option Tau) (place : Place) (e : Tree Place) (at : At) (binder : Place) (x y : Tree Place)
      → case_by functions vars p before d place e at binder x y ≡ check_shape functions vars p before d place (case_of e at binder x y)
  case_is p before d place e at binder x y =
      same_steps (check functions vars p before None e) _ _ (λ u.
      two_then T8 T10 at.place at.place (is_there (alternative_in at.name u.ty)) (is_left (alternative_in at.name u.ty)) (held (alternative_in at.name u.ty)) (λ h. matched_by functions vars p before d place at binder x y u h)
      ∙ ap (λ (z : Out Got). need T8 at.place (is_there (alternative_in at.name u.ty)) (need T10 at.place (is_left (alternative_in at.name u.ty)) z))
      (scoped_then p (push (mark before u.uses) false) d binder (held (alternative_in at.name u.ty)) x _
      ∙ same_steps (check functions vars (push p (held (alternative_in at.name u.ty))) (push (mark before u.uses) false) d x) _ _ (λ v.
      ap (λ (z : Out Got). leave functions vars binder (held (alternative_in at.name u.ty)) (last v.uses) z)
      (scoped_then p (push (mark before u.uses) false) (second_branch d v.ty) at.place (with_part at.name true u.ty) y _
      ∙ same_steps (check functions vars (push p (with_part at.name true u.ty)) (push (mark before u.uses) false) (second_branch d v.ty) y) _ _ (λ w.
      ap (λ (z : Out Got). leave functions vars at.place (with_part at.name true u.ty) (last w.uses) z)
      (branches_then (note_at x) (note_at y) p (front v.uses) (front w.uses) (Ok (forms.case_node (length p) place at binder u v w))))))))

  pub member_is : (p : List Tau) (before : List Bool) (d : Option Tau) (place : Place) (e : Tree Place) (at : At)
      → member_by functions vars p before d place e at ≡ check_shape functions vars p before d place (member e at)
  member_is p before d place e at =
      same_steps (check functions vars p before None e) _ _ (λ u.
      three_then T5 T6 K6 at.place at.place at.place (is_there (field_in at.name u.ty)) (is_left (field_in at.name u.ty)) (shares vars u.ty) (held (field_in at.name u.ty))
      (λ h. bind (meet d place h fine) (λ _. Ok (forms.member_node place h at u)))
      ∙ ap (λ (z : Out Got). need T5 at.place (is_there (field_in at.name u.ty)) (need T6 at.place (is_left (field_in at.name u.ty)) (need K6 at.place (shares vars u.ty) z)))
      (meet_then d place (held (field_in at.name u.ty)) (Ok (forms.member_node place (held (field_in at.name u.ty)) at u))))

  pub esac_is : (p : List Tau) (before : List Bool) (d : Option Tau) (place : Place) (e : Tree Place) (at : At)
      → esac_by functions vars p before d place e at ≡ check_shape functions vars p before d place (esac at e)
  esac_is p before d place e at =
      same_steps (check functions vars p before None e) _ _ (λ u.
      three_then T8 T10 T9 at.place at.place at.place (is_there (alternative_in at.name u.ty)) (is_left (alternative_in at.name u.ty)) (is_last at.name u.ty) (held (alternative_in at.name u.ty))
      (λ h. bind (meet d place h fine) (λ _. Ok (forms.esac_node place h at u)))
      ∙ ap (λ (z : Out Got). need T8 at.place (is_there (alternative_in at.name u.ty)) (need T10 at.place (is_left (alternative_in at.name u.ty)) (need T9 at.place (is_last at.name u.ty) z)))
      (meet_then d place (held (alternative_in at.name u.ty)) (Ok (forms.esac_node place (held (alternative_in at.name u.ty)) at u))))

  pub struct_is : (p : List Tau) (before : List Bool) (d : Option Tau) (place : Place) (fs : Named Place)
      → struct_by functions vars p before d place fs ≡ check_shape functions vars p before d place (struct fs)
  struct_is p before None place fs = refl
  struct_is p before (Some t) place fs = refl

  pub take_is : (p : List Tau) (before : List Bool) (d : Option Tau) (place : Place) (e : Tree Place) (at : At) (rest binder : Place) (k : Tree Place)
      → take_by functions vars p before d place e at rest binder k ≡ check_shape functions vars p before d place (take_field e at rest binder k)
  take_is p before d place e at rest binder k =
      same_steps (check functions vars p before None e) _ _ (λ u.
      let t = with_part at.name true u.ty in
      let h = held (field_in at.name u.ty) in
      three_then T5 T7 T6 at.place at.place at.place (is_there (field_in at.name u.ty)) (not (is_read_only u.ty)) (is_left (field_in at.name u.ty)) h
      (λ h. bind (taken_by functions vars p (push (push (mark before u.uses) false) false) d rest binder t h k) (λ v. Ok (forms.take_node (length p) place at rest binder u v)))
      ∙ ap (λ (z : Out Got). need T5 at.place (is_there (field_in at.name u.ty)) (need T7 at.place (not (is_read_only u.ty)) (need T6 at.place (is_left (field_in at.name u.ty)) z)))
      (again (check functions vars (push (push p t) h) (push (push (mark before u.uses) false) false) d k) _ _
      ∙ same_steps (check functions vars (push (push p t) h) (push (push (mark before u.uses) false) false) d k) _ _ (λ v.
      again (leave functions vars rest t (last (front v.uses)) fine) _ _
      ∙ leave_then rest t (last (front v.uses)) _
      ∙ ap (λ (z : Out Got). leave functions vars rest t (last (front v.uses)) z)
      (again (leave functions vars binder h (last v.uses) fine) _ _ ∙ leave_then binder h (last v.uses) (Ok (forms.take_node (length p) place at rest binder u v))))))

  pub put_is : (p : List Tau) (before : List Bool) (d : Option Tau) (place : Place) (e : Tree Place) (at : At) (x : Tree Place)
      → put_by functions vars p before d place e at x ≡ check_shape functions vars p before d place (put e at x)
  put_is p before d place e at x =
      same_steps (check functions vars p before None e) _ _ (λ u.
      let h = held (field_in at.name u.ty) in
      three_then T5 T7 K7 at.place at.place at.place (is_there (field_in at.name u.ty)) (not (is_read_only u.ty)) (may_be_put_over vars (field_in at.name u.ty)) h
      (λ h. bind (check functions vars p (mark before u.uses) (Some h) x) (λ v. bind (meet d place (with_part at.name false u.ty) fine) (λ _. Ok (forms.put_node place (with_part at.name false u.ty) at u v))))
      ∙ ap (λ (z : Out Got). need T5 at.place (is_there (field_in at.name u.ty)) (need T7 at.place (not (is_read_only u.ty)) (need K7 at.place (may_be_put_over vars (field_in at.name u.ty)) z)))
      (same_steps (check functions vars p (mark before u.uses) (Some h) x) _ _ (λ v.
      meet_then d place (with_part at.name false u.ty) (Ok (forms.put_node place (with_part at.name false u.ty) at u v)))))
