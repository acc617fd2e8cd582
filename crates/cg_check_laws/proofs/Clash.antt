-- Where no event fails, a touch behind one that clashes with it is of a type that can be shared.
use Rattle.std.proofs.Common.{◌≡◌, ℕ, suc, ◌<◌, ◌≤◌, true, false, ◌||◌, Option, Some, None, List, [], ◌∷◌, length, map, inl, inr, sym, subst, arith, nat_eq, eqb-true}
use Rattle.cg_base.specs.declared.kind.Kinds.{Kinds}
use Rattle.cg_base.specs.declared.place.Place.{Place}
use Rattle.cg_base.specs.Types as types
use Rattle.cg_base.specs.Types.{Tau}
use Rattle.cg_core.specs.declared.at.At.{At}
use Rattle.cg_core.specs.declared.op.Op.{Op}
use Rattle.cg_core.specs.declared.op.Op.TheVariants.{Complement, Not}
use Rattle.cg_core.specs.declared.term.Seen.{Seen as Observer}
use Rattle.cg_core.specs.Kernels.{Function}
use Rattle.cg_core.specs.Terms.{Tree, term, Shape, var, unit, bool, lit, fun, op, app, lets, let_bang, if_else, con, case_of, esac, struct, member, take_field, put, cast, annot, none, more, Named, end, field}
use Rattle.cg_core_def.specs.Lawful.{IsLawfulTerm, AreLawfulFields, operands}
use Rattle.cg_typing.specs.Contexts.{push, among, shares}
use Rattle.cg_faults.specs.Events.{Event, Before, after, after_seen, upto, observer_events, scope_end, events, events_shape, field_events, record_events, field_directions, next_direction, later_directions, RulesHold}
use Rattle.cg_faults.specs.Occurrences.{touched, touched_fields}
use Rattle.cg_typing.specs.Operators.{sort_of}
use Rattle.cg_typing.specs.Parts.{taken_by, field_in, alternative_in, held, with_part}
use Rattle.cg_faults.specs.Plain.{plain, plain_at, observed}
use Rattle.cg_typing.specs.Rules.{is_literal, second_branch}
use Rattle.cg_check_laws.proofs.Basics.{not_or, lt_test, hold_left, hold_right, length_push, length_banged, at_old, at_kept}
use Rattle.cg_check_laws.proofs.Operands.{checked_is, left_holds, right_holds, operand_holds}
use Rattle.cg_check_uses.proofs.Numbers.{apart}
use Rattle.cg_base.proofs.Truths.{either_bool as bool_is, either as or_elim, or_left}

-- the number of an operator's operands
pub at_most_two : (o : Op) → operands o ≤ 2
at_most_two Complement = omega arith
at_most_two Not = omega arith
at_most_two _ = omega arith

pub at_least_one : (o : Op) → 1 ≤ operands o
at_least_one Complement = omega arith
at_least_one Not = omega arith
at_least_one _ = omega arith

module _ (functions : List Function) (vars : List Kinds) (types_in : ℕ) where
  abbrev pub Lawful : ℕ → Tree Place → Type 0
  Lawful n e = IsLawfulTerm (map (λ f. length f.vars) functions) types_in n e

  abbrev E : List Tau → Before → Option Tau → Tree Place → List Event
  E = events functions vars

  abbrev ty : List Tau → Tree Place → Tau
  ty = plain functions

  -- what is asked of a position
  abbrev Shared : List Tau → ℕ → Type 0
  Shared p i = shares vars (plain_at p i) ≡ true

  -- a touch behind another is of a type that can be shared
  abbrev pub Clash : Tree Place → Type 0
  Clash e = (p : List Tau) (b : Before) (dir : Option Tau) (n : ℕ) → Lawful n e → RulesHold (E p b dir e) → (i : ℕ) → i < length p → touched i e ≡ true → b i ≡ true → Shared p i

  abbrev ClashShape : Place → Shape Place → Type 0
  ClashShape a s = (p : List Tau) (b : Before) (dir : Option Tau) (n : ℕ) → Lawful n (term a s) → RulesHold (events_shape functions vars p b dir a s)
      → (i : ℕ) → i < length p → touched i (term a s) ≡ true → b i ≡ true → Shared p i

  abbrev ClashFields : Named Place → Type 0
  ClashFields fs = (p : List Tau) (b : Before) (dirs : List (Option Tau)) (n : ℕ) → AreLawfulFields (map (λ f. length f.vars) functions) types_in n fs
      → RulesHold (field_events functions vars p b dirs fs) → (i : ℕ) → i < length p → touched_fields i fs ≡ true → b i ≡ true → Shared p i

  clash_var : (a : Place) (j : ℕ) → ClashShape a (var j)
  clash_var a j p b dir n s h i lt t m =
      let e = eqb-true i j t in
      subst (λ j. shares vars (plain_at p j) ≡ true) (sym e) (not_or (b j) (shares vars (plain_at p j)) h.0 (subst (λ j. b j ≡ true) e m))

  clash_unary : (a : Place) (o : Op) (x : Tree Place) → Clash x → ClashShape a (op o (more x none))
  clash_unary a o x c p b dir n s h i lt t m =
      let w = operand_holds a (λ way. E p b way x) (sort_of o) dir (ty p x) h in
      c p b w.0 n s.1.0 w.1 i lt (or_elim (touched i x) false t (λ q. q) (λ q. absurd (cc))) m

  clash_binary : (a : Place) (o : Op) (l r : Tree Place) → Clash l → Clash r → ClashShape a (op o (more l (more r none)))
  clash_binary a o l r f g p b dir n s h i lt t m =
      let left : Option Tau → List Event = λ way. E p b way l in
      let right : Option Tau → List Event = λ way. E p (after b l) way r in
      let u = left_holds a left right (sort_of o) dir (is_literal l) (ty p l) (ty p r) h in
      let v = right_holds a left right (sort_of o) dir (is_literal l) (ty p l) (ty p r) h in
      or_elim (touched i l) (touched i r || false) t (λ q. f p b u.0 n s.1.0 u.1 i lt q m)
      (λ q. g p (after b l) v.0 n s.1.1.0 v.1 i lt (or_elim (touched i r) false q (λ q. q) (λ q. absurd (cc))) (or_left (b i) (touched i l) m))

  clash_app : (a : Place) (f x : Tree Place) → Clash f → Clash x → ClashShape a (app f x)
  clash_app a f x cf cx p b dir n s h i lt t m =
      let h2 = (hold_right (E p b None f) _ h).1 in
      or_elim (touched i f) (touched i x) t (λ q. cf p b None n s.0 (hold_left (E p b None f) _ h) i lt q m)
      (λ q. cx p (after b f) (Some (taken_by (ty p f))) n s.1 (hold_left _ _ h2) i lt q (or_left (b i) (touched i f) m))

  -- the last part of a binder, and of one of two variables
  pub clash_body : (k : Tree Place) → Clash k → (p : List Tau) (t : Tau) (b : Before) (dir : Option Tau) (n : ℕ) → Lawful n k
      → RulesHold (E (push p t) (upto (length p) b) dir k) → (i : ℕ) → i < length p → touched i k ≡ true → b i ≡ true → Shared p i
  clash_body k c p t b dir n s h i lt q m =
      let lt' : i < length (push p t) = omega (arith, length_push p t) in
      subst (λ t. shares vars t ≡ true) (at_old p t i lt) (c (push p t) (upto (length p) b) dir n s h i lt' q (lt_test i (length p) (b i) lt m))

  pub clash_body2 : (k : Tree Place) → Clash k → (p : List Tau) (t u : Tau) (b : Before) (dir : Option Tau) (n : ℕ) → Lawful n k
      → RulesHold (E (push (push p t) u) (upto (length p) b) dir k) → (i : ℕ) → i < length p → touched i k ≡ true → b i ≡ true → Shared p i
  clash_body2 k c p t u b dir n s h i lt q m =
      let l1 : i < length (push p t) = omega (arith, length_push p t) in
      let l2 : i < length (push (push p t) u) = omega (arith, length_push p t, length_push (push p t) u) in
      subst (λ t. shares vars t ≡ true) (at_old p t i lt)
      (subst (λ t. shares vars t ≡ true) (at_old (push p t) u i l1) (c (push (push p t) u) (upto (length p) b) dir n s h i l2 q (lt_test i (length p) (b i) lt m)))

  clash_let : (a v : Place) (e k : Tree Place) → Clash e → Clash k → ClashShape a (lets v e k)
  clash_let a v e k ce ck p b dir n s h i lt t m =
      or_elim (touched i e) (touched i k) t (λ q. ce p b None n s.0 (hold_left (E p b None e) _ h) i lt q m)
      (λ q. clash_body k ck p (ty p e) (after b e) dir (suc n) s.1 (hold_left _ _ (hold_right (E p b None e) _ h)) i lt q (or_left (b i) (touched i e) m))

  pub clash_observers : (p : List Tau) (b : Before) (os : List Observer) → RulesHold (observer_events functions vars p b os) → (i : ℕ) → among i os ≡ true → b i ≡ true → Shared p i
  clash_observers p b [] h i n m = absurd (cc)
  clash_observers p b (o ∷ os) h i n m =
      or_elim (nat_eq i o.var) (among i os) n
      (λ q. let e = eqb-true i o.var q in
      subst (λ j. shares vars (plain_at p j) ≡ true) (sym e) (not_or (b o.var) (shares vars (plain_at p o.var)) h.0 (subst (λ j. b j ≡ true) e m)))
      (λ q. clash_observers p b os h.1 i q m)

  clash_let_bang : (a : Place) (os : List Observer) (v : Place) (e k : Tree Place) → Clash e → Clash k → ClashShape a (let_bang os v e k)
  clash_let_bang a os v e k ce ck p b dir n s h i lt t m =
      let p1 = observed os p in
      let h1 = hold_right (observer_events functions vars p b os) _ h in
      let h2 = (hold_right (E p1 b None e) _ h1).1 in
      elim (bool_is (among i os)) [
        | inl q ↦ clash_observers p b os (hold_left _ _ h) i q m
        | inr q ↦ or_elim (among i os) _ t (λ r. apart (among i os) r q) (λ r. or_elim (touched i e) (touched i k) r
            (λ r. subst (λ t. shares vars t ≡ true) (at_kept os p i q)
            (ce p1 b None n s.1 (hold_left _ _ h1) i (subst (λ n. i < n) (sym (length_banged (λ i. among i os) p)) lt) r m))
            (λ r. clash_body k ck p (ty p1 e) (after_seen os b e) dir (suc n) s.2 (hold_left _ _ h2) i lt r (or_left (b i) _ m)))
      ]

  clash_if : (a : Place) (c x y : Tree Place) → Clash c → Clash x → Clash y → ClashShape a (if_else c x y)
  clash_if a c x y fc fx fy p b dir n s h i lt t m =
      let h1 = hold_right (E p b (Some types.bool) c) _ h in
      let h2 = hold_right (E p (after b c) dir x) _ h1 in
      or_elim (touched i c) _ t (λ q. fc p b (Some types.bool) n s.0 (hold_left _ _ h) i lt q m) (λ q. or_elim (touched i x) (touched i y) q
      (λ q. fx p (after b c) dir n s.1 (hold_left _ _ h1) i lt q (or_left (b i) (touched i c) m))
      (λ q. fy p (after b c) (second_branch dir (ty p x)) n s.2 (hold_left _ _ h2) i lt q (or_left (b i) (touched i c) m)))

  clash_con : (a : Place) (name : List ℕ) (e : Tree Place) → Clash e → ClashShape a (con name e)
  clash_con a name e c p b dir n s h i lt t m = let w = checked_is dir a _ h in c p b (Some (held (alternative_in name w.0))) n s w.2.1.1 i lt t m

  clash_case : (a : Place) (e : Tree Place) (at : At) (v : Place) (x y : Tree Place) → Clash e → Clash x → Clash y → ClashShape a (case_of e at v x y)
  clash_case a e at v x y fe fx fy p b dir n s h i lt t m =
      let w = ty p e in
      let q = push p (held (alternative_in at.name w)) in
      let h1 = (hold_right (E p b None e) _ h).1.1 in
      let h2 = hold_right (E q (upto (length p) (after b e)) dir x) _ h1 in
      or_elim (touched i e) _ t (λ r. fe p b None n s.0 (hold_left _ _ h) i lt r m) (λ r. or_elim (touched i x) (touched i y) r
      (λ r. clash_body x fx p (held (alternative_in at.name w)) (after b e) dir (suc n) s.1 (hold_left _ _ h1) i lt r (or_left (b i) (touched i e) m))
      (λ r. clash_body y fy p (with_part at.name true w) (after b e) (second_branch dir (ty q x)) (suc n) s.2
      (hold_left _ _ (hold_right (scope_end functions vars (length p) v (held (alternative_in at.name w)) x) _ h2)) i lt r (or_left (b i) (touched i e) m)))

  clash_take : (a : Place) (e : Tree Place) (at : At) (v u : Place) (k : Tree Place) → Clash e → Clash k → ClashShape a (take_field e at v u k)
  clash_take a e at v u k ce ck p b dir n s h i lt t m =
      let w = ty p e in
      let h1 = (hold_right (E p b None e) _ h).1.1.1 in
      or_elim (touched i e) (touched i k) t (λ q. ce p b None n s.0 (hold_left (E p b None e) _ h) i lt q m)
      (λ q. clash_body2 k ck p (with_part at.name true w) (held (field_in at.name w)) (after b e) dir (suc (suc n)) s.1 (hold_left _ _ h1) i lt q (or_left (b i) (touched i e) m))

  clash_put : (a : Place) (e : Tree Place) (at : At) (x : Tree Place) → Clash e → Clash x → ClashShape a (put e at x)
  clash_put a e at x ce cx p b dir n s h i lt t m =
      let h1 = (hold_right (E p b None e) _ h).1.1.1 in
      or_elim (touched i e) (touched i x) t (λ q. ce p b None n s.0 (hold_left (E p b None e) _ h) i lt q m)
      (λ q. cx p (after b e) (Some (held (field_in at.name (ty p e)))) n s.1 (hold_left _ _ h1) i lt q (or_left (b i) (touched i e) m))

  clash_field : (name : List ℕ) (e : Tree Place) (fs : Named Place) → Clash e → ClashFields fs → ClashFields (field name e fs)
  clash_field name e fs ce cf p b dirs n s h i lt t m =
      or_elim (touched i e) (touched_fields i fs) t (λ q. ce p b (next_direction dirs) n s.0 (hold_left (E p b (next_direction dirs) e) _ h) i lt q m)
      (λ q. cf p (after b e) (later_directions dirs) n s.1 (hold_right (E p b (next_direction dirs) e) _ h) i lt q (or_left (b i) (touched i e) m))

  mutual
    pub clash : (e : Tree Place) → Clash e
    clash (term a shape) p b dir n s h i lt t m = clash_shape a shape p b dir n s (hold_left _ _ h) i lt t m

    clash_shape : (a : Place) (shape : Shape Place) → ClashShape a shape
    clash_shape a (var j) = clash_var a j
    clash_shape a unit = λ p b dir n s h i lt t m. absurd (cc)
    clash_shape a (bool v) = λ p b dir n s h i lt t m. absurd (cc)
    clash_shape a (lit v) = λ p b dir n s h i lt t m. absurd (cc)
    clash_shape a (fun f args) = λ p b dir n s h i lt t m. absurd (cc)
    clash_shape a (op o none) = λ p b dir n s h i lt t m. absurd (cc)
    clash_shape a (op o (more x none)) = clash_unary a o x (clash x)
    clash_shape a (op o (more l (more r none))) = clash_binary a o l r (clash l) (clash r)
    clash_shape a (op o (more l (more r (more x ts)))) = λ p b dir n s h i lt t m. absurd (omega (arith, s.0, at_most_two o))
    clash_shape a (app f x) = clash_app a f x (clash f) (clash x)
    clash_shape a (lets v e k) = clash_let a v e k (clash e) (clash k)
    clash_shape a (let_bang os v e k) = clash_let_bang a os v e k (clash e) (clash k)
    clash_shape a (if_else c x y) = clash_if a c x y (clash c) (clash x) (clash y)
    clash_shape a (con name e) = clash_con a name e (clash e)
    clash_shape a (case_of e at v x y) = clash_case a e at v x y (clash e) (clash x) (clash y)
    clash_shape a (esac at e) = λ p b dir n s h i lt t m. clash e p b None n s (hold_left _ _ h) i lt t m
    clash_shape a (struct fs) = λ p b dir n s h i lt t m. clash_fields fs p b (field_directions dir) n s.2 (hold_right (record_events dir a fs) _ h) i lt t m
    clash_shape a (member e at) = λ p b dir n s h i lt t m. clash e p b None n s (hold_left _ _ h) i lt t m
    clash_shape a (take_field e at v u k) = clash_take a e at v u k (clash e) (clash k)
    clash_shape a (put e at x) = clash_put a e at x (clash e) (clash x)
    clash_shape a (cast e) = λ p b dir n s h i lt t m. let w = checked_is dir a _ h in clash e p b None n s (hold_left _ _ w.2) i lt t m
    clash_shape a (annot e t) = λ p b dir n s h i lt q m. clash e p b (Some t.ty) n s.0 (hold_left _ _ h.1) i lt q m

    pub clash_fields : (fs : Named Place) → ClashFields fs
    clash_fields end = λ p b dirs n s h i lt t m. absurd (cc)
    clash_fields (field name e fs) = clash_field name e fs (clash e) (clash_fields fs)
