-- Where there is a derivation, no rule fails: calls, puts and binders.
use Rattle.std.proofs.Common.{◌≡◌, ℕ, suc, ◌<◌, ◌≤◌, Bool, true, false, not, cond, Option, Some, None, List, [], ◌∷◌, length, ⊎_elim, refl, sym, ap, ◌∙◌, subst, arith, nat_eq, eq-eqb}
use Rattle.cg_base.specs.declared.kind.Kinds.{Kinds}
use Rattle.cg_base.specs.declared.place.Place.{Place}
use Rattle.cg_base.specs.Types.{Tau, arrow}
use Rattle.cg_core.specs.declared.at.At.{At}
use Rattle.cg_core.specs.declared.term.Seen.{Seen as Observer}
use Rattle.cg_core.specs.Derivations.{Derivation}
use Rattle.cg_core.specs.Kernels.{Function}
use Rattle.cg_core.specs.Terms.{Tree, term, app, lets, let_bang, take_field, put, Note, erased}
use Rattle.cg_kinds.specs.Kinds.{kinds, bang}
use Rattle.cg_typing.specs.Contexts.{Context, look, mark_at, push, first, second, among, drops, shares}
use Rattle.cg_faults.specs.Events.{Event, Before, after, after_seen, upto, observer_events, scope_end, events, RulesHold}
use Rattle.cg_faults.specs.Occurrences.{touched, used, sightings, sightings_among}
use Rattle.cg_typing.specs.Parts.{is_arrow, taken_by, given_by, is_read_only, is_there, is_left, may_be_put_over, field_in, held, with_part}
use Rattle.cg_faults.specs.Plain.{plain, plain_in, plain_at, observed}
use Rattle.cg_typing.specs.Rules.{type_at}
use Rattle.cg_typing.specs.Trees.{sub, marks_of}
use Rattle.cg_check_laws.proofs.Basics.{hold_append, or_not, else_or, below_or_not, look_second, look_old, look_new, length_push, at_old, at_new, at_banged, at_kept, length_banged}
use Rattle.cg_check_laws.proofs.Clean.{Within, within_split, within_first, within_second, within_push, past_end, seen_drops, Clean, clean_second, clean_body, clean_body2}
use Rattle.cg_check_laws.proofs.CompleteParts.{Complete, Done, type_is, noted_is, in_is, meets_as, field_is}
use Rattle.cg_check_laws.proofs.Held as entries
use Rattle.cg_check_laws.proofs.Held.{D, Held, held_old}
use Rattle.cg_check_laws.proofs.Occurs.{AllSeen, seen_append, to_seen, to_among, to_skip}
use Rattle.cg_check_laws.proofs.Parted.{banged_shares}
use Rattle.cg_check_laws.proofs.SoundLeaves.{body_in}
use Rattle.cg_base.proofs.Truths.{or_true as or_right, or_left}
use Rattle.cg_typing.proofs.Lists.{second_as_many as length_second}

pub false_not : (a : Bool) → a ≡ false → not a ≡ true
false_not true e = absurd (cc)
false_not false e = refl

module _ (functions : List Function) (vars : List Kinds) where
  abbrev E : List Tau → Before → Option Tau → Tree Place → List Event
  E = events functions vars

  abbrev ty : List Tau → Tree Place → Tau
  ty = plain functions

  pub complete_app : (a : Note) (f x : Tree Note) → Complete functions vars f → Complete functions vars x → Complete functions vars (term a (app f x))
  unfolding erased
  complete_app a f x cf cx p b dir g d w c h =
      let ef = erased f in let ex = erased x in let m = marks_of d in
      let df = cf p b None (first m g) (sub d 0) (within_first vars m g p h.splits w) (λ i lt t. c i lt (or_left _ _ t)) h.function in
      let cl = clean_second vars [] m g p b ef (λ i. touched i ex) (λ i. used i ex) h.splits w (λ i lt t. c i lt (or_right (touched i ef) _ t))
      (entries.held functions vars f _ _ _ h.function) (entries.held functions vars x _ _ _ h.argument) in
      let tf : ty p ef ≡ arrow (type_at x) a.ty = sym (type_is functions vars p b None ef f df) ∙ h.is_arrow in
      let td : type_at x ≡ taken_by (ty p ef) = sym (ap taken_by tf) in
      let dx = subst (λ t. Done functions vars p (after b ef) (Some t) ex x) td (cx p (after b ef) (Some (type_at x)) (second m g) (sub d 1) (within_second vars m g p h.splits w) cl h.argument) in
      let tc : a.ty ≡ given_by (ty p ef) = sym (ap given_by tf) in
      let ta = noted_is a _ (in_is functions p dir (term a.place (app ef ex)) a.ty h.meets tc) in let qf = df.core_is in let qx = dx.core_is in
      record {
        core_is = cc;
        ok = hold_append _ _ (hold_append (E p b None ef) _ df.ok (ap is_arrow tf, hold_append (E p (after b ef) (Some (taken_by (ty p ef))) ex) _ dx.ok (meets_as dir a.place a.ty _ tc h.meets))) (tt, tt);
        sighted = λ i lt. seen_append _ (sightings i ef) _ (df.sighted i lt) (dx.sighted i lt);
      }

  pub complete_put : (a : Note) (e : Tree Note) (at : At) (x : Tree Note) → Complete functions vars e → Complete functions vars x → Complete functions vars (term a (put e at x))
  unfolding erased
  complete_put a e at x ce cx p b dir g d w c h =
      let ee = erased e in let ex = erased x in let m = marks_of d in
      let de = ce p b None (first m g) (sub d 0) (within_first vars m g p h.splits w) (λ i lt t. c i lt (or_left _ _ t)) h.whole in
      let te : type_at e ≡ ty p ee = type_is functions vars p b None ee e de in
      let cl = clean_second vars [] m g p b ee (λ i. touched i ex) (λ i. used i ex) h.splits w (λ i lt t. c i lt (or_right (touched i ee) _ t))
      (entries.held functions vars e _ _ _ h.whole) (entries.held functions vars x _ _ _ h.value) in
      let dx = subst (λ t. Done functions vars p (after b ee) (Some (held (field_in at.name t))) ex x) te
      (cx p (after b ee) (Some (held (field_in at.name (type_at e)))) (second m g) (sub d 1) (within_second vars m g p h.splits w) cl h.value) in
      let t : a.ty ≡ with_part at.name false (ty p ee) = h.is ∙ ap (λ t. with_part at.name false t) te in
      let ta = noted_is a _ (in_is functions p dir (term a.place (put ee at ex)) a.ty h.meets t) in let qe = de.core_is in let qx = dx.core_is in
      record {
        core_is = cc;
        ok = hold_append _ _ (hold_append (E p b None ee) _ de.ok (
          subst (λ t. is_there (field_in at.name t) ≡ true) te h.there,
          (
            subst (λ t. not (is_read_only t) ≡ true) te (false_not _ h.written),
            (
              subst (λ t. may_be_put_over vars (field_in at.name t) ≡ true) te h.over,
              hold_append (E p (after b ee) (Some (held (field_in at.name (ty p ee)))) ex) _ dx.ok (meets_as dir a.place a.ty _ t h.meets),
            ),
          ),
        )) (tt, tt);
        sighted = λ i lt. seen_append _ (sightings i ee) _ (de.sighted i lt) (dx.sighted i lt);
      }

  -- ---- bodies

  -- what the body of a binder says at the end of the scope
  pub record BodyDone (p : List Tau) (t : Tau) (b : Before) (dir : Option Tau) (v : Place) (k : Tree Place) (c : Tree Note) : Type 0 where
    pub done : Done functions vars (push p t) (upto (length p) b) dir k c
    pub ends : RulesHold (scope_end functions vars (length p) v t k)
    pub sighted : (i : ℕ) → i < length p → AllSeen (drops vars (plain_at p i)) (sightings i k)

  pub complete_body : (k : Tree Note) → Complete functions vars k → (v : Place) (p : List Tau) (t : Tau) (b : Before) (dir : Option Tau) (g : Context) (d : Derivation) → Within g p → Clean vars p b (erased k)
      → D functions vars (push g (Some t)) d dir k → BodyDone p t b dir v (erased k) k
  complete_body k ck v p t b dir g d w c h =
      let ek = erased k in let l = w.long in let lp = length_push p t in let lg = length_push g (Some t) in
      let dk = ck (push p t) (upto (length p) b) dir (push g (Some t)) d (within_push g p t w) (clean_body vars p t b ek c) h in
      let hn : Held vars (touched (length p) ek) (used (length p) ek) (Some t) =
      subst (λ o. Held vars (touched (length p) ek) (used (length p) ek) o) (look_new g (Some t) (length p) (sym l)) (entries.held functions vars k _ _ _ h (length p) (omega arith)) in
      record {
        done = dk;
        ends = (
          else_or (drops vars t) (used (length p) ek) hn,
          to_seen (drops vars t) (sightings (length p) ek) (subst (λ t. AllSeen (drops vars t) (sightings (length p) ek)) (at_new p t (length p) refl) (dk.sighted (length p) (omega arith))),
        );
        sighted = λ i lt. subst (λ t. AllSeen (drops vars t) (sightings i ek)) (at_old p t i lt) (dk.sighted i (omega arith));
      }

  -- of two variables
  pub record BodyDone2 (p : List Tau) (t u : Tau) (b : Before) (dir : Option Tau) (v w : Place) (k : Tree Place) (c : Tree Note) : Type 0 where
    pub done : Done functions vars (push (push p t) u) (upto (length p) b) dir k c
    pub ends : RulesHold (scope_end functions vars (length p) v t k)
    pub ends2 : RulesHold (scope_end functions vars (suc (length p)) w u k)
    pub sighted : (i : ℕ) → i < length p → AllSeen (drops vars (plain_at p i)) (sightings i k)

  -- the end of a scope, where the context has the variable, and its sightings are told
  ends_ok : (k : Tree Note) (g : Context) (d : Derivation) (dir : Option Tau) (n : ℕ) (t : Tau) (v : Place) → D functions vars g d dir k → n < length g → look g n ≡ Some t
      → AllSeen (drops vars t) (sightings n (erased k)) → RulesHold (scope_end functions vars n v t (erased k))
  ends_ok k g d dir n t v h lt is q =
      let ek = erased k in
      let hn : Held vars (touched n ek) (used n ek) (Some t) = subst (λ o. Held vars (touched n ek) (used n ek) o) is (entries.held functions vars k _ _ _ h n lt) in
      (else_or (drops vars t) (used n ek) hn, to_seen (drops vars t) (sightings n ek) q)

  complete_body2 : (k : Tree Note) → Complete functions vars k → (v z : Place) (p : List Tau) (t u : Tau) (b : Before) (dir : Option Tau) (g : Context) (d : Derivation) → Within g p → Clean vars p b (erased k)
      → D functions vars (push (push g (Some t)) (Some u)) d dir k → BodyDone2 p t u b dir v z (erased k) k
  complete_body2 k ck v z p t u b dir g d w c h =
      let ek = erased k in let l = w.long in let lp = length_push p t in let lg = length_push g (Some t) in
      let lp2 = length_push (push p t) u in let lg2 = length_push (push g (Some t)) (Some u) in
      let w1 = within_push g p t w in
      let dk = ck (push (push p t) u) (upto (length p) b) dir (push (push g (Some t)) (Some u)) d (within_push (push g (Some t)) (push p t) u w1) (clean_body2 vars p t u b ek c) h in
      let n1 : length p < length (push p t) = omega arith in
      let at1 : plain_at (push (push p t) u) (length p) ≡ t = at_old (push p t) u (length p) n1 ∙ at_new p t (length p) refl in
      let at2 : plain_at (push (push p t) u) (suc (length p)) ≡ u = at_new (push p t) u (suc (length p)) (sym lp) in
      let look1 : look (push (push g (Some t)) (Some u)) (length p) ≡ Some t =
      look_old (push g (Some t)) (Some u) (length p) (omega arith) ∙ look_new g (Some t) (length p) (sym l) in
      let look2 : look (push (push g (Some t)) (Some u)) (suc (length p)) ≡ Some u = look_new (push g (Some t)) (Some u) (suc (length p)) (omega arith) in
      record {
        done = dk;
        ends = ends_ok k _ _ _ (length p) t v h (omega arith) look1 (subst (λ t. AllSeen (drops vars t) (sightings (length p) ek)) at1 (dk.sighted (length p) (omega arith)));
        ends2 = ends_ok k _ _ _ (suc (length p)) u z h (omega arith) look2 (subst (λ t. AllSeen (drops vars t) (sightings (suc (length p)) ek)) at2 (dk.sighted (suc (length p)) (omega arith)));
        sighted = λ i lt. let l1 : i < length (push p t) = omega arith in
            subst (λ t. AllSeen (drops vars t) (sightings i ek)) (at_old (push p t) u i l1 ∙ at_old p t i lt) (dk.sighted i (omega arith));
      }

  pub complete_let : (a : Note) (v : Place) (e k : Tree Note) → Complete functions vars e → Complete functions vars k → Complete functions vars (term a (lets v e k))
  unfolding erased
  complete_let a v e k ce ck p b dir g d w c h =
      let ee = erased e in let ek = erased k in let m = marks_of d in
      let de = ce p b None (first m g) (sub d 0) (within_first vars m g p h.splits w) (λ i lt t. c i lt (or_left _ _ t)) h.value in
      let te : type_at e ≡ ty p ee = type_is functions vars p b None ee e de in
      let cn = clean_second vars [] m g p b ee (λ i. touched i ek) (λ i. used i ek) h.splits w (λ i lt t. c i lt (or_right (touched i ee) _ t))
      (entries.held functions vars e _ _ _ h.value) (held_old vars _ _ ek (entries.held functions vars k _ _ _ h.body)) in
      let dk = subst (λ t. BodyDone p t (after b ee) dir v ek k) te (complete_body k ck v p (type_at e) (after b ee) dir (second m g) (sub d 1) (within_second vars m g p h.splits w) cn h.body) in
      let q = push p (ty p ee) in
      let tk : a.ty ≡ plain_in functions p dir (term a.place (lets v ee ek)) =
      h.is ∙ type_is functions vars q _ dir ek k dk.done ∙ sym (body_in functions p q dir (term a.place (lets v ee ek)) ek refl) in
      let ta = noted_is a _ tk in let qe = de.core_is in let qk = dk.done.core_is in
      record {
        core_is = cc;
        ok = hold_append _ _ (hold_append (E p b None ee) _ de.ok (hold_append (E q (upto (length p) (after b ee)) dir ek) _ dk.done.ok dk.ends)) (tt, tt);
        sighted = λ i lt. seen_append _ (sightings i ee) _ (de.sighted i lt) (dk.sighted i lt);
      }

  pub complete_take : (a : Note) (e : Tree Note) (at : At) (v z : Place) (k : Tree Note) → Complete functions vars e → Complete functions vars k → Complete functions vars (term a (take_field e at v z k))
  unfolding erased
  complete_take a e at v z k ce ck p b dir g d w c h =
      let ee = erased e in let ek = erased k in let m = marks_of d in
      let de = ce p b None (first m g) (sub d 0) (within_first vars m g p h.splits w) (λ i lt t. c i lt (or_left _ _ t)) h.whole in
      let te : type_at e ≡ ty p ee = type_is functions vars p b None ee e de in
      let cn = clean_second vars [] m g p b ee (λ i. touched i ek) (λ i. used i ek) h.splits w (λ i lt t. c i lt (or_right (touched i ee) _ t))
      (entries.held functions vars e _ _ _ h.whole) (held_old vars _ _ ek (held_old vars _ _ ek (entries.held functions vars k _ _ _ h.body))) in
      let t = with_part at.name true (ty p ee) in
      let u = held (field_in at.name (ty p ee)) in
      let dk = subst (λ y. BodyDone2 p (with_part at.name true y) (held (field_in at.name y)) (after b ee) dir v z ek k) te
      (complete_body2 k ck v z p (with_part at.name true (type_at e)) (held (field_in at.name (type_at e))) (after b ee) dir (second m g) (sub d 1) (within_second vars m g p h.splits w) cn h.body) in
      let q = push (push p t) u in
      let whole : Tree Place = term a.place (take_field ee at v z ek) in
      let tk : a.ty ≡ plain_in functions p dir whole = h.is ∙ type_is functions vars q _ dir ek k dk.done ∙ sym (body_in functions p q dir whole ek refl) in
      let left : is_left (field_in at.name (ty p ee)) ≡ true = subst (λ t. is_left (field_in at.name t) ≡ true) te h.left in
      let ta = noted_is a _ tk in let qe = de.core_is in let qk = dk.done.core_is in
      record {
        core_is = cc;
        ok = hold_append _ _ (hold_append (E p b None ee) _ de.ok (
          field_is at.name (ty p ee) left,
          (
            subst (λ t. not (is_read_only t) ≡ true) te (false_not _ h.written),
            (
              left,
              hold_append (E q (upto (length p) (after b ee)) dir ek) _ dk.done.ok (hold_append (scope_end functions vars (length p) v t ek) _ dk.ends dk.ends2),
            ),
          ),
        )) (tt, tt);
        sighted = λ i lt. seen_append _ (sightings i ee) _ (de.sighted i lt) (dk.sighted i lt);
      }

  -- ---- observers

  observers_ok : (p : List Tau) (b : Before) (os : List Observer) → ((i : ℕ) → among i os ≡ true → b i ≡ true → shares vars (plain_at p i) ≡ true) → RulesHold (observer_events functions vars p b os)
  observers_ok p b [] h = tt
  observers_ok p b (o ∷ os) h =
      (or_not (b o.var) _ (h o.var (or_left _ _ (eq-eqb o.var o.var refl))), observers_ok p b os (λ i n. h i (or_right (nat_eq i o.var) _ n)))

  unit_shares : (p : List Tau) (i : ℕ) → length p ≤ i → shares vars (plain_at p i) ≡ true
  unfolding kinds
  unit_shares p i h = ap (shares vars) (past_end p i h)

  pub complete_let_bang : (a : Note) (os : List Observer) (v : Place) (e k : Tree Note) → Complete functions vars e → Complete functions vars k → Complete functions vars (term a (let_bang os v e k))
  unfolding erased
  complete_let_bang a os v e k ce ck p b dir g d w c h =
      let ee = erased e in let ek = erased k in let m = marks_of d in let p1 = observed os p in
      let l = w.long in let lb = length_banged (λ i. among i os) p in let l2 = length_second m g h.splits.long in
      let ws = within_split vars os m g p h.splits w in
      let hk = held_old vars _ _ ek (entries.held functions vars k _ _ _ h.body) in
      let de = ce p1 b None (first m g) (sub d 0) ws.0
      (λ i lt t q. sub_shares i (λ u. c i (omega arith) (or_right (among i os) _ (or_left _ _ t)) q)) h.value in
      let te : type_at e ≡ ty p1 ee = type_is functions vars p1 b None ee e de in
      let cn = clean_second vars os m g p b ee (λ i. touched i ek) (λ i. used i ek) h.splits w (λ i lt t. c i lt (or_right (among i os) _ (or_right (touched i ee) _ t)))
      (entries.held functions vars e _ _ _ h.value) hk in
      let dk = subst (λ t. BodyDone p t (after_seen os b ee) dir v ek k) te (complete_body k ck v p (type_at e) (after_seen os b ee) dir (second m g) (sub d 1) ws.1 cn h.body) in
      let q = push p (ty p1 ee) in
      let whole : Tree Place = term a.place (let_bang os v ee ek) in
      let tk : a.ty ≡ plain_in functions p dir whole = h.is ∙ type_is functions vars q _ dir ek k dk.done ∙ sym (body_in functions p q dir whole ek refl) in
      let ta = noted_is a _ tk in let qe = de.core_is in let qk = dk.done.core_is in
      let se : RulesHold (observer_events functions vars p b os) =
      observers_ok p b os (λ i n q. ⊎_elim (λ lt. c i lt (or_left _ _ n) q) (λ ge. unit_shares p i ge) (below_or_not i (length p))) in
      let own : (i : ℕ) → i < length p → AllSeen (drops vars (plain_at p i)) (sightings_among i (used i ek) os) =
      λ i lt. to_among i (drops vars (plain_at p i)) (used i ek) os (λ n. else_or (drops vars (plain_at p i)) (used i ek) (λ u.
      seen_drops vars (among i os) (touched i ek) (used i ek) (mark_at m i) (look g i) (plain_at p i) (h.splits.fits i (omega arith)) n
      (subst (λ o. Held vars (touched i ek) (used i ek) o) (look_second m g i) (hk i (omega arith))) (w.at i lt) u)) in
      record {
        core_is = cc;
        ok = hold_append _ _ (hold_append (observer_events functions vars p b os) _ se (hold_append (E p1 b None ee) _ de.ok (
          subst (λ t. (kinds vars t).escape ≡ true) te h.escapes,
          hold_append (E q (upto (length p) (after_seen os b ee)) dir ek) _ dk.done.ok dk.ends,
        ))) (tt, tt);
        sighted = λ i lt. seen_append _ (sightings_among i (used i ek) os) _ (own i lt)
            (seen_append _ (cond (among i os) [] (sightings i ee)) _
            (to_skip _ (among i os) (sightings i ee) (λ n. subst (λ t. AllSeen (drops vars t) (sightings i ee)) (at_kept os p i n) (de.sighted i (omega arith))))
            (dk.sighted i lt));
      }
    where
      sub_shares : (i : ℕ) → (among i os ≡ false → shares vars (plain_at p i) ≡ true) → shares vars (plain_at (observed os p) i) ≡ true
      sub_shares i f = subst (λ t. shares vars t ≡ true) (sym (at_banged (λ i. among i os) p i)) (go (among i os) f)
        where
          go : (q : Bool) → (q ≡ false → shares vars (plain_at p i) ≡ true) → shares vars (cond q (bang (plain_at p i)) (plain_at p i)) ≡ true
          go true f = banged_shares vars (plain_at p i)
          go false f = f refl
