-- The rows of calls, puts and binders, where no event fails.
use Rattle.std.proofs.Common.{◌≡◌, ℕ, suc, ◌<◌, Bool, true, false, ◌&&◌, ◌||◌, not, cond, Option, Some, None, List, [], ◌++◌, length, ⊎_elim, refl, sym, ap, ◌∙◌, subst, arith}
use Rattle.cg_base.specs.declared.kind.Kinds.{Kinds}
use Rattle.cg_base.specs.declared.place.Place.{Place}
use Rattle.cg_base.specs.Types.{Tau, arrow}
use Rattle.cg_core.specs.declared.at.At.{At}
use Rattle.cg_core.specs.declared.term.Seen.{Seen as Observer}
use Rattle.cg_core.specs.Kernels.{Function}
use Rattle.cg_core.specs.Terms.{Tree, term, app, lets, let_bang, take_field, put}
use Rattle.cg_kinds.specs.Kinds.{bang}
use Rattle.cg_typing.specs.Contexts.{Context, push, first, second, among, drops}
use Rattle.cg_faults.specs.Events.{Event, Before, after, after_seen, upto, observer_events, scope_end, events, RulesHold}
use Rattle.cg_check_def.specs.NormalForm.{core, tree, marks}
use Rattle.cg_faults.specs.Occurrences.{touched, used, sightings, sightings_among}
use Rattle.cg_typing.specs.Parts.{is_arrow, taken_by, given_by, field_in, held, with_part}
use Rattle.cg_faults.specs.Plain.{plain, plain_at, observed}
use Rattle.cg_typing.specs.Rules.{Derives}
use Rattle.cg_check_laws.proofs.Basics.{hold_left, hold_right, or_else, below_suc, length_push, length_banged, at_old, at_new, at_banged}
use Rattle.cg_check_laws.proofs.Clash.{Lawful, clash, clash_body, clash_body2}
use Rattle.cg_check_laws.proofs.Occurs.{AllSeen, seen_left, seen_right, seen_of, droppable, among_seen, skip_seen, unused}
use Rattle.cg_check_laws.proofs.Parted.{parted, parted_observed, enter, banged_drops}
use Rattle.cg_check_laws.proofs.SoundLeaves.{Has, Sighted, Sound, SoundShape, meets_is, in_meets, body_in}
use Rattle.cg_check_uses.proofs.Numbers.{apart}
use Rattle.cg_base.proofs.Truths.{either_bool as bool_is, either as or_elim, or_true as or_right, not_true, or_left}

pub arrow_is : (t : Tau) → is_arrow t ≡ true → t ≡ arrow (taken_by t) (given_by t)
arrow_is (arrow a b) h = refl
arrow_is _ h = absurd (cc)

pub used_touched : (e : Tree Place) (i : ℕ) → used i e ≡ true → touched i e ≡ true
used_touched e i h = ⊎_elim (λ t. t) (λ n. apart (used i e) h (unused e i n)) (bool_is (touched i e))

module _ (functions : List Function) (vars : List Kinds) (types_in : ℕ) where
  abbrev E : List Tau → Before → Option Tau → Tree Place → List Event
  E = events functions vars

  abbrev ty : List Tau → Tree Place → Tau
  ty = plain functions

  -- two parts in one context
  left_seen : (p : List Tau) (x y whole : Tree Place) → ((i : ℕ) → i < length p → AllSeen (drops vars (plain_at p i)) (sightings i x ++ sightings i y)) → Sighted functions vars types_in p x
  left_seen p x y whole q i lt = seen_left _ _ _ (q i lt)

  right_seen : (p : List Tau) (x y whole : Tree Place) → ((i : ℕ) → i < length p → AllSeen (drops vars (plain_at p i)) (sightings i x ++ sightings i y)) → Sighted functions vars types_in p y
  right_seen p x y whole q i lt = seen_right _ (sightings i x) _ (q i lt)

  pub sound_app : (a : Place) (f x : Tree Place) → Sound functions vars types_in f → Sound functions vars types_in x → SoundShape functions vars types_in a (app f x)
  sound_app a (term af sf) (term ax sx) ff fx p b dir g s l e h q =
      let f : Tree Place = term af sf in
      let x : Tree Place = term ax sx in
      let whole : Tree Place = term a (app f x) in
      let t = taken_by (ty p f) in
      let h1 = hold_right (E p b None f) _ h in
      let m = marks (λ i. false) (λ i. touched i f) (λ i. touched i x) g in
      let pt = parted vars g p (λ i. touched i f) (λ i. touched i x) l
      (λ i lt u v. clash functions vars types_in x p (after b f) (Some t) (length p) s.1 (hold_left _ _ h1.1) i lt v (or_right (b i) (touched i f) u)) e in
      let mt = meets_is functions p dir whole a (hold_right (E p (after b f) (Some t) x) _ h1.1) in
      record {
        tree = refl;
        splits = pt.splits;
        function = ff p b None (first m g) s.0 pt.long1 pt.at1 (hold_left _ _ h) (left_seen p f x whole q);
        argument = fx p (after b f) (Some t) (second m g) s.1 pt.long2 pt.at2 (hold_left _ _ h1.1) (right_seen p f x whole q);
        is_arrow = arrow_is (ty p f) h1.0 ∙ ap (λ u. arrow t u) (sym mt);
        meets = in_meets functions p dir whole;
      }

  pub sound_put : (a : Place) (e : Tree Place) (at : At) (x : Tree Place) → Sound functions vars types_in e → Sound functions vars types_in x → SoundShape functions vars types_in a (put e at x)
  sound_put a (term ae se) at (term ax sx) fe fx p b dir g s l en h q =
      let e : Tree Place = term ae se in
      let x : Tree Place = term ax sx in
      let whole : Tree Place = term a (put e at x) in
      let t = held (field_in at.name (ty p e)) in
      let h1 = hold_right (E p b None e) _ h in
      let h2 = h1.1.1.1 in
      let m = marks (λ i. false) (λ i. touched i e) (λ i. touched i x) g in
      let pt = parted vars g p (λ i. touched i e) (λ i. touched i x) l
      (λ i lt u v. clash functions vars types_in x p (after b e) (Some t) (length p) s.1 (hold_left _ _ h2) i lt v (or_right (b i) (touched i e) u)) en in
      record {
        tree = refl;
        splits = pt.splits;
        whole = fe p b None (first m g) s.0 pt.long1 pt.at1 (hold_left _ _ h) (left_seen p e x whole q);
        there = h1.0;
        written = not_true _ h1.1.0;
        over = h1.1.1.0;
        value = fx p (after b e) (Some t) (second m g) s.1 pt.long2 pt.at2 (hold_left _ _ h2) (right_seen p e x whole q);
        is = meets_is functions p dir whole a (hold_right (E p (after b e) (Some t) x) _ h2);
        meets = in_meets functions p dir whole;
      }

  -- ---- the body of a binder

  -- what the end of a scope says
  pub ended : (n : ℕ) (v : Place) (t : Tau) (k : Tree Place) → RulesHold (scope_end functions vars n v t k)
      → ((drops vars t || touched n k) ≡ true) × AllSeen (drops vars t) (sightings n k)
  ended n v t k h =
      (or_elim (drops vars t) (used n k) h.0 (λ d. or_left _ _ d) (λ u. or_right (drops vars t) _ (used_touched k n u)), seen_of (drops vars t) (sightings n k) h.1)

  pub enter_seen : (p : List Tau) (t : Tau) (k : Tree Place) → Sighted functions vars types_in p k → AllSeen (drops vars t) (sightings (length p) k) → Sighted functions vars types_in (push p t) k
  enter_seen p t k f n i lt = ⊎_elim
      (λ le. subst (λ u. AllSeen (drops vars u) (sightings i k)) (sym (at_old p t i le)) (f i le))
      (λ e. subst (λ u. AllSeen (drops vars u) (sightings i k)) (sym (at_new p t i e)) (subst (λ j. AllSeen (drops vars t) (sightings j k)) (sym e) n))
      (below_suc i (length p) (subst (λ n. i < n) (length_push p t) lt))

  pub sound_body : (k : Tree Place) → Sound functions vars types_in k → (v : Place) (p : List Tau) (t : Tau) (b : Before) (dir : Option Tau) (g : Context)
      → Lawful functions vars types_in (suc (length p)) k → length g ≡ length p → Has functions vars types_in (λ i. touched i k) g p
      → RulesHold (E (push p t) b dir k) → RulesHold (scope_end functions vars (length p) v t k) → Sighted functions vars types_in p k
      → Derives functions vars (push g (Some t)) (tree functions (push g (Some t)) (push p t) k) dir (core functions (push p t) dir k)
  sound_body k f v p t b dir g s l e h hs q =
      let d = ended (length p) v t k hs in
      f (push p t) b dir (push g (Some t)) (subst (λ n. Lawful functions vars types_in n k) (sym (length_push p t)) s)
      (length_push g (Some t) ∙ ap suc l ∙ sym (length_push p t)) (enter vars g p t (λ i. touched i k) l e d.0) h (enter_seen p t k q d.1)

  -- of one of two variables
  sound_body2 : (k : Tree Place) → Sound functions vars types_in k → (v w : Place) (p : List Tau) (t u : Tau) (b : Before) (dir : Option Tau) (g : Context)
      → Lawful functions vars types_in (suc (suc (length p))) k → length g ≡ length p → Has functions vars types_in (λ i. touched i k) g p
      → RulesHold (E (push (push p t) u) b dir k) → RulesHold (scope_end functions vars (length p) v t k) → RulesHold (scope_end functions vars (suc (length p)) w u k)
      → Sighted functions vars types_in p k
      → Derives functions vars (push (push g (Some t)) (Some u)) (tree functions (push (push g (Some t)) (Some u)) (push (push p t) u) k) dir (core functions (push (push p t) u) dir k)
  sound_body2 k f v w p t u b dir g s l e h hs hu q =
      let d = ended (length p) v t k hs in
      let lp = length_push p t in
      sound_body k f w (push p t) u b dir (push g (Some t)) (subst (λ n. Lawful functions vars types_in (suc n) k) (sym lp) s)
      (length_push g (Some t) ∙ ap suc l ∙ sym lp) (enter vars g p t (λ i. touched i k) l e d.0) h
      (subst (λ n. RulesHold (scope_end functions vars n w u k)) (sym lp) hu) (enter_seen p t k q d.1)

  pub sound_let : (a v : Place) (e k : Tree Place) → Sound functions vars types_in e → Sound functions vars types_in k → SoundShape functions vars types_in a (lets v e k)
  sound_let a v (term ae se) (term ak sk) fe fk p b dir g s l en h q =
      let e : Tree Place = term ae se in
      let k : Tree Place = term ak sk in
      let whole : Tree Place = term a (lets v e k) in
      let t = ty p e in
      let h1 = hold_right (E p b None e) _ h in
      let hk = hold_left (E (push p t) (upto (length p) (after b e)) dir k) _ h1 in
      let hs = hold_right (E (push p t) (upto (length p) (after b e)) dir k) _ h1 in
      let m = marks (λ i. false) (λ i. touched i e) (λ i. touched i k) g in
      let pt = parted vars g p (λ i. touched i e) (λ i. touched i k) l
      (λ i lt u w. clash_body functions vars types_in k (clash functions vars types_in k) p t (after b e) dir (suc (length p)) s.1 hk i lt w (or_right (b i) _ u)) en in
      record {
        tree = refl;
        splits = pt.splits;
        value = fe p b None (first m g) s.0 pt.long1 pt.at1 (hold_left _ _ h) (left_seen p e k whole q);
        body = sound_body k fk v p t (upto (length p) (after b e)) dir (second m g) s.1 pt.long2 pt.at2 hk hs (right_seen p e k whole q);
        is = body_in functions p (push p t) dir whole k refl;
      }

  pub sound_take : (a : Place) (e : Tree Place) (at : At) (v w : Place) (k : Tree Place) → Sound functions vars types_in e → Sound functions vars types_in k → SoundShape functions vars types_in a (take_field e at v w k)
  sound_take a (term ae se) at v w (term ak sk) fe fk p b dir g s l en h q =
      let e : Tree Place = term ae se in
      let k : Tree Place = term ak sk in
      let whole : Tree Place = term a (take_field e at v w k) in
      let t = with_part at.name true (ty p e) in
      let u = held (field_in at.name (ty p e)) in
      let h1 = hold_right (E p b None e) _ h in
      let h2 = h1.1.1.1 in
      let ek = E (push (push p t) u) (upto (length p) (after b e)) dir k in
      let hk = hold_left ek _ h2 in
      let h3 = hold_right ek _ h2 in
      let m = marks (λ i. false) (λ i. touched i e) (λ i. touched i k) g in
      let pt = parted vars g p (λ i. touched i e) (λ i. touched i k) l
      (λ i lt x y. clash_body2 functions vars types_in k (clash functions vars types_in k) p t u (after b e) dir (suc (suc (length p))) s.1 hk i lt y (or_right (b i) _ x)) en in
      record {
        tree = refl;
        splits = pt.splits;
        whole = fe p b None (first m g) s.0 pt.long1 pt.at1 (hold_left _ _ h) (left_seen p e k whole q);
        left = h1.1.1.0;
        written = not_true _ h1.1.0;
        body = sound_body2 k fk v w p t u (upto (length p) (after b e)) dir (second m g) s.1 pt.long2 pt.at2 hk
            (hold_left (scope_end functions vars (length p) v t k) _ h3) (hold_right (scope_end functions vars (length p) v t k) _ h3) (right_seen p e k whole q);
        is = body_in functions p (push (push p t) u) dir whole k refl;
      }

  -- ---- observers

  but_is : (a b : Bool) → a ≡ false → b ≡ true → (not a && b) ≡ true
  but_is true b h k = absurd (cc)
  but_is false b h k = k

  seen_in : (os : List Observer) (p : List Tau) (e : Tree Place) (i : ℕ) → (among i os ≡ false → AllSeen (drops vars (plain_at p i)) (sightings i e))
      → AllSeen (drops vars (plain_at (observed os p) i)) (sightings i e)
  seen_in os p e i f = subst (λ t. AllSeen (drops vars t) (sightings i e)) (sym (at_banged (λ i. among i os) p i)) (go (among i os) f)
    where
      go : (q : Bool) → (q ≡ false → AllSeen (drops vars (plain_at p i)) (sightings i e)) → AllSeen (drops vars (cond q (bang (plain_at p i)) (plain_at p i))) (sightings i e)
      go true f = subst (λ d. AllSeen d (sightings i e)) (sym (banged_drops vars (plain_at p i))) (droppable (sightings i e))
      go false f = f refl

  pub sound_let_bang : (a : Place) (os : List Observer) (v : Place) (e k : Tree Place) → Sound functions vars types_in e → Sound functions vars types_in k
      → SoundShape functions vars types_in a (let_bang os v e k)
  sound_let_bang a os v (term ae se) (term ak sk) fe fk p b dir g s l en h q =
      let e : Tree Place = term ae se in
      let k : Tree Place = term ak sk in
      let whole : Tree Place = term a (let_bang os v e k) in
      let p1 = observed os p in
      let t = ty p1 e in
      let h1 = hold_right (observer_events functions vars p b os) _ h in
      let h2 = hold_right (E p1 b None e) _ h1 in
      let ek = E (push p t) (upto (length p) (after_seen os b e)) dir k in
      let hk = hold_left ek _ h2.1 in
      let hs = hold_right ek _ h2.1 in
      let m = marks (λ i. among i os) (λ i. touched i e) (λ i. touched i k) g in
      let lb : length p1 ≡ length p = length_banged (λ i. among i os) p in
      let own : (i : ℕ) → i < length p → AllSeen (drops vars (plain_at p i)) (sightings_among i (used i k) os) = λ i lt. seen_left _ _ _ (q i lt) in
      let rest : (i : ℕ) → i < length p → AllSeen (drops vars (plain_at p i)) (cond (among i os) [] (sightings i e) ++ sightings i k) =
      λ i lt. seen_right _ (sightings_among i (used i k) os) _ (q i lt) in
      let pt = parted_observed vars os g p (λ i. touched i e) (λ i. touched i k) l s.0
      (λ i lt x y. or_else (drops vars (plain_at p i)) (used i k) (among_seen i (drops vars (plain_at p i)) (used i k) os (own i lt) x) (unused k i y))
      (λ i lt n x y. clash_body functions vars types_in k (clash functions vars types_in k) p t (after_seen os b e) dir (suc (length p)) s.2 hk i lt y
      (or_right (b i) _ (but_is (among i os) (touched i e) n x))) en in
      record {
        tree = refl;
        splits = pt.splits;
        value = fe p1 b None (first m g) (subst (λ n. Lawful functions vars types_in n e) (sym lb) s.1) pt.long1 pt.at1 (hold_left _ _ h1)
            (λ i lt. seen_in os p e i (λ n. skip_seen _ (among i os) (sightings i e) (seen_left _ _ _ (rest i (omega arith))) n));
        escapes = h2.0;
        body = sound_body k fk v p t (upto (length p) (after_seen os b e)) dir (second m g) s.2 pt.long2 pt.at2 hk hs
            (λ i lt. seen_right _ (cond (among i os) [] (sightings i e)) _ (rest i lt));
        is = body_in functions p (push p t) dir whole k refl;
      }
