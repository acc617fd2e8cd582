-- Where there is a derivation, no rule fails: branches.
use Rattle.std.proofs.Common.{◌≡◌, ℕ, suc, ◌<◌, Bool, true, false, ◌||◌, not, cond, Option, Some, None, List, [], ◌∷◌, length, refl, sym, ap, ◌∙◌, subst, arith}
use Rattle.cg_base.specs.declared.kind.Kinds.{Kinds}
use Rattle.cg_base.specs.declared.place.Place.{Place}
use Rattle.cg_base.specs.Types as types
use Rattle.cg_base.specs.Types.{Tau}
use Rattle.cg_core.specs.declared.at.At.{At}
use Rattle.cg_core.specs.Kernels.{Function}
use Rattle.cg_core.specs.Terms.{Tree, term, if_else, case_of, Note, erased}
use Rattle.cg_typing.specs.Contexts.{Context, look, push, first, second, drops}
use Rattle.cg_faults.specs.Events.{Event, Before, after, upto, scope_end, branch_events, events, RulesHold}
use Rattle.cg_faults.specs.Occurrences.{touched, used, sightings}
use Rattle.cg_typing.specs.Parts.{is_left, alternative_in, held, with_part}
use Rattle.cg_faults.specs.Plain.{plain, plain_in, plain_at}
use Rattle.cg_typing.specs.Rules.{type_at, second_branch, note_at}
use Rattle.cg_typing.specs.Trees.{sub, marks_of}
use Rattle.cg_check_laws.proofs.Basics.{hold_append}
use Rattle.cg_check_laws.proofs.Clean.{Of, Within, within_first, within_second, clean_second}
use Rattle.cg_check_laws.proofs.CompleteBinders.{BodyDone, complete_body}
use Rattle.cg_check_laws.proofs.CompleteParts.{Complete, Done, type_is, noted_is, there_is}
use Rattle.cg_check_laws.proofs.Held as entries
use Rattle.cg_check_laws.proofs.Held.{Held, HeldIn, held_old}
use Rattle.cg_check_laws.proofs.Occurs.{seen_append, unused}
use Rattle.cg_check_laws.proofs.SoundLeaves.{body_in}
use Rattle.cg_base.proofs.Truths.{or_true as or_right, or_left}

to_branches : (vars : List Kinds) (u v : ℕ → Bool) (x y : Place) (p : List Tau) → ((i : ℕ) → i < length p → (drops vars (plain_at p i) || cond (u i) (v i) (not (v i))) ≡ true)
    → RulesHold (branch_events vars u v x y p)
to_branches vars u v x y [] h = tt
to_branches vars u v x y (t ∷ p) h = (h 0 (omega arith), to_branches vars (λ i. u (suc i)) (λ i. v (suc i)) x y p (λ i l. h (suc i) (omega arith)))

none_used : (a b : Bool) → a ≡ false → b ≡ false → cond a b (not b) ≡ true
none_used true b h k = absurd (cc)
none_used false true h k = absurd (cc)
none_used false false h k = refl

-- at one variable
used_alike : (vars : List Kinds) (tx ux ty uy : Bool) (o : Option Tau) (t : Tau) → Held vars tx ux o → Held vars ty uy o → Of o t → (tx ≡ false → ux ≡ false) → (ty ≡ false → uy ≡ false)
    → (drops vars t || cond ux uy (not uy)) ≡ true
used_alike vars tx ux ty uy None t x y e f g = or_right (drops vars t) _ (none_used ux uy (f x) (g y))
used_alike vars tx true ty true (Some u) t x y e f g = or_right (drops vars t) _ refl
used_alike vars tx true ty false (Some u) t x y e f g = or_left _ _ (subst (λ t. drops vars t ≡ true) e (y refl))
used_alike vars tx false ty true (Some u) t x y e f g = or_left _ _ (subst (λ t. drops vars t ≡ true) e (x refl))
used_alike vars tx false ty false (Some u) t x y e f g = or_right (drops vars t) _ refl

second_as : (functions : List Function) (q : List Tau) (dir : Option Tau) (x : Tree Place) (t : Tau) → t ≡ plain_in functions q dir x → second_branch dir t ≡ second_branch dir (plain functions q x)
second_as functions q None x t h = ap Some h
second_as functions q (Some u) x t h = refl

module _ (functions : List Function) (vars : List Kinds) where
  abbrev E : List Tau → Before → Option Tau → Tree Place → List Event
  E = events functions vars

  -- behind both branches
  branches_ok : (g : Context) (p : List Tau) (x y : Tree Place) (a b : Place) → Within g p → HeldIn vars g x → HeldIn vars g y → RulesHold (branch_events vars (λ i. used i x) (λ i. used i y) a b p)
  branches_ok g p x y a b w hx hy = let l = w.long in
      to_branches vars (λ i. used i x) (λ i. used i y) a b p
      (λ i lt. used_alike vars (touched i x) (used i x) (touched i y) (used i y) (look g i) (plain_at p i) (hx i (omega arith)) (hy i (omega arith)) (w.at i lt) (unused x i) (unused y i))

  pub complete_if : (a : Note) (c x y : Tree Note) → Complete functions vars c → Complete functions vars x → Complete functions vars y → Complete functions vars (term a (if_else c x y))
  unfolding erased
  complete_if a c x y fc fx fy p b dir g d w cl h =
      let ec = erased c in let ex = erased x in let ey = erased y in let m = marks_of d in
      let w2 = within_second vars m g p h.splits w in
      let hc = entries.held functions vars c _ _ _ h.condition in let hx = entries.held functions vars x _ _ _ h.first in let hy = entries.held functions vars y _ _ _ h.second in
      let dc = fc p b (Some types.bool) (first m g) (sub d 0) (within_first vars m g p h.splits w) (λ i lt t. cl i lt (or_left _ _ t)) h.condition in
      let cx = clean_second vars [] m g p b ec (λ i. touched i ex) (λ i. used i ex) h.splits w (λ i lt t. cl i lt (or_right (touched i ec) _ (or_left _ _ t))) hc hx in
      let cy = clean_second vars [] m g p b ec (λ i. touched i ey) (λ i. used i ey) h.splits w (λ i lt t. cl i lt (or_right (touched i ec) _ (or_right (touched i ex) _ t))) hc hy in
      let dx = fx p (after b ec) dir (second m g) (sub d 1) w2 cx h.first in
      let tx = type_is functions vars p (after b ec) dir ex x dx in
      let dy = subst (λ q. Done functions vars p (after b ec) q ey y) (second_as functions p dir ex (type_at x) tx)
      (fy p (after b ec) (second_branch dir (type_at x)) (second m g) (sub d 2) w2 cy h.second) in
      let whole : Tree Place = term a.place (if_else ec ex ey) in
      let ta = noted_is a _ (h.is ∙ tx ∙ sym (body_in functions p p dir whole ex refl)) in
      let qc = dc.core_is in let qx = dx.core_is in let qy = dy.core_is in
      record {
        core_is = cc;
        ok = hold_append _ _ (hold_append (E p b (Some types.bool) ec) _ dc.ok (hold_append (E p (after b ec) dir ex) _ dx.ok
            (hold_append (E p (after b ec) (second_branch dir (plain functions p ex)) ey) _ dy.ok (branches_ok (second m g) p ex ey (note_at ex) (note_at ey) w2 hx hy)))) (tt, tt);
        sighted = λ i lt. seen_append _ (sightings i ec) _ (dc.sighted i lt) (seen_append _ (sightings i ex) _ (dx.sighted i lt) (dy.sighted i lt));
      }

  pub complete_case : (a : Note) (e : Tree Note) (at : At) (v : Place) (x y : Tree Note) → Complete functions vars e → Complete functions vars x → Complete functions vars y
      → Complete functions vars (term a (case_of e at v x y))
  unfolding erased
  complete_case a e at v x y fe fx fy p b dir g d w cl h =
      let ee = erased e in let ex = erased x in let ey = erased y in let m = marks_of d in
      let w2 = within_second vars m g p h.splits w in
      let he = entries.held functions vars e _ _ _ h.subject in
      let hx = held_old vars _ _ ex (entries.held functions vars x _ _ _ h.first) in let hy = held_old vars _ _ ey (entries.held functions vars y _ _ _ h.second) in
      let de = fe p b None (first m g) (sub d 0) (within_first vars m g p h.splits w) (λ i lt t. cl i lt (or_left _ _ t)) h.subject in
      let te : type_at e ≡ plain functions p ee = type_is functions vars p b None ee e de in
      let t = held (alternative_in at.name (plain functions p ee)) in
      let u = with_part at.name true (plain functions p ee) in
      let px = push p t in let py = push p u in
      let bb : Before = upto (length p) (after b ee) in
      let cx = clean_second vars [] m g p b ee (λ i. touched i ex) (λ i. used i ex) h.splits w (λ i lt t. cl i lt (or_right (touched i ee) _ (or_left _ _ t))) he hx in
      let cy = clean_second vars [] m g p b ee (λ i. touched i ey) (λ i. used i ey) h.splits w (λ i lt t. cl i lt (or_right (touched i ee) _ (or_right (touched i ex) _ t))) he hy in
      let dx = subst (λ z. BodyDone functions vars p (held (alternative_in at.name z)) (after b ee) dir v ex x) te
      (complete_body functions vars x fx v p (held (alternative_in at.name (type_at e))) (after b ee) dir (second m g) (sub d 1) w2 cx h.first) in
      let tx = type_is functions vars px bb dir ex x dx.done in
      let way = second_branch dir (plain functions px ex) in
      let dy = subst (λ q. BodyDone functions vars p u (after b ee) q at.place ey y) (second_as functions px dir ex (type_at x) tx)
      (subst (λ z. BodyDone functions vars p (with_part at.name true z) (after b ee) (second_branch dir (type_at x)) at.place ey y) te
      (complete_body functions vars y fy at.place p (with_part at.name true (type_at e)) (after b ee) (second_branch dir (type_at x)) (second m g) (sub d 2) w2 cy h.second)) in
      let whole : Tree Place = term a.place (case_of ee at v ex ey) in
      let left : is_left (alternative_in at.name (plain functions p ee)) ≡ true = subst (λ t. is_left (alternative_in at.name t) ≡ true) te h.left in
      let ta = noted_is a _ (h.is ∙ tx ∙ sym (body_in functions p px dir whole ex refl)) in
      let qe = de.core_is in let qx = dx.done.core_is in let qy = dy.done.core_is in
      record {
        core_is = cc;
        ok = hold_append _ _ (hold_append (E p b None ee) _ de.ok (
          there_is at.name (plain functions p ee) left,
          (
            left,
            hold_append (E px bb dir ex) _ dx.done.ok (hold_append (scope_end functions vars (length p) v t ex) _ dx.ends
                (hold_append (E py bb way ey) _ dy.done.ok (hold_append (scope_end functions vars (length p) at.place u ey) _ dy.ends
                (branches_ok (second m g) p ex ey (note_at ex) (note_at ey) w2 hx hy)))),
          ),
        )) (tt, tt);
        sighted = λ i lt. seen_append _ (sightings i ee) _ (de.sighted i lt) (seen_append _ (sightings i ex) _ (dx.sighted i lt) (dy.sighted i lt));
      }
