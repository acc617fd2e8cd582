-- The pass answers the first event that fails: calls, puts, binders and branches.
use Rattle.std.proofs.Common.{◌≡◌, ℕ, suc, ◌<◌, Bool, true, false, ◌&&◌, ◌||◌, not, Option, Some, None, Ok, List, [], ◌∷◌, ◌++◌, length, refl, sym, ap, ◌∙◌, subst, arith, nat_lt, ltb-true, lt-ltb}
use Rattle.std.specs.List.{All}
use Rattle.std.proofs.lemmas.List.Elements.{All-head, All-tail}
use Rattle.cg_base.specs.declared.kind.Kinds.{Kinds}
use Rattle.cg_base.specs.declared.place.Place.{Place}
use Rattle.cg_base.specs.Types as types
use Rattle.cg_base.specs.Types.{Tau}
use Rattle.cg_core.specs.declared.at.At.{At}
use Rattle.cg_core.specs.declared.term.Seen.{Seen}
use Rattle.cg_core.specs.Kernels.{Function}
use Rattle.cg_core.specs.Terms.{Tree, term, app, lets, let_bang, if_else, case_of, take_field, put}
use Rattle.cg_kinds.specs.Kinds.{kinds}
use Rattle.cg_faults.specs.declared.rule.Rule.TheVariants.{K2, K4, K7, T4, T5, T6, T7, T8, T10}
use Rattle.cg_typing.specs.Contexts.{push, among, shares}
use Rattle.cg_faults.specs.Events.{Event, Before, after, after_seen, upto, observer_events, scope_end, branch_events, events}
use Rattle.cg_faults.specs.Occurrences.{touched, used, sightings}
use Rattle.cg_typing.specs.Parts.{is_arrow, is_read_only, is_there, is_left, may_be_put_over, taken_by, field_in, alternative_in, held, with_part}
use Rattle.cg_check_def.specs.Pass.{Out, need, Got, leave, observers_test, branches_test, check}
use Rattle.cg_check_uses.specs.Uses.{use_of, both, join, join_seen, mark, mark_but, seen_at, seen_places, both_seen, last, front, table}
use Rattle.cg_faults.specs.Plain.{plain, plain_in, plain_at, observed}
use Rattle.cg_typing.specs.Rules.{note_at, second_branch}
use Rattle.cg_check_laws.proofs.Basics.{length_push, length_banged}
use Rattle.cg_check_laws.proofs.Clash.{Lawful}
use Rattle.cg_check_laws.proofs.Own.{value}
use Rattle.cg_check_laws.proofs.PassParts.{Passes, PassesShape, got, meets_got}
use Rattle.cg_check_laws.proofs.PassSteps.{run, run_append, next, first_bad, use_in, uses, use_two, use_seen, join_table, seen_table, last_table, front_table, Same, same_mark, same_mark_but, same_push, leave_is, branches_is}
use Rattle.cg_check_laws.proofs.SoundBranches.{branch_way}
use Rattle.cg_check_laws.proofs.SoundLeaves.{body_in}
use Rattle.cg_check_uses.proofs.TableSteps.{table_is as table_same}

-- what two parts do is what a node of both does
pub two_uses : (n : ℕ) (x y whole : Tree Place) → ((i : ℕ) → both (use_in x i) (use_in y i) ≡ use_in whole i) → join (uses n x) (uses n y) ≡ uses n whole
two_uses n x y whole h = join_table n (use_in x) (use_in y) ∙ table_same n (λ i. both (use_in x i) (use_in y i)) (use_in whole) h

swallowed : (x y z : Bool) → (y ≡ true → x ≡ true) → (x && (y && z)) ≡ (y && z)
swallowed true y z h = refl
swallowed false true z h = absurd (let q = h refl in cc)
swallowed false false z h = refl

-- two variables more
same_two : (n : ℕ) (bs : List Bool) (f : Before) → Same n bs f → Same (suc (suc n)) (push (push bs false) false) (upto n f)
same_two n bs f s =
    let t = same_push (suc n) (push bs false) (upto n f) (same_push n bs f s) in
    record { long = t.long; at_is = λ i lt. t.at_is i lt ∙ swallowed (nat_lt i (suc n)) (nat_lt i n) (f i) (λ h. let l = ltb-true i n h in lt-ltb i (suc n) (omega arith)) }

module _ (functions : List Function) (vars : List Kinds) (types_in : ℕ) where
  abbrev C : List Tau → List Bool → Option Tau → Tree Place → Out Got
  C = check functions vars

  abbrev E : List Tau → Before → Option Tau → Tree Place → List Event
  E = events functions vars

  abbrev P : Tree Place → Type 0
  P = Passes functions vars types_in

  abbrev V : ℕ → List Tau → Option Tau → Tree Place → Got
  V = value functions

  pub pass_app : (a : Place) (f x : Tree Place) → P f → P x → PassesShape functions vars types_in a (app f x)
  pass_app a f x pf px p bs b dir s m =
      let n = length p in let whole : Tree Place = term a (app f x) in let t = plain functions p f in
      next (C p bs None f) _ (E p b None f) _ (V n p None f) _ (pf p bs b None s.0 m)
      (ap (need T4 (note_at f) (is_arrow t))
      (next (C p (mark bs (uses n f)) (Some (taken_by t)) x) _ (E p (after b f) (Some (taken_by t)) x) _ (V n p (Some (taken_by t)) x) _
      (px p (mark bs (uses n f)) (after b f) (Some (taken_by t)) s.1 (same_mark n bs b f m))
      (meets_got functions vars types_in p dir a (app f x) _ (two_uses n f x whole (λ i. use_two (touched i f) (touched i x) (used i f) (used i x) (sightings i f) (sightings i x))))))

  pub pass_put : (a : Place) (e : Tree Place) (at : At) (x : Tree Place) → P e → P x → PassesShape functions vars types_in a (put e at x)
  pass_put a e at x pe px p bs b dir s m =
      let n = length p in let whole : Tree Place = term a (put e at x) in let t = plain functions p e in
      next (C p bs None e) _ (E p b None e) _ (V n p None e) _ (pe p bs b None s.0 m)
      (ap (need T5 at.place (is_there (field_in at.name t))) (ap (need T7 at.place (not (is_read_only t))) (ap (need K7 at.place (may_be_put_over vars (field_in at.name t)))
      (next (C p (mark bs (uses n e)) (Some (held (field_in at.name t))) x) _ (E p (after b e) (Some (held (field_in at.name t))) x) _ (V n p (Some (held (field_in at.name t))) x) _
      (px p (mark bs (uses n e)) (after b e) (Some (held (field_in at.name t))) s.1 (same_mark n bs b e m))
      (meets_got functions vars types_in p dir a (put e at x) _ (two_uses n e x whole (λ i. use_two (touched i e) (touched i x) (used i e) (used i x) (sightings i e) (sightings i x))))))))

  -- ---- bodies

  pub pass_body : (k : Tree Place) → P k → (p : List Tau) (t : Tau) (bs : List Bool) (f : Before) (dir : Option Tau) → Lawful functions vars types_in (suc (length p)) k → Same (length p) bs f
      → C (push p t) (push bs false) dir k ≡ run (E (push p t) (upto (length p) f) dir k) (Ok (V (suc (length p)) (push p t) dir k))
  pass_body k pk p t bs f dir s m =
      pk (push p t) (push bs false) (upto (length p) f) dir (subst (λ n. Lawful functions vars types_in n k) (sym (length_push p t)) s)
      (subst (λ n. Same n (push bs false) (upto (length p) f)) (sym (length_push p t)) (same_push (length p) bs f m))
      ∙ ap (λ n. run (E (push p t) (upto (length p) f) dir k) (Ok (V n (push p t) dir k))) (length_push p t)

  -- the end of a scope
  pub leave_last : {A : Type 0} (n : ℕ) (v : Place) (t : Tau) (k : Tree Place) (o q : Out A) → o ≡ q
      → leave functions vars v t (last (table (suc n) (use_in k))) o ≡ run (scope_end functions vars n v t k) q
  leave_last n v t k o q e = ap (λ u. leave functions vars v t u o) (last_table n (use_in k)) ∙ leave_is functions vars n v t k o ∙ ap (run (scope_end functions vars n v t k)) e

  leave_front : {A : Type 0} (n : ℕ) (v : Place) (t : Tau) (k : Tree Place) (o q : Out A) → o ≡ q
      → leave functions vars v t (last (front (table (suc (suc n)) (use_in k)))) o ≡ run (scope_end functions vars n v t k) q
  leave_front n v t k o q e = ap (λ us. leave functions vars v t (last us) o) (front_table (suc n) (use_in k)) ∙ leave_last n v t k o q e

  pub pass_let : (a v : Place) (e k : Tree Place) → P e → P k → PassesShape functions vars types_in a (lets v e k)
  pass_let a v e k pe pk p bs b dir s m =
      let n = length p in let t = plain functions p e in let whole : Tree Place = term a (lets v e k) in
      next (C p bs None e) _ (E p b None e) _ (V n p None e) _ (pe p bs b None s.0 m)
      (next (C (push p t) (push (mark bs (uses n e)) false) dir k) _ (E (push p t) (upto n (after b e)) dir k) (scope_end functions vars n v t k) (V (suc n) (push p t) dir k) _
      (pass_body k pk p t (mark bs (uses n e)) (after b e) dir s.1 (same_mark n bs b e m))
      (leave_last n v t k _ _ (got functions vars types_in p dir a (lets v e k) _ _ _ (sym (body_in functions p (push p t) dir whole k refl)) refl
      (ap (join (uses n e)) (front_table n (use_in k)) ∙ two_uses n e k whole (λ i. use_two (touched i e) (touched i k) (used i e) (used i k) (sightings i e) (sightings i k))))))

  observers_is : {A : Type 0} (p : List Tau) (bs : List Bool) (f : Before) (os : List Seen) (k : Out A) → All (λ (o : Seen). o.var < length p) os → Same (length p) bs f
      → observers_test functions vars p bs os k ≡ run (observer_events functions vars p f os) k
  observers_is p bs f [] k h s = refl
  observers_is p bs f (o ∷ os) k h s =
      ap (λ b. need K4 o.place (not b || shares vars (plain_at p o.var)) (observers_test functions vars p bs os k)) (s.at_is o.var (All-head (λ (o : Seen). o.var < length p) o os h))
      ∙ ap (need K4 o.place (not (f o.var) || shares vars (plain_at p o.var))) (observers_is p bs f os k (All-tail (λ (o : Seen). o.var < length p) o os h) s)

  pub pass_let_bang : (a : Place) (os : List Seen) (v : Place) (e k : Tree Place) → P e → P k → PassesShape functions vars types_in a (let_bang os v e k)
  pass_let_bang a os v e k pe pk p bs b dir s m =
      let n = length p in let p1 = observed os p in let t = plain functions p1 e in let whole : Tree Place = term a (let_bang os v e k) in
      let lb : length p1 ≡ n = length_banged (λ i. among i os) p in
      observers_is p bs b os _ s.0 m
      ∙ ap (run (observer_events functions vars p b os))
      (next (C p1 bs None e) _ (E p1 b None e) _ (V n p1 None e) _
      (pe p1 bs b None (subst (λ n. Lawful functions vars types_in n e) (sym lb) s.1) (subst (λ n. Same n bs b) (sym lb) m) ∙ ap (λ n. run (E p1 b None e) (Ok (V n p1 None e))) lb)
      (ap (need K2 (note_at e) (kinds vars t).escape)
      (next (C (push p t) (push (mark_but (seen_places n os) bs (uses n e)) false) dir k) _ (E (push p t) (upto n (after_seen os b e)) dir k) (scope_end functions vars n v t k)
      (V (suc n) (push p t) dir k) _
      (pass_body k pk p t (mark_but (seen_places n os) bs (uses n e)) (after_seen os b e) dir s.2 (same_mark_but os n bs b e m))
      (leave_last n v t k _ _ (got functions vars types_in p dir a (let_bang os v e k) _ _ _ (sym (body_in functions p (push p t) dir whole k refl)) refl
      (ap (join_seen (seen_places n os) (uses n e)) (front_table n (use_in k)) ∙ seen_table (λ i. seen_at i os) n (use_in e) (use_in k)
      ∙ table_same n (λ i. both_seen (seen_at i os) (use_in e i) (use_in k i)) (use_in whole) (λ i. use_seen i os e k)))))))
      ∙ sym (run_append (observer_events functions vars p b os) _ _)

  pub pass_take : (a : Place) (e : Tree Place) (at : At) (v w : Place) (k : Tree Place) → P e → P k → PassesShape functions vars types_in a (take_field e at v w k)
  pass_take a e at v w k pe pk p bs b dir s m =
      let n = length p in let r = plain functions p e in let t = with_part at.name true r in let u = held (field_in at.name r) in
      let q = push (push p t) u in let whole : Tree Place = term a (take_field e at v w k) in
      let ms = same_mark n bs b e m in
      let l2 : length q ≡ suc (suc n) = length_push (push p t) u ∙ ap suc (length_push p t) in
      next (C p bs None e) _ (E p b None e) _ (V n p None e) _ (pe p bs b None s.0 m)
      (ap (need T5 at.place (is_there (field_in at.name r))) (ap (need T7 at.place (not (is_read_only r))) (ap (need T6 at.place (is_left (field_in at.name r)))
      (next (C q (push (push (mark bs (uses n e)) false) false) dir k) _ (E q (upto n (after b e)) dir k) _ (V (suc (suc n)) q dir k) _
      (pk q (push (push (mark bs (uses n e)) false) false) (upto n (after b e)) dir (subst (λ n. Lawful functions vars types_in n k) (sym l2) s.1)
      (subst (λ z. Same z (push (push (mark bs (uses n e)) false) false) (upto (length p) (after b e))) (sym l2) (same_two n (mark bs (uses n e)) (after b e) ms))
      ∙ ap (λ n. run (E q (upto (length p) (after b e)) dir k) (Ok (V n q dir k))) l2)
      (leave_front n v t k _ _ (leave_last (suc n) w u k _ _ (got functions vars types_in p dir a (take_field e at v w k) _ _ _ (sym (body_in functions p q dir whole k refl)) refl
      (ap (λ us. join (uses n e) (front us)) (front_table (suc n) (use_in k)) ∙ ap (join (uses n e)) (front_table n (use_in k))
      ∙ two_uses n e k whole (λ i. use_two (touched i e) (touched i k) (used i e) (used i k) (sightings i e) (sightings i k)))))
      ∙ sym (run_append (scope_end functions vars n v t k) _ _))))))

  -- ---- branches

  second_way : (q : List Tau) (dir : Option Tau) (x : Tree Place) → second_branch dir (plain_in functions q dir x) ≡ second_branch dir (plain functions q x)
  second_way q dir x = sym (branch_way functions q dir x)

  three_uses : (n : ℕ) (c x y whole : Tree Place) → ((i : ℕ) → both (use_in c i) (both (use_in x i) (use_in y i)) ≡ use_in whole i)
      → join (uses n c) (join (uses n x) (uses n y)) ≡ uses n whole
  three_uses n c x y whole h =
      ap (join (uses n c)) (join_table n (use_in x) (use_in y)) ∙ join_table n (use_in c) (λ i. both (use_in x i) (use_in y i))
      ∙ table_same n (λ i. both (use_in c i) (both (use_in x i) (use_in y i))) (use_in whole) h

  use_three : (c x y : Tree Place) (i : ℕ) → both (use_in c i) (both (use_in x i) (use_in y i))
      ≡ use_of (touched i c || (touched i x || touched i y)) (used i c || (used i x || used i y)) (first_bad (sightings i c ++ (sightings i x ++ sightings i y)))
  use_three c x y i =
      ap (both (use_in c i)) (use_two (touched i x) (touched i y) (used i x) (used i y) (sightings i x) (sightings i y))
      ∙ use_two (touched i c) (touched i x || touched i y) (used i c) (used i x || used i y) (sightings i c) (sightings i x ++ sightings i y)

  pub pass_if : (a : Place) (c x y : Tree Place) → P c → P x → P y → PassesShape functions vars types_in a (if_else c x y)
  pass_if a c x y pc px py p bs b dir s m =
      let n = length p in let whole : Tree Place = term a (if_else c x y) in let bs' = mark bs (uses n c) in let way = second_branch dir (plain functions p x) in
      next (C p bs (Some types.bool) c) _ (E p b (Some types.bool) c) _ (V n p (Some types.bool) c) _ (pc p bs b (Some types.bool) s.0 m)
      (next (C p bs' dir x) _ (E p (after b c) dir x) _ (V n p dir x) _ (px p bs' (after b c) dir s.1 (same_mark n bs b c m))
      (next (C p bs' (second_branch dir (plain_in functions p dir x)) y) _ (E p (after b c) way y) _ (V n p way y) _
      (ap (λ d. C p bs' d y) (second_way p dir x) ∙ py p bs' (after b c) way s.2 (same_mark n bs b c m))
      (branches_is functions vars (note_at x) (note_at y) p (use_in x) (use_in y) _
      ∙ ap (run (branch_events vars (λ i. used i x) (λ i. used i y) (note_at x) (note_at y) p))
      (got functions vars types_in p dir a (if_else c x y) _ _ _ (sym (body_in functions p p dir whole x refl)) refl (three_uses n c x y whole (use_three c x y))))))

  branches_front : {A : Type 0} (a b : Place) (p : List Tau) (x y : Tree Place) (o q : Out A) → o ≡ q
      → branches_test functions vars a b p (front (table (suc (length p)) (use_in x))) (front (table (suc (length p)) (use_in y))) o
      ≡ run (branch_events vars (λ i. used i x) (λ i. used i y) a b p) q
  branches_front a b p x y o q e =
      ap (λ us. branches_test functions vars a b p us (front (table (suc (length p)) (use_in y))) o) (front_table (length p) (use_in x))
      ∙ ap (λ us. branches_test functions vars a b p (uses (length p) x) us o) (front_table (length p) (use_in y))
      ∙ branches_is functions vars a b p (use_in x) (use_in y) o ∙ ap (run (branch_events vars (λ i. used i x) (λ i. used i y) a b p)) e

  pub pass_case : (a : Place) (e : Tree Place) (at : At) (v : Place) (x y : Tree Place) → P e → P x → P y → PassesShape functions vars types_in a (case_of e at v x y)
  pass_case a e at v x y pe px py p bs b dir s m =
      let n = length p in let whole : Tree Place = term a (case_of e at v x y) in let r = plain functions p e in
      let t = held (alternative_in at.name r) in let u = with_part at.name true r in let qx = push p t in let qy = push p u in
      let bs' = mark bs (uses n e) in let ms = same_mark n bs b e m in let way = second_branch dir (plain functions qx x) in
      next (C p bs None e) _ (E p b None e) _ (V n p None e) _ (pe p bs b None s.0 m)
      (ap (need T8 at.place (is_there (alternative_in at.name r))) (ap (need T10 at.place (is_left (alternative_in at.name r)))
      (next (C qx (push bs' false) dir x) _ (E qx (upto n (after b e)) dir x) _ (V (suc n) qx dir x) _ (pass_body x px p t bs' (after b e) dir s.1 ms)
      (leave_last n v t x _ _
      (next (C qy (push bs' false) (second_branch dir (plain_in functions qx dir x)) y) _ (E qy (upto n (after b e)) way y) _ (V (suc n) qy way y) _
      (ap (λ d. C qy (push bs' false) d y) (second_way qx dir x) ∙ pass_body y py p u bs' (after b e) way s.2 ms)
      (leave_last n at.place u y _ _
      (branches_front (note_at x) (note_at y) p x y _ _
      (got functions vars types_in p dir a (case_of e at v x y) _ _ _ (sym (body_in functions p qx dir whole x refl)) refl
      (ap (λ us. join (uses n e) (join us (front (table (suc n) (use_in y))))) (front_table n (use_in x))
      ∙ ap (λ us. join (uses n e) (join (uses n x) us)) (front_table n (use_in y)) ∙ three_uses n e x y whole (use_three e x y))))
      ∙ sym (run_append (scope_end functions vars n at.place u y) _ _)))
      ∙ sym (run_append (scope_end functions vars n v t x) _ _)))))
