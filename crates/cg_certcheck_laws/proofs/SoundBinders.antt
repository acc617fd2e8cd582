-- Where no event fails, a derivation is spelled: calls, puts and binders.
use Rattle.std.proofs.Common.{ℕ, suc, ◌+◌, ◌<◌, true, false, not, Option, Some, None, List, length, drop, refl, sym, ap, ◌∙◌, subst}
use Rattle.std.specs.List.{All}
use Rattle.cg_base.specs.declared.kind.Kinds.{Kinds}
use Rattle.cg_base.specs.declared.place.Place.{Place}
use Rattle.cg_base.specs.Types.{Tau, arrow}
use Rattle.cg_cert.specs.declared.cert.CertNode.{CertNode}
use Rattle.cg_core.specs.declared.at.At.{At}
use Rattle.cg_core.specs.declared.derivation.Node.TheVariants as nodes
use Rattle.cg_core.specs.declared.term.Seen.{Seen as Observer}
use Rattle.cg_core.specs.Kernels.{Function}
use Rattle.cg_core.specs.Terms.{Tree, term, app, lets, let_bang, take_field, put}
use Rattle.cg_faults.specs.Events as faults
use Rattle.cg_faults.specs.Events.{after, after_seen, upto, observer_events, scope_end}
use Rattle.cg_faults.specs.Plain.{plain, observed}
use Rattle.cg_certcheck_def.specs.Events.{Event, events, size, behind, marks_next}
use Rattle.cg_typing.specs.Contexts.{Context, push, first, second, among}
use Rattle.cg_typing.specs.Parts.{taken_by, given_by, is_there, is_left, is_read_only, field_in, held, with_part}
use Rattle.cg_typing.specs.Trees.{two}
use Rattle.cg_check_laws.proofs.Basics.{length_push, length_banged}
use Rattle.cg_check_laws.proofs.Clash.{Lawful}
use Rattle.cg_check_laws.proofs.Clean.{within_first, within_second, within_split, within_push}
use Rattle.cg_check_laws.proofs.SoundLeaves.{in_meets, body_in}
use Rattle.cg_certcheck_laws.proofs.ReadSteps.{two_reads}
use Rattle.cg_certcheck_laws.proofs.Limits.{limits_append, meets_limits, observer_limits, scope_limits}
use Rattle.cg_certcheck_laws.proofs.Nodes.{heads_two}
use Rattle.cg_certcheck_laws.proofs.Rows.{hold_left, hold_right, split_is, split_seen, met_is}
use Rattle.cg_certcheck_laws.proofs.SoundLeaves.{Sound, SoundShape}
use Rattle.cg_check_laws.proofs.SoundBinders.{arrow_is}
use Rattle.cg_base.proofs.Truths.{both as and_both, not_true as not_is}

module _ (functions : List Function) (vars : List Kinds) (types_in : ℕ) where
  abbrev E : Context → List Tau → Option Tau → List CertNode → ℕ → Tree Place → List Event
  E = events functions vars

  -- a body under one binder more
  pub lawful_push : (p : List Tau) (t : Tau) (k : Tree Place) → Lawful functions vars types_in (suc (length p)) k → Lawful functions vars types_in (length (push p t)) k
  lawful_push p t k s = subst (λ n. Lawful functions vars types_in n k) (sym (length_push p t)) s

  pub sound_app : (a : Place) (f x : Tree Place) → Sound functions vars types_in f → Sound functions vars types_in x → SoundShape functions vars types_in a (app f x)
  sound_app a (term af sf) (term ax sx) ff fx g p dir ns n s w h =
      let f : Tree Place = term af sf in
      let x : Tree Place = term ax sx in
      let whole : Tree Place = term a (app f x) in
      let m = marks_next ns in
      let t = plain functions p f in
      let ef = E (first m g) p None (behind ns) (suc n) f in
      let ex = E (second m g) p (Some (taken_by t)) (drop (size f) (behind ns)) (suc n + size f) x in
      let sp = split_is functions vars ns nodes.App g h.0 h.1.0 in
      let h1 = hold_right ef _ h.1.1 in
      let df = ff (first m g) p None (behind ns) (suc n) s.0 (within_first vars m g p sp.splits w) (hold_left ef _ h.1.1) in
      let dx = fx (second m g) p (Some (taken_by t)) (drop (size f) (behind ns)) (suc n + size f) s.1 (within_second vars m g p sp.splits w) (hold_left ex _ h1.1) in
      let mt = met_is functions p dir whole (given_by t) refl (hold_right ex _ h1.1).0 in
      record {
        tree = two nodes.App m df.tree dx.tree;
        reads = two_reads df.reads dx.reads;
        heads = heads_two nodes.App ns (size f) (size x) df.tree dx.tree sp.is sp.one df.heads dx.heads;
        derives = record {
          tree = refl;
          splits = sp.splits;
          function = df.derives;
          argument = dx.derives;
          is_arrow = arrow_is t h1.0 ∙ ap (λ u. arrow (taken_by t) u) (sym mt);
          meets = in_meets functions p dir whole;
        };
        limits = λ b. limits_append (faults.events functions vars p b None f) _ (df.limits b) (
          tt,
          limits_append
              (faults.events functions vars p (after b f) (Some (taken_by t)) x) _ (dx.limits (after b f)) (meets_limits dir a (given_by t)),
        );
      }

  pub sound_put : (a : Place) (e : Tree Place) (at : At) (x : Tree Place) → Sound functions vars types_in e → Sound functions vars types_in x
      → SoundShape functions vars types_in a (put e at x)
  sound_put a (term ae se) at (term ax sx) fe fx g p dir ns n s w h =
      let e : Tree Place = term ae se in
      let x : Tree Place = term ax sx in
      let whole : Tree Place = term a (put e at x) in
      let m = marks_next ns in
      let t = plain functions p e in
      let u = held (field_in at.name t) in
      let ee = E (first m g) p None (behind ns) (suc n) e in
      let ex = E (second m g) p (Some u) (drop (size e) (behind ns)) (suc n + size e) x in
      let sp = split_is functions vars ns nodes.Put g h.0 h.1.0 in
      let h1 = hold_right ee _ h.1.1 in
      let y = and_both (is_there (field_in at.name t)) _ h1.0 in
      let z = and_both (not (is_read_only t)) _ y.1 in
      let de = fe (first m g) p None (behind ns) (suc n) s.0 (within_first vars m g p sp.splits w) (hold_left ee _ h.1.1) in
      let dx = fx (second m g) p (Some u) (drop (size e) (behind ns)) (suc n + size e) s.1 (within_second vars m g p sp.splits w) (hold_left ex _ h1.1) in
      record {
        tree = two nodes.Put m de.tree dx.tree;
        reads = two_reads de.reads dx.reads;
        heads = heads_two nodes.Put ns (size e) (size x) de.tree dx.tree sp.is sp.one de.heads dx.heads;
        derives = record {
          tree = refl;
          splits = sp.splits;
          whole = de.derives;
          there = y.0;
          written = not_is (is_read_only t) z.0;
          over = z.1;
          value = dx.derives;
          is = met_is functions p dir whole (with_part at.name false t) refl (hold_right ex _ h1.1).0;
          meets = in_meets functions p dir whole;
        };
        limits = λ b. limits_append (faults.events functions vars p b None e) _ (de.limits b) (
          tt,
          (
            tt,
            (
              tt,
              limits_append
                  (faults.events functions vars p (after b e) (Some u) x) _ (dx.limits (after b e)) (meets_limits dir a (with_part at.name false t)),
            ),
          ),
        );
      }

  pub sound_let : (a v : Place) (e k : Tree Place) → Sound functions vars types_in e → Sound functions vars types_in k → SoundShape functions vars types_in a (lets v e k)
  sound_let a v (term ae se) (term ak sk) fe fk g p dir ns n s w h =
      let e : Tree Place = term ae se in
      let k : Tree Place = term ak sk in
      let whole : Tree Place = term a (lets v e k) in
      let m = marks_next ns in
      let t = plain functions p e in
      let ee = E (first m g) p None (behind ns) (suc n) e in
      let sp = split_is functions vars ns nodes.Let g h.0 h.1.0 in
      let de = fe (first m g) p None (behind ns) (suc n) s.0 (within_first vars m g p sp.splits w) (hold_left ee _ h.1.1) in
      let dk = fk (push (second m g) (Some t)) (push p t) dir (drop (size e) (behind ns)) (suc n + size e) (lawful_push p t k s.1)
      (within_push (second m g) p t (within_second vars m g p sp.splits w)) (hold_right ee _ h.1.1) in
      record {
        tree = two nodes.Let m de.tree dk.tree;
        reads = two_reads de.reads dk.reads;
        heads = heads_two nodes.Let ns (size e) (size k) de.tree dk.tree sp.is sp.one de.heads dk.heads;
        derives = record { tree = refl; splits = sp.splits; value = de.derives; body = dk.derives; is = body_in functions p (push p t) dir whole k refl };
        limits = λ b. limits_append (faults.events functions vars p b None e) _ (de.limits b) (limits_append (faults.events functions vars (push p t) (upto (length p) (after b e)) dir k) _
            (dk.limits (upto (length p) (after b e))) (scope_limits functions vars (length p) v t k));
      }

  pub sound_let_bang : (a : Place) (os : List Observer) (v : Place) (e k : Tree Place) → Sound functions vars types_in e → Sound functions vars types_in k
      → SoundShape functions vars types_in a (let_bang os v e k)
  sound_let_bang a os v (term ae se) (term ak sk) fe fk g p dir ns n s w h =
      let e : Tree Place = term ae se in
      let k : Tree Place = term ak sk in
      let whole : Tree Place = term a (let_bang os v e k) in
      let m = marks_next ns in
      let p1 = observed os p in
      let t = plain functions p1 e in
      let ee = E (first m g) p1 None (behind ns) (suc n) e in
      let sp = split_seen functions vars os ns nodes.LetBang g (subst (λ n. All (λ o. o.var < n) os) (sym w.long) s.0) h.0 h.1.0 in
      let ws = within_split vars os m g p sp.splits w in
      let h1 = hold_right ee _ h.1.1 in
      let de = fe (first m g) p1 None (behind ns) (suc n) (subst (λ n. Lawful functions vars types_in n e) (sym (length_banged (λ i. among i os) p)) s.1) ws.0 (hold_left ee _ h.1.1) in
      let dk = fk (push (second m g) (Some t)) (push p t) dir (drop (size e) (behind ns)) (suc n + size e) (lawful_push p t k s.2)
      (within_push (second m g) p t ws.1) h1.1 in
      record {
        tree = two nodes.LetBang m de.tree dk.tree;
        reads = two_reads de.reads dk.reads;
        heads = heads_two nodes.LetBang ns (size e) (size k) de.tree dk.tree sp.is sp.one de.heads dk.heads;
        derives = record { tree = refl; splits = sp.splits; value = de.derives; escapes = h1.0; body = dk.derives; is = body_in functions p (push p t) dir whole k refl };
        limits = λ b. limits_append (observer_events functions vars p b os) _ (observer_limits functions vars p b os) (limits_append (faults.events functions vars p1 b None e) _ (de.limits b) (
          tt,
          limits_append (faults.events functions vars (push p t) (upto (length p) (after_seen os b e)) dir k) _ (dk.limits (upto (length p) (after_seen os b e)))
              (scope_limits functions vars (length p) v t k),
        ));
      }

  pub sound_take : (a : Place) (e : Tree Place) (at : At) (v z : Place) (k : Tree Place) → Sound functions vars types_in e → Sound functions vars types_in k
      → SoundShape functions vars types_in a (take_field e at v z k)
  sound_take a (term ae se) at v z (term ak sk) fe fk g p dir ns n s w h =
      let e : Tree Place = term ae se in
      let k : Tree Place = term ak sk in
      let whole : Tree Place = term a (take_field e at v z k) in
      let m = marks_next ns in
      let t = with_part at.name true (plain functions p e) in
      let u = held (field_in at.name (plain functions p e)) in
      let ee = E (first m g) p None (behind ns) (suc n) e in
      let sp = split_is functions vars ns nodes.Take g h.0 h.1.0 in
      let h1 = hold_right ee _ h.1.1 in
      let y = and_both (is_left (field_in at.name (plain functions p e))) _ h1.0 in
      let de = fe (first m g) p None (behind ns) (suc n) s.0 (within_first vars m g p sp.splits w) (hold_left ee _ h.1.1) in
      let w1 = within_push (second m g) p t (within_second vars m g p sp.splits w) in
      let dk = fk (push (push (second m g) (Some t)) (Some u)) (push (push p t) u) dir (drop (size e) (behind ns)) (suc n + size e)
      (lawful_push (push p t) u k (subst (λ n. Lawful functions vars types_in (suc n) k) (sym (length_push p t)) s.1))
      (within_push (push (second m g) (Some t)) (push p t) u w1) h1.1 in
      record {
        tree = two nodes.Take m de.tree dk.tree;
        reads = two_reads de.reads dk.reads;
        heads = heads_two nodes.Take ns (size e) (size k) de.tree dk.tree sp.is sp.one de.heads dk.heads;
        derives = record {
          tree = refl;
          splits = sp.splits;
          whole = de.derives;
          left = y.0;
          written = not_is (is_read_only (plain functions p e)) y.1;
          body = dk.derives;
          is = body_in functions p (push (push p t) u) dir whole k refl;
        };
        limits = λ b. limits_append (faults.events functions vars p b None e) _ (de.limits b) (
          tt,
          (
            tt,
            (
              tt,
              limits_append
                  (faults.events functions vars (push (push p t) u) (upto (length p) (after b e)) dir k) _ (dk.limits (upto (length p) (after b e)))
                  (limits_append (scope_end functions vars (length p) v t k) _ (scope_limits functions vars (length p) v t k) (scope_limits functions vars (suc (length p)) z u k)),
            ),
          ),
        );
      }
