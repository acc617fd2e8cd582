-- Where no event fails, a derivation is spelled: branches.
use Rattle.std.proofs.Common.{ℕ, suc, ◌+◌, true, Option, Some, None, List, length, drop, refl, subst}
use Rattle.cg_base.specs.declared.kind.Kinds.{Kinds}
use Rattle.cg_base.specs.declared.place.Place.{Place}
use Rattle.cg_base.specs.Types as types
use Rattle.cg_base.specs.Types.{Tau}
use Rattle.cg_cert.specs.declared.cert.CertNode.{CertNode}
use Rattle.cg_core.specs.declared.at.At.{At}
use Rattle.cg_core.specs.declared.derivation.Node.TheVariants as nodes
use Rattle.cg_core.specs.Kernels.{Function}
use Rattle.cg_core.specs.Terms.{Tree, term, if_else, case_of}
use Rattle.cg_faults.specs.Events as faults
use Rattle.cg_faults.specs.Events.{after, upto, scope_end}
use Rattle.cg_faults.specs.Occurrences.{used}
use Rattle.cg_faults.specs.Plain.{plain}
use Rattle.cg_check_def.specs.NormalForm.{core}
use Rattle.cg_certcheck_def.specs.Events.{Event, events, size, behind, marks_next}
use Rattle.cg_typing.specs.Contexts.{Context, push, first, second}
use Rattle.cg_typing.specs.Parts.{alternative_in, held, with_part}
use Rattle.cg_typing.specs.Rules.{Derives, second_branch, note_at}
use Rattle.cg_typing.specs.Trees.{three}
use Rattle.cg_check_laws.proofs.Clean.{within_first, within_second, within_push}
use Rattle.cg_check_laws.proofs.SoundBranches.{branch_way, branch_type}
use Rattle.cg_check_laws.proofs.SoundLeaves.{body_in}
use Rattle.cg_certcheck_laws.proofs.ReadSteps.{three_reads}
use Rattle.cg_certcheck_laws.proofs.Limits.{limits_append, branch_limits, scope_limits}
use Rattle.cg_certcheck_laws.proofs.Nodes.{heads_three}
use Rattle.cg_certcheck_laws.proofs.Rows.{hold_left, hold_right, split_is}
use Rattle.cg_certcheck_laws.proofs.SoundBinders.{lawful_push}
use Rattle.cg_certcheck_laws.proofs.SoundLeaves.{Sound, SoundShape}

module _ (functions : List Function) (vars : List Kinds) (types_in : ℕ) where
  abbrev E : Context → List Tau → Option Tau → List CertNode → ℕ → Tree Place → List Event
  E = events functions vars

  pub sound_if : (a : Place) (c x y : Tree Place) → Sound functions vars types_in c → Sound functions vars types_in x → Sound functions vars types_in y
      → SoundShape functions vars types_in a (if_else c x y)
  sound_if a (term ac sc) (term ax sx) (term ay sy) fc fx fy g p dir ns n s w h =
      let c : Tree Place = term ac sc in
      let x : Tree Place = term ax sx in
      let y : Tree Place = term ay sy in
      let whole : Tree Place = term a (if_else c x y) in
      let m = marks_next ns in
      let way = second_branch dir (plain functions p x) in
      let ec = E (first m g) p (Some types.bool) (behind ns) (suc n) c in
      let ex = E (second m g) p dir (drop (size c) (behind ns)) (suc n + size c) x in
      let sp = split_is functions vars ns nodes.If g h.0 h.1.0 in
      let h1 = hold_right ec _ h.1.1 in
      let w2 = within_second vars m g p sp.splits w in
      let dc = fc (first m g) p (Some types.bool) (behind ns) (suc n) s.0 (within_first vars m g p sp.splits w) (hold_left ec _ h.1.1) in
      let dx = fx (second m g) p dir (drop (size c) (behind ns)) (suc n + size c) s.1 w2 (hold_left ex _ h1) in
      let dy = fy (second m g) p way (drop (size c + size x) (behind ns)) (suc n + (size c + size x)) s.2 w2 (hold_right ex _ h1) in
      record {
        tree = three nodes.If m dc.tree dx.tree dy.tree;
        reads = three_reads dc.reads dx.reads dy.reads;
        heads = heads_three nodes.If ns (size c) (size x) (size y) dc.tree dx.tree dy.tree sp.is sp.one dc.heads dx.heads dy.heads;
        derives = record {
          tree = refl;
          splits = sp.splits;
          condition = dc.derives;
          first = dx.derives;
          second = subst (λ z. Derives functions vars (second m g) dy.tree z (core functions p way y)) (branch_way functions p dir x) dy.derives;
          is = body_in functions p p dir whole x refl;
          alike = branch_type functions p p dir x y;
        };
        limits = λ b. limits_append (faults.events functions vars p b (Some types.bool) c) _ (dc.limits b) (limits_append (faults.events functions vars p (after b c) dir x) _ (dx.limits (after b c))
            (limits_append (faults.events functions vars p (after b c) way y) _ (dy.limits (after b c)) (branch_limits vars (λ i. used i x) (λ i. used i y) (note_at x) (note_at y) p)));
      }

  pub sound_case : (a : Place) (e : Tree Place) (at : At) (v : Place) (x y : Tree Place) → Sound functions vars types_in e → Sound functions vars types_in x → Sound functions vars types_in y
      → SoundShape functions vars types_in a (case_of e at v x y)
  sound_case a (term ae se) at v (term ax sx) (term ay sy) fe fx fy g p dir ns n s w h =
      let e : Tree Place = term ae se in
      let x : Tree Place = term ax sx in
      let y : Tree Place = term ay sy in
      let whole : Tree Place = term a (case_of e at v x y) in
      let m = marks_next ns in
      let t = held (alternative_in at.name (plain functions p e)) in
      let u = with_part at.name true (plain functions p e) in
      let px = push p t in
      let py = push p u in
      let way = second_branch dir (plain functions px x) in
      let ee = E (first m g) p None (behind ns) (suc n) e in
      let ex = E (push (second m g) (Some t)) px dir (drop (size e) (behind ns)) (suc n + size e) x in
      let sp = split_is functions vars ns nodes.Case g h.0 h.1.0 in
      let h1 = hold_right ee _ h.1.1 in
      let w2 = within_second vars m g p sp.splits w in
      let de = fe (first m g) p None (behind ns) (suc n) s.0 (within_first vars m g p sp.splits w) (hold_left ee _ h.1.1) in
      let dx = fx (push (second m g) (Some t)) px dir (drop (size e) (behind ns)) (suc n + size e) (lawful_push functions vars types_in p t x s.1) (within_push (second m g) p t w2) (hold_left ex _ h1.1) in
      let dy = fy (push (second m g) (Some u)) py way (drop (size e + size x) (behind ns)) (suc n + (size e + size x)) (lawful_push functions vars types_in p u y s.2) (within_push (second m g) p u w2)
      (hold_right ex _ h1.1) in
      record {
        tree = three nodes.Case m de.tree dx.tree dy.tree;
        reads = three_reads de.reads dx.reads dy.reads;
        heads = heads_three nodes.Case ns (size e) (size x) (size y) de.tree dx.tree dy.tree sp.is sp.one de.heads dx.heads dy.heads;
        derives = record {
          tree = refl;
          splits = sp.splits;
          subject = de.derives;
          left = h1.0;
          first = dx.derives;
          second = subst (λ z. Derives functions vars (push (second m g) (Some u)) dy.tree z (core functions py way y)) (branch_way functions px dir x) dy.derives;
          is = body_in functions p px dir whole x refl;
          alike = branch_type functions px py dir x y;
        };
        limits = λ b. limits_append (faults.events functions vars p b None e) _ (de.limits b) (
          tt,
          (
            tt,
            limits_append
                (faults.events functions vars px (upto (length p) (after b e)) dir x) _ (dx.limits (upto (length p) (after b e)))
                (limits_append (scope_end functions vars (length p) v t x) _ (scope_limits functions vars (length p) v t x)
                (limits_append (faults.events functions vars py (upto (length p) (after b e)) way y) _ (dy.limits (upto (length p) (after b e)))
                (limits_append (scope_end functions vars (length p) at.place u y) _ (scope_limits functions vars (length p) at.place u y)
                (branch_limits vars (λ i. used i x) (λ i. used i y) (note_at x) (note_at y) p)))),
          ),
        );
      }
