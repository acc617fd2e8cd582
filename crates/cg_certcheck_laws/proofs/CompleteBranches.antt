-- Where nodes spell a derivation, no event fails: branches.
use Rattle.std.proofs.Common.{ℕ, suc, ◌+◌, Bool, true, Option, Some, None, List, [], ◌∷◌, ◌++◌, length, drop, refl, sym, ◌∙◌, subst, drop-drop}
use Rattle.cg_base.specs.declared.kind.Kinds.{Kinds}
use Rattle.cg_base.specs.declared.place.Place.{Place}
use Rattle.cg_base.specs.Types as types
use Rattle.cg_base.specs.Types.{Tau}
use Rattle.cg_cert.specs.Certificates.{nodes_in}
use Rattle.cg_cert.specs.declared.cert.CertNode.{CertNode}
use Rattle.cg_core.specs.declared.at.At.{At}
use Rattle.cg_core.specs.declared.derivation.Node.TheVariants as nodes
use Rattle.cg_core.specs.Derivations.{part, done}
use Rattle.cg_core.specs.Kernels.{Function}
use Rattle.cg_core.specs.Terms.{Tree, term, if_else, case_of}
use Rattle.cg_faults.specs.Events as faults
use Rattle.cg_faults.specs.Events.{after, upto, scope_end}
use Rattle.cg_faults.specs.Plain.{plain}
use Rattle.cg_check_def.specs.NormalForm.{core}
use Rattle.cg_certcheck_def.specs.Events.{Event, events, size}
use Rattle.cg_typing.specs.Contexts.{Context, push, first, second}
use Rattle.cg_typing.specs.Parts.{alternative_in, held, with_part}
use Rattle.cg_typing.specs.Rules.{Derives, second_branch}
use Rattle.cg_typing.specs.Trees.{sub, marks_of}
use Rattle.cg_check_laws.proofs.Clean.{within_first, within_second, within_push}
use Rattle.cg_check_laws.proofs.SoundBranches.{branch_way}
use Rattle.cg_certcheck_laws.proofs.CompleteLeaves.{Complete, FineShape, CompleteShape}
use Rattle.cg_certcheck_laws.proofs.Limits.{limits_left, limits_right}
use Rattle.cg_certcheck_laws.proofs.MarkTests.{is_splits}
use Rattle.cg_certcheck_laws.proofs.Nodes.{given_part, given_last, given_node, left_of_three}
use Rattle.cg_certcheck_laws.proofs.Rows.{hold_append}

module _ (functions : List Function) (vars : List Kinds) (limited : Bool) where
  abbrev E : Context → List Tau → Option Tau → List CertNode → ℕ → Tree Place → List Event
  E = events functions vars

  pub complete_if : (a : Place) (c x y : Tree Place) → Complete functions vars limited c → Complete functions vars limited x → Complete functions vars limited y → CompleteShape functions vars limited a (if_else c x y)
  complete_if a (term ac sc) (term ax sx) (term ay sy) fc cx cy g p dir ns n d rest b w q h l =
      let c : Tree Place = term ac sc in
      let x : Tree Place = term ax sx in
      let y : Tree Place = term ay sy in
      let m = marks_of d in
      let d0 = sub d 0 in
      let d1 = sub d 1 in
      let d2 = sub d 2 in
      let later = nodes_in (part d0 (part d1 (part d2 done))) ++ rest in
      let way = second_branch dir (plain functions p x) in
      let w2 = within_second vars m g p h.splits w in
      let l1 = limits_right limited (faults.events functions vars p b (Some types.bool) c) _ l in
      let l2 = limits_right limited (faults.events functions vars p (after b c) dir x) _ l1 in
      let dc = fc (first m g) p (Some types.bool) later (suc n) d0 (nodes_in (part d1 (part d2 done)) ++ rest) b (within_first vars m g p h.splits w)
      (given_part d0 (part d1 (part d2 done)) later rest refl) h.condition (limits_left limited (faults.events functions vars p b (Some types.bool) c) _ l) in
      let dx = cx (second m g) p dir (drop (size c) later) (suc n + size c) d1 (nodes_in (part d2 done) ++ rest) (after b c) w2
      (given_part d1 (part d2 done) (drop (size c) later) rest dc.left) h.first (limits_left limited (faults.events functions vars p (after b c) dir x) _ l1) in
      let hy = subst (λ z. Derives functions vars (second m g) d2 z (core functions p way y)) (sym (branch_way functions p dir x)) h.second in
      let dy = cy (second m g) p way (drop (size c + size x) later) (suc n + (size c + size x)) d2 rest (after b c) w2
      (given_last d2 (drop (size c + size x) later) rest (sym (drop-drop (size x) (size c) later) ∙ dx.left)) hy (limits_left limited (faults.events functions vars p (after b c) way y) _ l2) in
      subst (FineShape functions vars limited g p dir n (if_else c x y) rest) (sym (given_node d nodes.If (m ∷ []) (part d0 (part d1 (part d2 done))) ns rest q h.tree)) (record {
        holds = (
          refl,
          (
            is_splits vars [] m g h.splits,
            hold_append limited (E (first m g) p (Some types.bool) later (suc n) c) _ dc.holds (hold_append limited (E (second m g) p dir (drop (size c) later) (suc n + size c) x) _ dx.holds dy.holds),
          ),
        );
        left = left_of_three (size c) (size x) (size y) later rest dy.left;
      })

  pub complete_case : (a : Place) (e : Tree Place) (at : At) (v : Place) (x y : Tree Place) → Complete functions vars limited e → Complete functions vars limited x → Complete functions vars limited y
      → CompleteShape functions vars limited a (case_of e at v x y)
  complete_case a (term ae se) at v (term ax sx) (term ay sy) ce cx cy g p dir ns n d rest b w q h l =
      let e : Tree Place = term ae se in
      let x : Tree Place = term ax sx in
      let y : Tree Place = term ay sy in
      let m = marks_of d in
      let d0 = sub d 0 in
      let d1 = sub d 1 in
      let d2 = sub d 2 in
      let later = nodes_in (part d0 (part d1 (part d2 done))) ++ rest in
      let t = held (alternative_in at.name (plain functions p e)) in
      let u = with_part at.name true (plain functions p e) in
      let px = push p t in
      let py = push p u in
      let way = second_branch dir (plain functions px x) in
      let w2 = within_second vars m g p h.splits w in
      let bb = upto (length p) (after b e) in
      let l1 = limits_right limited (faults.events functions vars p b None e) _ l in
      let l2 = limits_right limited (faults.events functions vars px bb dir x) _ l1.1.1 in
      let l3 = limits_right limited (scope_end functions vars (length p) v t x) _ l2 in
      let de = ce (first m g) p None later (suc n) d0 (nodes_in (part d1 (part d2 done)) ++ rest) b (within_first vars m g p h.splits w)
      (given_part d0 (part d1 (part d2 done)) later rest refl) h.subject (limits_left limited (faults.events functions vars p b None e) _ l) in
      let dx = cx (push (second m g) (Some t)) px dir (drop (size e) later) (suc n + size e) d1 (nodes_in (part d2 done) ++ rest) bb (within_push (second m g) p t w2)
      (given_part d1 (part d2 done) (drop (size e) later) rest de.left) h.first (limits_left limited (faults.events functions vars px bb dir x) _ l1.1.1) in
      let hy = subst (λ z. Derives functions vars (push (second m g) (Some u)) d2 z (core functions py way y)) (sym (branch_way functions px dir x)) h.second in
      let dy = cy (push (second m g) (Some u)) py way (drop (size e + size x) later) (suc n + (size e + size x)) d2 rest bb (within_push (second m g) p u w2)
      (given_last d2 (drop (size e + size x) later) rest (sym (drop-drop (size x) (size e) later) ∙ dx.left)) hy (limits_left limited (faults.events functions vars py bb way y) _ l3) in
      subst (FineShape functions vars limited g p dir n (case_of e at v x y) rest) (sym (given_node d nodes.Case (m ∷ []) (part d0 (part d1 (part d2 done))) ns rest q h.tree)) (record {
        holds = (
          refl,
          (
            is_splits vars [] m g h.splits,
            hold_append limited (E (first m g) p None later (suc n) e) _ de.holds
                (h.left, hold_append limited (E (push (second m g) (Some t)) px dir (drop (size e) later) (suc n + size e) x) _ dx.holds dy.holds),
          ),
        );
        left = left_of_three (size e) (size x) (size y) later rest dy.left;
      })
