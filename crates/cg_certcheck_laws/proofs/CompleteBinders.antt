-- Where nodes spell a derivation, no event fails: calls, puts and binders.
use Rattle.std.proofs.Common.{◌≡◌, ℕ, suc, ◌+◌, Bool, true, false, not, Option, Some, None, List, [], ◌∷◌, ◌++◌, length, drop, refl, sym, ap, subst}
use Rattle.cg_base.specs.declared.kind.Kinds.{Kinds}
use Rattle.cg_base.specs.declared.place.Place.{Place}
use Rattle.cg_base.specs.Types.{Tau, arrow}
use Rattle.cg_cert.specs.Certificates.{nodes_in}
use Rattle.cg_cert.specs.declared.cert.CertNode.{CertNode}
use Rattle.cg_core.specs.declared.at.At.{At}
use Rattle.cg_core.specs.declared.derivation.Node.TheVariants as nodes
use Rattle.cg_core.specs.declared.term.Seen.{Seen as Observer}
use Rattle.cg_core.specs.Derivations.{part, done}
use Rattle.cg_core.specs.Kernels.{Function}
use Rattle.cg_core.specs.Terms.{Tree, term, app, lets, let_bang, take_field, put}
use Rattle.cg_faults.specs.Events as faults
use Rattle.cg_faults.specs.Events.{after, after_seen, upto, observer_events}
use Rattle.cg_faults.specs.Plain.{plain, plain_in, observed}
use Rattle.cg_certcheck_def.specs.Events.{Event, events, size}
use Rattle.cg_typing.specs.Contexts.{Context, push, first, second}
use Rattle.cg_typing.specs.Parts.{is_arrow, taken_by, given_by, is_there, is_left, is_read_only, may_be_put_over, field_in, held, with_part}
use Rattle.cg_typing.specs.Trees.{sub, marks_of}
use Rattle.cg_check_laws.proofs.Clean.{within_first, within_second, within_split, within_push}
use Rattle.cg_certcheck_laws.proofs.CompleteLeaves.{Complete, FineShape, CompleteShape}
use Rattle.cg_certcheck_laws.proofs.Limits.{limits_left, limits_right}
use Rattle.cg_certcheck_laws.proofs.MarkTests.{three_and, is_splits}
use Rattle.cg_certcheck_laws.proofs.Nodes.{given_part, given_last, given_node, left_of_two}
use Rattle.cg_certcheck_laws.proofs.Rows.{hold_append, is_met}
use Rattle.cg_check_laws.proofs.SameTypes.{and_refl as both_and}
use Rattle.cg_check_laws.proofs.CompleteBinders.{false_not as is_not}

-- a type that is an arrow
arrow_holds : (t a b : Tau) → t ≡ arrow a b → is_arrow t ≡ true
arrow_holds t a b h = ap is_arrow h

gives : (t a b : Tau) → t ≡ arrow a b → b ≡ given_by t
gives t a b h = sym (ap given_by h)

module _ (functions : List Function) (vars : List Kinds) (limited : Bool) where
  abbrev E : Context → List Tau → Option Tau → List CertNode → ℕ → Tree Place → List Event
  E = events functions vars

  pub complete_app : (a : Place) (f x : Tree Place) → Complete functions vars limited f → Complete functions vars limited x → CompleteShape functions vars limited a (app f x)
  complete_app a (term af sf) (term ax sx) cf cx g p dir ns n d rest b w q h l =
      let f : Tree Place = term af sf in
      let x : Tree Place = term ax sx in
      let whole : Tree Place = term a (app f x) in
      let m = marks_of d in
      let d0 = sub d 0 in
      let d1 = sub d 1 in
      let later = nodes_in (part d0 (part d1 done)) ++ rest in
      let t = plain functions p f in
      let l1 = limits_right limited (faults.events functions vars p b None f) _ l in
      let df = cf (first m g) p None later (suc n) d0 (nodes_in (part d1 done) ++ rest) b (within_first vars m g p h.splits w) (given_part d0 (part d1 done) later rest refl) h.function
      (limits_left limited (faults.events functions vars p b None f) _ l) in
      let dx = cx (second m g) p (Some (taken_by t)) (drop (size f) later) (suc n + size f) d1 rest (after b f) (within_second vars m g p h.splits w)
      (given_last d1 (drop (size f) later) rest df.left) h.argument (limits_left limited (faults.events functions vars p (after b f) (Some (taken_by t)) x) _ l1.1) in
      subst (FineShape functions vars limited g p dir n (app f x) rest) (sym (given_node d nodes.App (m ∷ []) (part d0 (part d1 done)) ns rest q h.tree)) (record {
        holds = (
          refl,
          (
            is_splits vars [] m g h.splits,
            hold_append limited (E (first m g) p None later (suc n) f) _ df.holds (
              arrow_holds t (taken_by t) (plain_in functions p dir whole) h.is_arrow,
              hold_append limited (E (second m g) p (Some (taken_by t)) (drop (size f) later) (suc n + size f) x) _ dx.holds
                  (is_met functions p dir whole (given_by t) (gives t (taken_by t) (plain_in functions p dir whole) h.is_arrow), tt),
            ),
          ),
        );
        left = left_of_two (size f) (size x) later rest dx.left;
      })

  pub complete_put : (a : Place) (e : Tree Place) (at : At) (x : Tree Place) → Complete functions vars limited e → Complete functions vars limited x → CompleteShape functions vars limited a (put e at x)
  complete_put a (term ae se) at (term ax sx) ce cx g p dir ns n d rest b w q h l =
      let e : Tree Place = term ae se in
      let x : Tree Place = term ax sx in
      let whole : Tree Place = term a (put e at x) in
      let m = marks_of d in
      let d0 = sub d 0 in
      let d1 = sub d 1 in
      let later = nodes_in (part d0 (part d1 done)) ++ rest in
      let t = plain functions p e in
      let u = held (field_in at.name t) in
      let l1 = limits_right limited (faults.events functions vars p b None e) _ l in
      let de = ce (first m g) p None later (suc n) d0 (nodes_in (part d1 done) ++ rest) b (within_first vars m g p h.splits w) (given_part d0 (part d1 done) later rest refl) h.whole
      (limits_left limited (faults.events functions vars p b None e) _ l) in
      let dx = cx (second m g) p (Some u) (drop (size e) later) (suc n + size e) d1 rest (after b e) (within_second vars m g p h.splits w)
      (given_last d1 (drop (size e) later) rest de.left) h.value (limits_left limited (faults.events functions vars p (after b e) (Some u) x) _ l1.1.1.1) in
      subst (FineShape functions vars limited g p dir n (put e at x) rest) (sym (given_node d nodes.Put (m ∷ []) (part d0 (part d1 done)) ns rest q h.tree)) (record {
        holds = (
          refl,
          (
            is_splits vars [] m g h.splits,
            hold_append limited (E (first m g) p None later (suc n) e) _ de.holds (
              three_and (is_there (field_in at.name t)) (not (is_read_only t)) (may_be_put_over vars (field_in at.name t)) h.there (is_not (is_read_only t) h.written) h.over,
              hold_append limited (E (second m g) p (Some u) (drop (size e) later) (suc n + size e) x) _ dx.holds (is_met functions p dir whole (with_part at.name false t) h.is, tt),
            ),
          ),
        );
        left = left_of_two (size e) (size x) later rest dx.left;
      })

  pub complete_let : (a v : Place) (e k : Tree Place) → Complete functions vars limited e → Complete functions vars limited k → CompleteShape functions vars limited a (lets v e k)
  complete_let a v (term ae se) (term ak sk) ce ck g p dir ns n d rest b w q h l =
      let e : Tree Place = term ae se in
      let k : Tree Place = term ak sk in
      let m = marks_of d in
      let d0 = sub d 0 in
      let d1 = sub d 1 in
      let later = nodes_in (part d0 (part d1 done)) ++ rest in
      let t = plain functions p e in
      let l1 = limits_right limited (faults.events functions vars p b None e) _ l in
      let de = ce (first m g) p None later (suc n) d0 (nodes_in (part d1 done) ++ rest) b (within_first vars m g p h.splits w) (given_part d0 (part d1 done) later rest refl) h.value
      (limits_left limited (faults.events functions vars p b None e) _ l) in
      let dk = ck (push (second m g) (Some t)) (push p t) dir (drop (size e) later) (suc n + size e) d1 rest (upto (length p) (after b e))
      (within_push (second m g) p t (within_second vars m g p h.splits w)) (given_last d1 (drop (size e) later) rest de.left) h.body
      (limits_left limited (faults.events functions vars (push p t) (upto (length p) (after b e)) dir k) _ l1) in
      subst (FineShape functions vars limited g p dir n (lets v e k) rest) (sym (given_node d nodes.Let (m ∷ []) (part d0 (part d1 done)) ns rest q h.tree)) (record {
        holds = (refl, (is_splits vars [] m g h.splits, hold_append limited (E (first m g) p None later (suc n) e) _ de.holds dk.holds));
        left = left_of_two (size e) (size k) later rest dk.left;
      })

  pub complete_let_bang : (a : Place) (os : List Observer) (v : Place) (e k : Tree Place) → Complete functions vars limited e → Complete functions vars limited k
      → CompleteShape functions vars limited a (let_bang os v e k)
  complete_let_bang a os v (term ae se) (term ak sk) ce ck g p dir ns n d rest b w q h l =
      let e : Tree Place = term ae se in
      let k : Tree Place = term ak sk in
      let m = marks_of d in
      let d0 = sub d 0 in
      let d1 = sub d 1 in
      let later = nodes_in (part d0 (part d1 done)) ++ rest in
      let p1 = observed os p in
      let t = plain functions p1 e in
      let ws = within_split vars os m g p h.splits w in
      let l0 = limits_right limited (observer_events functions vars p b os) _ l in
      let l1 = limits_right limited (faults.events functions vars p1 b None e) _ l0 in
      let de = ce (first m g) p1 None later (suc n) d0 (nodes_in (part d1 done) ++ rest) b ws.0 (given_part d0 (part d1 done) later rest refl) h.value
      (limits_left limited (faults.events functions vars p1 b None e) _ l0) in
      let dk = ck (push (second m g) (Some t)) (push p t) dir (drop (size e) later) (suc n + size e) d1 rest (upto (length p) (after_seen os b e))
      (within_push (second m g) p t ws.1) (given_last d1 (drop (size e) later) rest de.left) h.body
      (limits_left limited (faults.events functions vars (push p t) (upto (length p) (after_seen os b e)) dir k) _ l1.1) in
      subst (FineShape functions vars limited g p dir n (let_bang os v e k) rest) (sym (given_node d nodes.LetBang (m ∷ []) (part d0 (part d1 done)) ns rest q h.tree)) (record {
        holds = (refl, (is_splits vars os m g h.splits, hold_append limited (E (first m g) p1 None later (suc n) e) _ de.holds (h.escapes, dk.holds)));
        left = left_of_two (size e) (size k) later rest dk.left;
      })

  pub complete_take : (a : Place) (e : Tree Place) (at : At) (v z : Place) (k : Tree Place) → Complete functions vars limited e → Complete functions vars limited k
      → CompleteShape functions vars limited a (take_field e at v z k)
  complete_take a (term ae se) at v z (term ak sk) ce ck g p dir ns n d rest b w q h l =
      let e : Tree Place = term ae se in
      let k : Tree Place = term ak sk in
      let m = marks_of d in
      let d0 = sub d 0 in
      let d1 = sub d 1 in
      let later = nodes_in (part d0 (part d1 done)) ++ rest in
      let s = plain functions p e in
      let t = with_part at.name true s in
      let u = held (field_in at.name s) in
      let l1 = limits_right limited (faults.events functions vars p b None e) _ l in
      let de = ce (first m g) p None later (suc n) d0 (nodes_in (part d1 done) ++ rest) b (within_first vars m g p h.splits w) (given_part d0 (part d1 done) later rest refl) h.whole
      (limits_left limited (faults.events functions vars p b None e) _ l) in
      let w1 = within_push (second m g) p t (within_second vars m g p h.splits w) in
      let dk = ck (push (push (second m g) (Some t)) (Some u)) (push (push p t) u) dir (drop (size e) later) (suc n + size e) d1 rest (upto (length p) (after b e))
      (within_push (push (second m g) (Some t)) (push p t) u w1) (given_last d1 (drop (size e) later) rest de.left) h.body
      (limits_left limited (faults.events functions vars (push (push p t) u) (upto (length p) (after b e)) dir k) _ l1.1.1.1) in
      subst (FineShape functions vars limited g p dir n (take_field e at v z k) rest) (sym (given_node d nodes.Take (m ∷ []) (part d0 (part d1 done)) ns rest q h.tree)) (record {
        holds = (
          refl,
          (
            is_splits vars [] m g h.splits,
            hold_append limited (E (first m g) p None later (suc n) e) _ de.holds (both_and (is_left (field_in at.name s)) (not (is_read_only s)) h.left (is_not (is_read_only s) h.written), dk.holds),
          ),
        );
        left = left_of_two (size e) (size k) later rest dk.left;
      })
