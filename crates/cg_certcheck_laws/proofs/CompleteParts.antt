-- Where nodes spell a derivation, no event fails: operators, and nodes with one part.
use Rattle.std.proofs.Common.{◌≡◌, ℕ, suc, ◌+◌, Bool, true, not, Option, Some, None, List, [], ◌∷◌, ◌++◌, drop, refl, sym, subst}
use Rattle.cg_base.specs.declared.kind.Kinds.{Kinds}
use Rattle.cg_base.specs.declared.place.Place.{Place}
use Rattle.cg_base.specs.Types.{Tau}
use Rattle.cg_cert.specs.Certificates.{nodes_in}
use Rattle.cg_cert.specs.declared.cert.CertNode.{CertNode}
use Rattle.cg_core.specs.declared.at.At.{At}
use Rattle.cg_core.specs.declared.derivation.Node.TheVariants as nodes
use Rattle.cg_core.specs.declared.op.Op.{Op}
use Rattle.cg_core.specs.Derivations.{part, done}
use Rattle.cg_core.specs.Kernels.{Function}
use Rattle.cg_core.specs.Terms.{Tree, term, op, con, esac, member, cast, annot, none, more, Arg}
use Rattle.cg_faults.specs.Events as faults
use Rattle.cg_faults.specs.Events.{after}
use Rattle.cg_faults.specs.Plain.{plain, plain_in}
use Rattle.cg_check_def.specs.NormalForm.{core, operand_type}
use Rattle.cg_certcheck_def.specs.Events.{Event, events, size, guided_reached, guided_number, value_of, meets}
use Rattle.cg_typing.specs.Contexts.{Context, first, second, shares}
use Rattle.cg_typing.specs.Operators.{sort_of, takes, gives, operand}
use Rattle.cg_typing.specs.Parts.{is_left, is_last, field_in, alternative_in, held}
use Rattle.cg_typing.specs.Rules.{Derives, is_literal}
use Rattle.cg_typing.specs.Trees.{sub, marks_of}
use Rattle.cg_check_laws.proofs.Clean.{within_first, within_second}
use Rattle.cg_check_laws.proofs.SoundParts.{literal_core}
use Rattle.cg_certcheck_laws.proofs.CompleteLeaves.{Complete, FineShape, CompleteShape}
use Rattle.cg_certcheck_laws.proofs.Guided.{guided}
use Rattle.cg_certcheck_laws.proofs.Limits.{limits_left}
use Rattle.cg_certcheck_laws.proofs.MarkTests.{three_and, is_splits}
use Rattle.cg_certcheck_laws.proofs.Nodes.{given_part, given_last, given_node, left_of_two}
use Rattle.cg_certcheck_laws.proofs.OperandLimits.{limits_one, limits_two}
use Rattle.cg_certcheck_laws.proofs.Operands.{common, one_type, left_type, right_type, one_way, left_way, right_way, one_ok, two_ok}
use Rattle.cg_certcheck_laws.proofs.Rows.{hold_append, is_met}

module _ (functions : List Function) (vars : List Kinds) (limited : Bool) where
  abbrev E : Context → List Tau → Option Tau → List CertNode → ℕ → Tree Place → List Event
  E = events functions vars

  pub complete_unary : (a : Place) (o : Op) (x : Tree Place) → Complete functions vars limited x → CompleteShape functions vars limited a (op o (more x none))
  complete_unary a o (term ax sx) cx g p dir ns n d rest b w q h l =
      let x : Tree Place = term ax sx in
      let whole : Tree Place = term a (op o (more x none)) in
      let d0 = sub d 0 in
      let later = nodes_in (part d0 done) ++ rest in
      let t = operand_type (sort_of o) dir (plain functions p x) in
      let way = operand (sort_of o) dir true t in
      let is = one_type functions p x (sort_of o) dir in
      let hx = subst (λ z. Derives functions vars g d0 z (core functions p way x)) (one_way functions p x (sort_of o) dir) h.operand in
      let dx = cx g p way later (suc n) d0 rest b w (given_last d0 later rest refl) hx (limits_one a (plain functions p x) (λ way. faults.events functions vars p b way x) limited (sort_of o) dir l) in
      subst (FineShape functions vars limited g p dir n (op o (more x none)) rest) (sym (given_node d nodes.Op [] (part d0 done) ns rest q h.tree)) (record {
        holds = (
          refl,
          (
            refl,
            one_ok functions vars p n x whole (λ way. E g p way later (suc n) x) limited (sort_of o) dir
                (record { holds = dx.holds; takes = subst (λ u. takes (sort_of o) u ≡ true) is h.takes; result = subst (λ u. plain_in functions p dir whole ≡ gives (sort_of o) u) is h.is }),
          ),
        );
        left = left_of_two (size x) 0 later rest dx.left;
      })

  pub complete_binary : (a : Place) (o : Op) (l r : Tree Place) → Complete functions vars limited l → Complete functions vars limited r → CompleteShape functions vars limited a (op o (more l (more r none)))
  complete_binary a o (term al sl) (term ar sr) cl cr g p dir ns n d rest b w e h lim =
      let l : Tree Place = term al sl in
      let r : Tree Place = term ar sr in
      let whole : Tree Place = term a (op o (more l (more r none))) in
      let m = marks_of d in
      let d0 = sub d 0 in
      let d1 = sub d 1 in
      let later = nodes_in (part d0 (part d1 done)) ++ rest in
      let q = is_literal l in
      let t = common functions p l r (sort_of o) dir q in
      let wl = operand (sort_of o) dir (not q) t in
      let wr = operand (sort_of o) dir q t in
      let c = literal_core functions p wl l in
      let li = left_type functions p l r (sort_of o) dir q in
      let ri = right_type functions p l r (sort_of o) dir q in
      let hl = subst (λ z. Derives functions vars (first m g) d0 z (core functions p wl l)) (left_way functions p l r (sort_of o) dir q)
      (subst (λ z. Derives functions vars (first m g) d0 (operand (sort_of o) dir (not z) (plain_in functions p wl l)) (core functions p wl l)) c h.left) in
      let hr = subst (λ z. Derives functions vars (second m g) d1 z (core functions p wr r)) (right_way functions p l r (sort_of o) dir q)
      (subst (λ z. Derives functions vars (second m g) d1 (operand (sort_of o) dir z (plain_in functions p wr r)) (core functions p wr r)) c h.right) in
      let ls = limits_two a (plain functions p l) (plain functions p r) (λ way. faults.events functions vars p b way l) (λ way. faults.events functions vars p (after b l) way r) limited (sort_of o) dir q lim in
      let dl = cl (first m g) p wl later (suc n) d0 (nodes_in (part d1 done) ++ rest) b (within_first vars m g p h.splits w) (given_part d0 (part d1 done) later rest refl) hl ls.left_within in
      let dr = cr (second m g) p wr (drop (size l) later) (suc n + size l) d1 rest (after b l) (within_second vars m g p h.splits w) (given_last d1 (drop (size l) later) rest dl.left) hr ls.right_within in
      let left : Option Tau → List Event = λ way. E (first m g) p way later (suc n) l in
      let right : Option Tau → List Event = λ way. E (second m g) p way (drop (size l) later) (suc n + size l) r in
      subst (FineShape functions vars limited g p dir n (op o (more l (more r none))) rest) (sym (given_node d nodes.Op (m ∷ []) (part d0 (part d1 done)) ns rest e h.tree)) (record {
        holds = (
          refl,
          (
            is_splits vars [] m g h.splits,
            two_ok functions vars p n l r whole left right (guided_reached vars (suc n) later (first m g)) (guided_number (suc n) (value_of l)) limited (sort_of o) dir q
                (guided functions vars (first m g) p later (suc n) l)
                (record { left_holds = dl.holds; right_holds = dr.holds; takes = subst (λ u. takes (sort_of o) u ≡ true) li h.takes; result = subst (λ u. plain_in functions p dir whole ≡ gives (sort_of o) u) li h.is }),
          ),
        );
        left = left_of_two (size l) (size r + 0) later rest (left_of_two (size r) 0 (drop (size l) later) rest dr.left);
      })

  pub complete_con : (a : Place) (name : List ℕ) (e : Tree Place) → Complete functions vars limited e → CompleteShape functions vars limited a (con name e)
  complete_con a name e ce g p None ns n d rest b w q h l = absurd (let z = h.checked in cc)
  complete_con a name e ce g p (Some t) ns n d rest b w q h l =
      let d0 = sub d 0 in
      let later = nodes_in (part d0 done) ++ rest in
      let de = ce g p (Some (held (alternative_in name t))) later (suc n) d0 rest b w (given_last d0 later rest refl) h.payload l.1.1 in
      subst (FineShape functions vars limited g p (Some t) n (con name e) rest) (sym (given_node d nodes.Con [] (part d0 done) ns rest q h.tree))
      (record { holds = (refl, (refl, (h.left, de.holds))); left = de.left })

  pub complete_esac : (a : Place) (at : At) (e : Tree Place) → Complete functions vars limited e → CompleteShape functions vars limited a (esac at e)
  complete_esac a at (term ae se) ce g p dir ns n d rest b w q h l =
      let e : Tree Place = term ae se in
      let whole : Tree Place = term a (esac at e) in
      let d0 = sub d 0 in
      let later = nodes_in (part d0 done) ++ rest in
      let t = plain functions p e in
      let u = held (alternative_in at.name t) in
      let de = ce g p None later (suc n) d0 rest b w (given_last d0 later rest refl) h.subject (limits_left limited (faults.events functions vars p b None e) _ l) in
      subst (FineShape functions vars limited g p dir n (esac at e) rest) (sym (given_node d nodes.Esac [] (part d0 done) ns rest q h.tree)) (record {
        holds = (
          refl,
          (
            refl,
            hold_append limited (E g p None later (suc n) e) _ de.holds
                (three_and (is_left (alternative_in at.name t)) (is_last at.name t) (meets dir u) h.left h.last (is_met functions p dir whole u h.is), tt),
          ),
        );
        left = de.left;
      })

  pub complete_member : (a : Place) (e : Tree Place) (at : At) → Complete functions vars limited e → CompleteShape functions vars limited a (member e at)
  complete_member a (term ae se) at ce g p dir ns n d rest b w q h l =
      let e : Tree Place = term ae se in
      let whole : Tree Place = term a (member e at) in
      let d0 = sub d 0 in
      let later = nodes_in (part d0 done) ++ rest in
      let t = plain functions p e in
      let u = held (field_in at.name t) in
      let de = ce g p None later (suc n) d0 rest b w (given_last d0 later rest refl) h.whole (limits_left limited (faults.events functions vars p b None e) _ l) in
      subst (FineShape functions vars limited g p dir n (member e at) rest) (sym (given_node d nodes.Member [] (part d0 done) ns rest q h.tree)) (record {
        holds = (
          refl,
          (
            refl,
            hold_append limited (E g p None later (suc n) e) _ de.holds
                (three_and (is_left (field_in at.name t)) (shares vars t) (meets dir u) h.left h.shared (is_met functions p dir whole u h.is), tt),
          ),
        );
        left = de.left;
      })

  pub complete_cast : (a : Place) (e : Tree Place) → Complete functions vars limited e → CompleteShape functions vars limited a (cast e)
  complete_cast a e ce g p None ns n d rest b w q h l = absurd (let z = h.checked in cc)
  complete_cast a (term ae se) ce g p (Some t) ns n d rest b w q h l =
      let e : Tree Place = term ae se in
      let d0 = sub d 0 in
      let later = nodes_in (part d0 done) ++ rest in
      let de = ce g p None later (suc n) d0 rest b w (given_last d0 later rest refl) h.operand (limits_left limited (faults.events functions vars p b None e) _ l) in
      subst (FineShape functions vars limited g p (Some t) n (cast e) rest) (sym (given_node d nodes.Cast [] (part d0 done) ns rest q h.tree))
      (record { holds = (refl, (refl, (refl, hold_append limited (E g p None later (suc n) e) _ de.holds (h.widens, tt)))); left = de.left })

  pub complete_annot : (a : Place) (e : Tree Place) (t : Arg) → Complete functions vars limited e → CompleteShape functions vars limited a (annot e t)
  complete_annot a e t ce g p dir ns n d rest b w q h l =
      let whole : Tree Place = term a (annot e t) in
      let d0 = sub d 0 in
      let later = nodes_in (part d0 done) ++ rest in
      let de = ce g p (Some t.ty) later (suc n) d0 rest b w (given_last d0 later rest refl) h.value (limits_left limited (faults.events functions vars p b (Some t.ty) e) _ l.1) in
      subst (FineShape functions vars limited g p dir n (annot e t) rest) (sym (given_node d nodes.Annot [] (part d0 done) ns rest q h.tree)) (record {
        holds = (refl, (refl, (h.arrays, hold_append limited (E g p (Some t.ty) later (suc n) e) _ de.holds (is_met functions p dir whole t.ty h.is, tt))));
        left = de.left;
      })
