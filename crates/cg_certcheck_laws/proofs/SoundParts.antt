-- Where no event fails, a derivation is spelled: operators, and nodes with one part.
use Rattle.std.proofs.Common.{◌≡◌, ℕ, suc, ◌+◌, true, ◌&&◌, not, Option, Some, None, List, drop, refl, sym, ap, ◌∙◌, subst}
use Rattle.cg_base.specs.declared.kind.Kinds.{Kinds}
use Rattle.cg_base.specs.declared.place.Place.{Place}
use Rattle.cg_base.specs.Types.{Tau}
use Rattle.cg_cert.specs.declared.cert.CertNode.{CertNode}
use Rattle.cg_core.specs.declared.at.At.{At}
use Rattle.cg_core.specs.declared.derivation.Node.{Node}
use Rattle.cg_core.specs.declared.derivation.Node.TheVariants as nodes
use Rattle.cg_core.specs.declared.op.Op.{Op}
use Rattle.cg_core.specs.Derivations.{Derivation, part, done}
use Rattle.cg_core.specs.Kernels.{Function}
use Rattle.cg_core.specs.Terms.{Tree, term, op, con, esac, member, cast, annot, none, more, Arg}
use Rattle.cg_faults.specs.Events as faults
use Rattle.cg_faults.specs.Events.{after}
use Rattle.cg_faults.specs.Plain.{plain, plain_in}
use Rattle.cg_check_def.specs.NormalForm.{core, operand_type}
use Rattle.cg_certcheck_def.specs.Events.{Event, events, size, is_some, name_at, no_strings, behind, marks_next, guided_reached, guided_number, value_of}
use Rattle.cg_certcheck_def.specs.Tests.{same_node}
use Rattle.cg_typing.specs.Contexts.{Context, first, second, shares}
use Rattle.cg_typing.specs.Operators.{sort_of, takes, gives, operand}
use Rattle.cg_typing.specs.Parts.{is_left, is_last, field_in, alternative_in, held}
use Rattle.cg_typing.specs.Rules.{Derives, is_literal}
use Rattle.cg_typing.specs.Trees.{one, two}
use Rattle.cg_check_laws.proofs.Clean.{within_first, within_second}
use Rattle.cg_check_laws.proofs.SoundLeaves.{in_meets}
use Rattle.cg_check_laws.proofs.SoundParts.{literal_core}
use Rattle.cg_certcheck_laws.proofs.ReadSteps.{one_reads, two_reads}
use Rattle.cg_certcheck_laws.proofs.Guided.{guided}
use Rattle.cg_certcheck_laws.proofs.Limits.{limits_append, meets_limits}
use Rattle.cg_certcheck_laws.proofs.Nodes.{Heads, heads_last, heads_part, heads_plain, heads_marked}
use Rattle.cg_certcheck_laws.proofs.OperandLimits.{one_limits, two_limits}
use Rattle.cg_certcheck_laws.proofs.Operands.{common, one_type, left_type, right_type, one_way, left_way, right_way, one_holds, two_hold}
use Rattle.cg_certcheck_laws.proofs.Rows.{hold_left, hold_right, reached_is, split_is, met_is}
use Rattle.cg_certcheck_laws.proofs.SoundLeaves.{Sound, SoundShape}
use Rattle.cg_base.proofs.Truths.{both as and_both}

-- the nodes of a derivation with one part
pub heads_one : (ns : List CertNode) (node : Node) (k : ℕ) (d : Derivation) → is_some ns ≡ true → (same_node (name_at ns) node && no_strings ns) ≡ true → Heads k d (behind ns)
    → Heads (suc k) (one node d) ns
heads_one ns node k d some named h = heads_plain k node (part d done) ns (reached_is ns node (no_strings ns) some named) (heads_last k d (behind ns) h)

module _ (functions : List Function) (vars : List Kinds) (types_in : ℕ) where
  abbrev E : Context → List Tau → Option Tau → List CertNode → ℕ → Tree Place → List Event
  E = events functions vars

  pub sound_unary : (a : Place) (o : Op) (x : Tree Place) → Sound functions vars types_in x → SoundShape functions vars types_in a (op o (more x none))
  sound_unary a o (term ax sx) fx g p dir ns n s w h =
      let x : Tree Place = term ax sx in
      let whole : Tree Place = term a (op o (more x none)) in
      let k = one_holds functions vars p n x whole (λ way. E g p way (behind ns) (suc n) x) (sort_of o) dir refl h.1.1 in
      let t = operand_type (sort_of o) dir (plain functions p x) in
      let way = operand (sort_of o) dir true t in
      let d = fx g p way (behind ns) (suc n) s.1.0 w k.holds in
      let is = one_type functions p x (sort_of o) dir in
      record {
        tree = one nodes.Op d.tree;
        reads = one_reads d.reads;
        heads = heads_plain _ nodes.Op (part d.tree done) ns (reached_is ns nodes.Op (no_strings ns) h.0 h.1.0) (heads_part (size x) 0 d.tree done (behind ns) d.heads refl);
        derives = record {
          tree = refl;
          counted = sym s.0;
          operand = subst (λ z. Derives functions vars g d.tree z (core functions p way x)) (sym (one_way functions p x (sort_of o) dir)) d.derives;
          takes = subst (λ u. takes (sort_of o) u ≡ true) (sym is) k.takes;
          is = k.result ∙ ap (gives (sort_of o)) (sym is);
          meets = in_meets functions p dir whole;
        };
        limits = λ b. one_limits a (plain functions p x) (λ way. faults.events functions vars p b way x) (sort_of o) dir (d.limits b);
      }

  pub sound_binary : (a : Place) (o : Op) (l r : Tree Place) → Sound functions vars types_in l → Sound functions vars types_in r → SoundShape functions vars types_in a (op o (more l (more r none)))
  sound_binary a o (term al sl) (term ar sr) fl fr g p dir ns n s w h =
      let l : Tree Place = term al sl in
      let r : Tree Place = term ar sr in
      let whole : Tree Place = term a (op o (more l (more r none))) in
      let m = marks_next ns in
      let q = is_literal l in
      let left : Option Tau → List Event = λ way. E (first m g) p way (behind ns) (suc n) l in
      let right : Option Tau → List Event = λ way. E (second m g) p way (drop (size l) (behind ns)) (suc n + size l) r in
      let reaches = guided_reached vars (suc n) (behind ns) (first m g) in
      let number = guided_number (suc n) (value_of l) in
      let k = two_hold functions vars p n l r whole left right reaches number (sort_of o) dir q (guided functions vars (first m g) p (behind ns) (suc n) l) refl h.1.1 in
      let sp = split_is functions vars ns nodes.Op g h.0 h.1.0 in
      let t = common functions p l r (sort_of o) dir q in
      let wl = operand (sort_of o) dir (not q) t in
      let wr = operand (sort_of o) dir q t in
      let dl = fl (first m g) p wl (behind ns) (suc n) s.1.0 (within_first vars m g p sp.splits w) k.left_holds in
      let dr = fr (second m g) p wr (drop (size l) (behind ns)) (suc n + size l) s.1.1.0 (within_second vars m g p sp.splits w) k.right_holds in
      let c = literal_core functions p wl l in
      let li = left_type functions p l r (sort_of o) dir q in
      let ri = right_type functions p l r (sort_of o) dir q in
      record {
        tree = two nodes.Op m dl.tree dr.tree;
        reads = two_reads dl.reads dr.reads;
        heads = heads_marked _ nodes.Op (part dl.tree (part dr.tree done)) ns sp.is sp.one
            (heads_part (size l) (size r + 0) dl.tree (part dr.tree done) (behind ns) dl.heads (heads_part (size r) 0 dr.tree done (drop (size l) (behind ns)) dr.heads refl));
        derives = record {
          tree = refl;
          counted = sym s.0;
          splits = sp.splits;
          left = subst (λ z. Derives functions vars (first m g) dl.tree (operand (sort_of o) dir (not z) (plain_in functions p wl l)) (core functions p wl l)) (sym c)
              (subst (λ z. Derives functions vars (first m g) dl.tree z (core functions p wl l)) (sym (left_way functions p l r (sort_of o) dir q)) dl.derives);
          right = subst (λ z. Derives functions vars (second m g) dr.tree (operand (sort_of o) dir z (plain_in functions p wr r)) (core functions p wr r)) (sym c)
              (subst (λ z. Derives functions vars (second m g) dr.tree z (core functions p wr r)) (sym (right_way functions p l r (sort_of o) dir q)) dr.derives);
          alike = li ∙ sym ri;
          takes = subst (λ u. takes (sort_of o) u ≡ true) (sym li) k.takes;
          is = k.result ∙ ap (gives (sort_of o)) (sym li);
          meets = in_meets functions p dir whole;
        };
        limits = λ b. two_limits a (plain functions p l) (plain functions p r) (λ way. faults.events functions vars p b way l) (λ way. faults.events functions vars p (after b l) way r) (sort_of o) dir q
            (record { left_within = dl.limits b; right_within = dr.limits (after b l) });
      }

  pub sound_con : (a : Place) (name : List ℕ) (e : Tree Place) → Sound functions vars types_in e → SoundShape functions vars types_in a (con name e)
  sound_con a name e f g p None ns n s w h = absurd (let z = h.1.1.0 in cc)
  sound_con a name e f g p (Some t) ns n s w h =
      let d = f g p (Some (held (alternative_in name t))) (behind ns) (suc n) s w h.1.1.1 in
      record {
        tree = one nodes.Con d.tree;
        reads = one_reads d.reads;
        heads = heads_one ns nodes.Con (size e) d.tree h.0 h.1.0 d.heads;
        derives = record { tree = refl; checked = refl; left = h.1.1.0; payload = d.derives };
        limits = λ b. (tt, (tt, d.limits b));
      }

  pub sound_esac : (a : Place) (at : At) (e : Tree Place) → Sound functions vars types_in e → SoundShape functions vars types_in a (esac at e)
  sound_esac a at (term ae se) f g p dir ns n s w h =
      let e : Tree Place = term ae se in
      let whole : Tree Place = term a (esac at e) in
      let t = plain functions p e in
      let ev = E g p None (behind ns) (suc n) e in
      let d = f g p None (behind ns) (suc n) s w (hold_left ev _ h.1.1) in
      let x = and_both (is_left (alternative_in at.name t)) _ (hold_right ev _ h.1.1).0 in
      let y = and_both (is_last at.name t) _ x.1 in
      record {
        tree = one nodes.Esac d.tree;
        reads = one_reads d.reads;
        heads = heads_one ns nodes.Esac (size e) d.tree h.0 h.1.0 d.heads;
        derives = record {
          tree = refl;
          subject = d.derives;
          left = x.0;
          last = y.0;
          is = met_is functions p dir whole (held (alternative_in at.name t)) refl y.1;
          meets = in_meets functions p dir whole;
        };
        limits = λ b. limits_append (faults.events functions vars p b None e) _ (d.limits b) (tt, (tt, (tt, meets_limits dir a (held (alternative_in at.name t)))));
      }

  pub sound_member : (a : Place) (e : Tree Place) (at : At) → Sound functions vars types_in e → SoundShape functions vars types_in a (member e at)
  sound_member a (term ae se) at f g p dir ns n s w h =
      let e : Tree Place = term ae se in
      let whole : Tree Place = term a (member e at) in
      let t = plain functions p e in
      let ev = E g p None (behind ns) (suc n) e in
      let d = f g p None (behind ns) (suc n) s w (hold_left ev _ h.1.1) in
      let x = and_both (is_left (field_in at.name t)) _ (hold_right ev _ h.1.1).0 in
      let y = and_both (shares vars t) _ x.1 in
      record {
        tree = one nodes.Member d.tree;
        reads = one_reads d.reads;
        heads = heads_one ns nodes.Member (size e) d.tree h.0 h.1.0 d.heads;
        derives = record {
          tree = refl;
          whole = d.derives;
          left = x.0;
          shared = y.0;
          is = met_is functions p dir whole (held (field_in at.name t)) refl y.1;
          meets = in_meets functions p dir whole;
        };
        limits = λ b. limits_append (faults.events functions vars p b None e) _ (d.limits b) (tt, (tt, (tt, meets_limits dir a (held (field_in at.name t)))));
      }

  pub sound_cast : (a : Place) (e : Tree Place) → Sound functions vars types_in e → SoundShape functions vars types_in a (cast e)
  sound_cast a (term ae se) f g p None ns n s w h = absurd (let z = h.1.1.0 in cc)
  sound_cast a (term ae se) f g p (Some t) ns n s w h =
      let e : Tree Place = term ae se in
      let ev = E g p None (behind ns) (suc n) e in
      let d = f g p None (behind ns) (suc n) s w (hold_left ev _ h.1.1.1) in
      record {
        tree = one nodes.Cast d.tree;
        reads = one_reads d.reads;
        heads = heads_one ns nodes.Cast (size e) d.tree h.0 h.1.0 d.heads;
        derives = record { tree = refl; checked = refl; operand = d.derives; widens = (hold_right ev _ h.1.1.1).0 };
        limits = λ b. limits_append (faults.events functions vars p b None e) _ (d.limits b) (tt, tt);
      }

  pub sound_annot : (a : Place) (e : Tree Place) (t : Arg) → Sound functions vars types_in e → SoundShape functions vars types_in a (annot e t)
  sound_annot a e t f g p dir ns n s w h =
      let whole : Tree Place = term a (annot e t) in
      let ev = E g p (Some t.ty) (behind ns) (suc n) e in
      let d = f g p (Some t.ty) (behind ns) (suc n) s.0 w (hold_left ev _ h.1.1.1) in
      record {
        tree = one nodes.Annot d.tree;
        reads = one_reads d.reads;
        heads = heads_one ns nodes.Annot (size e) d.tree h.0 h.1.0 d.heads;
        derives = record {
          tree = refl;
          arrays = h.1.1.0;
          value = d.derives;
          is = met_is functions p dir whole t.ty refl (hold_right ev _ h.1.1.1).0;
          meets = in_meets functions p dir whole;
        };
        limits = λ b. (tt, limits_append (faults.events functions vars p b (Some t.ty) e) _ (d.limits b) (meets_limits dir a t.ty));
      }
