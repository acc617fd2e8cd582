-- Where nodes spell derivations of a record's fields, no event of them fails, nor of the record that they make.
use Rattle.std.proofs.Common.{◌≡◌, ℕ, suc, ◌+◌, Bool, true, Option, Some, None, List, [], ◌++◌, drop, refl, sym, ap, ◌∙◌, subst}
use Rattle.cg_base.specs.declared.kind.Kinds.{Kinds}
use Rattle.cg_base.specs.declared.kind.Sigil.TheVariants.{U}
use Rattle.cg_base.specs.declared.place.Place.{Place}
use Rattle.cg_base.specs.Types.{Tau, fields, Parts}
use Rattle.cg_cert.specs.Certificates.{nodes_in}
use Rattle.cg_cert.specs.declared.cert.CertNode.{CertNode}
use Rattle.cg_core.specs.declared.derivation.Mark.{Mark}
use Rattle.cg_core.specs.declared.derivation.Node.TheVariants as nodes
use Rattle.cg_core.specs.Derivations.{Derivations}
use Rattle.cg_core.specs.Kernels.{Function}
use Rattle.cg_core.specs.Terms.{Tree, term, struct, Named, end, field}
use Rattle.cg_faults.specs.Events as faults
use Rattle.cg_faults.specs.Events.{Before, after, field_directions, next_direction}
use Rattle.cg_faults.specs.Plain.{are_fields}
use Rattle.cg_check_def.specs.NormalForm.{core, core_fields}
use Rattle.cg_certcheck_def.specs.Events.{Event, events, field_events, field_strings, size, field_sizes}
use Rattle.cg_certcheck_def.specs.Tests.{splits}
use Rattle.cg_typing.specs.Contexts.{Context, first, second}
use Rattle.cg_typing.specs.Rules.{Derives, DerivesFields, parts_made, record_made}
use Rattle.cg_typing.specs.Trees.{nth, later_parts, the_parts, strings_of, first_marks, later_marks}
use Rattle.cg_check_laws.proofs.Clean.{Within, within_first, within_second}
use Rattle.cg_check_laws.proofs.SoundFields.{ways, Follows, behind, next_along, ways_on}
use Rattle.cg_certcheck_laws.proofs.CompleteLeaves.{Complete, FineShape, CompleteShape}
use Rattle.cg_certcheck_laws.proofs.FieldWays.{follows_on, made_of}
use Rattle.cg_certcheck_laws.proofs.Limits.{LimitsFor, limits_left, limits_right}
use Rattle.cg_certcheck_laws.proofs.MarkTests.{is_splits}
use Rattle.cg_certcheck_laws.proofs.Nodes.{given_part, given_last, given_node, left_of_two}
use Rattle.cg_certcheck_laws.proofs.Rows.{HoldFor, hold_append}
use Rattle.cg_check_laws.proofs.SameTypes.{and_refl as both_and}

module _ (functions : List Function) (vars : List Kinds) (limited : Bool) where
  abbrev E : Context → List Tau → Option Tau → List CertNode → ℕ → Tree Place → List Event
  E = events functions vars

  -- no event of fields fails, over these mark strings, and behind their nodes these are left
  pub record FineFields (g : Context) (p : List Tau) (ps : Option Parts) (strings : List (List Mark)) (ns : List CertNode) (n : ℕ) (fs : Named Place) (rest : List CertNode) : Type 0 where
    pub strings_hold : field_strings vars fs strings g ≡ true
    pub holds : HoldFor limited (field_events functions vars g p (ways ps) strings ns n fs)
    pub left : drop (field_sizes fs) ns ≡ rest

  abbrev pub CompleteFields : Named Place → Type 0
  CompleteFields fs = (g : Context) (p : List Tau) (dir : Option Tau) (ps : Option Parts) (strings : List (List Mark)) (ns : List CertNode) (n : ℕ) (ds : Derivations) (rest : List CertNode) (b : Before)
      → Within g p → Follows dir ps fs → ns ≡ nodes_in ds ++ rest → DerivesFields functions vars g strings ds dir (core_fields functions p (ways ps) fs)
      → LimitsFor limited (faults.field_events functions vars p b (ways ps) fs) → FineFields g p ps strings ns n fs rest

  pub complete_last : (name : List ℕ) (e : Tree Place) → Complete functions vars limited e → CompleteFields (field name e end)
  complete_last name (term ae se) f g p dir ps strings ns n ds rest b w o q h l =
      let e : Tree Place = term ae se in
      let way = next_direction (ways ps) in
      let d0 = nth 0 ds in
      let he = subst (λ z. Derives functions vars g d0 z (core functions p way e)) (next_along functions p dir ps name e end o) h.value in
      let d = f g p way ns n d0 rest b w (given_last d0 ns rest (q ∙ ap (λ z. nodes_in z ++ rest) h.parts)) he (limits_left limited (faults.events functions vars p b way e) _ l) in
      record { strings_hold = ap (λ z. field_strings vars (field name e end) z g) h.ended; holds = d.holds; left = left_of_two (size e) 0 ns rest d.left }

  pub complete_earlier : (name : List ℕ) (e : Tree Place) (later : List ℕ) (x : Tree Place) (fs : Named Place) → Complete functions vars limited e → CompleteFields (field later x fs)
      → CompleteFields (field name e (field later x fs))
  complete_earlier name (term ae se) later x fs f ff g p dir ps strings ns n ds rest b w o q h l =
      let e : Tree Place = term ae se in
      let more : Named Place = field later x fs in
      let way = next_direction (ways ps) in
      let m = first_marks strings in
      let d0 = nth 0 ds in
      let dm = later_parts ds in
      let he = subst (λ z. Derives functions vars (first m g) d0 z (core functions p way e)) (next_along functions p dir ps name e more o) h.value in
      let d = f (first m g) p way ns n d0 (nodes_in dm ++ rest) b (within_first vars m g p h.splits w) (given_part d0 dm ns rest (q ∙ ap (λ z. nodes_in z ++ rest) h.parts)) he
      (limits_left limited (faults.events functions vars p b way e) _ l) in
      let hm = subst (λ z. DerivesFields functions vars (second m g) (later_marks strings) dm dir (core_fields functions p z more)) (ways_on ps) h.later in
      let lm = subst (λ z. LimitsFor limited (faults.field_events functions vars p (after b e) z more)) (ways_on ps) (limits_right limited (faults.events functions vars p b way e) _ l) in
      let r = ff (second m g) p dir (behind ps) (later_marks strings) (drop (size e) ns) (n + size e) dm rest (after b e) (within_second vars m g p h.splits w) (follows_on dir ps name e more o) d.left hm lm in
      record {
        strings_hold = ap (λ z. field_strings vars (field name e more) z g) h.marked ∙ both_and (splits vars [] m g) _ (is_splits vars [] m g h.splits) r.strings_hold;
        holds = hold_append limited (E (first m g) p way ns n e) _ d.holds
            (subst (λ z. HoldFor limited (field_events functions vars (second m g) p z (later_marks strings) (drop (size e) ns) (n + size e) more)) (sym (ways_on ps)) r.holds);
        left = left_of_two (size e) (field_sizes more) ns rest r.left;
      }

  pub complete_struct : (a : Place) (fs : Named Place) → CompleteFields fs → CompleteShape functions vars limited a (struct fs)
  complete_struct a fs f g p None ns n d rest b w q h l =
      let ds = the_parts d in
      let later = nodes_in ds ++ rest in
      let r = f g p None None (strings_of d) later (suc n) ds rest b w tt refl h.fields l in
      subst (FineShape functions vars limited g p None n (struct fs) rest) (sym (given_node d nodes.Struct (strings_of d) ds ns rest q h.tree))
      (record { holds = (refl, (r.strings_hold, (refl, r.holds))); left = r.left })
  complete_struct a fs f g p (Some u) ns n d rest b w q h l = go u h.is h.fields l
    where
      made : (ps : Parts) → fields ps U ≡ record_made (core_fields functions p (field_directions (Some (fields ps U))) fs) → are_fields ps fs ≡ true
      made ps e = let z : ps ≡ parts_made (core_fields functions p (field_directions (Some (fields ps U))) fs) = cc in subst (λ y. are_fields y fs ≡ true) (sym z) (made_of functions p _ fs)

      go : (u : Tau) → u ≡ record_made (core_fields functions p (field_directions (Some u)) fs)
          → DerivesFields functions vars g (strings_of d) (the_parts d) (Some u) (core_fields functions p (field_directions (Some u)) fs)
          → LimitsFor limited (faults.events_shape functions vars p b (Some u) a (struct fs)) → FineShape functions vars limited g p (Some u) n (struct fs) rest ns
      go (fields ps U) e hf l =
          let ds = the_parts d in
          let later = nodes_in ds ++ rest in
          let o = made ps e in
          let r = f g p (Some (fields ps U)) (Some ps) (strings_of d) later (suc n) ds rest b w o refl hf l.1 in
          subst (FineShape functions vars limited g p (Some (fields ps U)) n (struct fs) rest) (sym (given_node d nodes.Struct (strings_of d) ds ns rest q h.tree))
          (record { holds = (refl, (r.strings_hold, (o, r.holds))); left = r.left })
      go _ e hf l = absurd (cc)
