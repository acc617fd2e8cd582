-- Where no event fails, derivations of a record's fields are spelled, and so is one of the record that they make.
use Rattle.std.proofs.Common.{◌≡◌, ℕ, suc, ◌+◌, true, Option, Some, None, List, [], ◌∷◌, length, map, drop, refl, sym, ap, subst, ◌∙◌}
use Rattle.cg_base.specs.declared.kind.Kinds.{Kinds}
use Rattle.cg_base.specs.declared.kind.Sigil.TheVariants.{U}
use Rattle.cg_base.specs.declared.place.Place.{Place}
use Rattle.cg_base.specs.Types.{Tau, fields, Parts}
use Rattle.cg_cert.specs.declared.cert.CertNode.{CertNode}
use Rattle.cg_core.specs.declared.derivation.Mark.{Mark}
use Rattle.cg_core.specs.declared.derivation.Node.TheVariants as nodes
use Rattle.cg_core.specs.Derivations.{Derivations, derivation, part, done}
use Rattle.cg_core.specs.Kernels.{Function}
use Rattle.cg_core.specs.Terms.{Tree, term, struct, Named, end, field}
use Rattle.cg_faults.specs.Events as faults
use Rattle.cg_faults.specs.Events.{Before, LimitsHold, after, next_direction}
use Rattle.cg_core_def.specs.Lawful.{AreSome, field_names, AreLawfulFields}
use Rattle.cg_check_def.specs.NormalForm.{core, core_fields}
use Rattle.cg_certcheck_def.specs.Reads.{tree_at, trees_at}
use Rattle.cg_certcheck_def.specs.Events.{Event, AllHold, events, field_events, field_strings, size, field_sizes, strings_at}
use Rattle.cg_certcheck_def.specs.Events as certs
use Rattle.cg_certcheck_def.specs.Tests.{splits}
use Rattle.cg_typing.specs.Contexts.{Context, first, second}
use Rattle.cg_typing.specs.Rules.{Derives, DerivesFields}
use Rattle.cg_check_laws.proofs.Clean.{Within, within_first, within_second}
use Rattle.cg_check_laws.proofs.SoundFields.{ways, Follows, behind, made_plain, made_checked, next_along, ways_on}
use Rattle.cg_certcheck_laws.proofs.FieldWays.{follows_on}
use Rattle.cg_certcheck_laws.proofs.Limits.{limits_append}
use Rattle.cg_certcheck_laws.proofs.MarkTests.{splits_plain}
use Rattle.cg_certcheck_laws.proofs.Nodes.{HeadsIn, heads_part, heads_node}
use Rattle.cg_certcheck_laws.proofs.Rows.{hold_left, hold_right, reached_is}
use Rattle.cg_certcheck_laws.proofs.SoundLeaves.{Sound, SoundShape}
use Rattle.cg_base.proofs.Truths.{both as and_both}

module _ (functions : List Function) (vars : List Kinds) (types_in : ℕ) where
  abbrev E : Context → List Tau → Option Tau → List CertNode → ℕ → Tree Place → List Event
  E = events functions vars

  -- the nodes of fields, at the head of those that are left
  pub record SpelledFields (g : Context) (p : List Tau) (dir : Option Tau) (ps : Option Parts) (strings : List (List Mark)) (ns : List CertNode) (fs : Named Place) : Type 0 where
    pub trees : Derivations
    pub reads : trees ≡ trees_at ns fs
    pub heads : HeadsIn (field_sizes fs) trees ns
    pub derives : DerivesFields functions vars g strings trees dir (core_fields functions p (ways ps) fs)
    pub limits : (b : Before) → LimitsHold (faults.field_events functions vars p b (ways ps) fs)

  -- fields of which there is one at least
  abbrev pub SoundFields : Named Place → Type 0
  SoundFields fs = (g : Context) (p : List Tau) (dir : Option Tau) (ps : Option Parts) (strings : List (List Mark)) (ns : List CertNode) (n : ℕ)
      → AreLawfulFields (map (λ f. length f.vars) functions) types_in (length p) fs → Within g p → Follows dir ps fs → field_strings vars fs strings g ≡ true
      → AllHold (field_events functions vars g p (ways ps) strings ns n fs) → SpelledFields g p dir ps strings ns fs

  pub sound_last : (name : List ℕ) (e : Tree Place) → Sound functions vars types_in e → SoundFields (field name e end)
  sound_last name (term ae se) f g p dir ps [] ns n s w o m h =
      let e : Tree Place = term ae se in
      let way = next_direction (ways ps) in
      let d = f g p way ns n s.0 w h in
      record {
        trees = part d.tree done;
        reads = ap (λ z. part z done) d.reads;
        heads = heads_part (size e) 0 d.tree done ns d.heads refl;
        derives = record { ended = refl; parts = refl; value = subst (λ z. Derives functions vars g d.tree z (core functions p way e)) (sym (next_along functions p dir ps name e end o)) d.derives };
        limits = λ b. limits_append (faults.events functions vars p b way e) _ (d.limits b) tt;
      }
  sound_last name (term ae se) f g p dir ps (string ∷ strings) ns n s w o m h = absurd (cc)

  pub sound_earlier : (name : List ℕ) (e : Tree Place) (later : List ℕ) (x : Tree Place) (fs : Named Place) → Sound functions vars types_in e → SoundFields (field later x fs)
      → SoundFields (field name e (field later x fs))
  sound_earlier name e later x fs f ff g p dir ps [] ns n s w o m h = absurd (cc)
  sound_earlier name (term ae se) later x fs f ff g p dir ps (string ∷ strings) ns n s w o m h =
      let e : Tree Place = term ae se in
      let rest : Named Place = field later x fs in
      let way = next_direction (ways ps) in
      let ee = E (first string g) p way ns n e in
      let k = and_both (splits vars [] string g) (field_strings vars rest strings (second string g)) m in
      let sp = splits_plain vars string g k.0 in
      let d = f (first string g) p way ns n s.0 (within_first vars string g p sp w) (hold_left ee _ h) in
      let ds = ff (second string g) p dir (behind ps) strings (drop (size e) ns) (n + size e) s.1 (within_second vars string g p sp w) (follows_on dir ps name e rest o) k.1
      (subst (λ z. AllHold (field_events functions vars (second string g) p z strings (drop (size e) ns) (n + size e) rest)) (ways_on ps) (hold_right ee _ h)) in
      record {
        trees = part d.tree ds.trees;
        reads = ap (λ z. part z ds.trees) d.reads ∙ ap (λ z. part (tree_at ns e) z) ds.reads;
        heads = heads_part (size e) (field_sizes rest) d.tree ds.trees ns d.heads ds.heads;
        derives = record {
          marked = refl;
          parts = refl;
          splits = sp;
          value = subst (λ z. Derives functions vars (first string g) d.tree z (core functions p way e)) (sym (next_along functions p dir ps name e rest o)) d.derives;
          later = subst (λ z. DerivesFields functions vars (second string g) strings ds.trees dir (core_fields functions p z rest)) (sym (ways_on ps)) ds.derives;
        };
        limits = λ b. limits_append (faults.events functions vars p b way e) _ (d.limits b)
            (subst (λ z. LimitsHold (faults.field_events functions vars p (after b e) z rest)) (sym (ways_on ps)) (ds.limits (after b e)));
      }

  pub sound_struct : (a : Place) (fs : Named Place) → (AreSome (field_names fs) → SoundFields fs) → SoundShape functions vars types_in a (struct fs)
  sound_struct a fs f g p None ns n s w h =
      let r = reached_is ns nodes.Struct (field_strings vars fs (strings_at ns) g) h.0 h.1.0 in
      let d = f s.0 g p None None (strings_at ns) (certs.behind ns) (suc n) s.2 w tt r.marks h.1.1.1 in
      record {
        tree = derivation nodes.Struct (strings_at ns) d.trees;
        reads = ap (derivation nodes.Struct (strings_at ns)) d.reads;
        heads = heads_node (field_sizes fs) nodes.Struct (strings_at ns) d.trees ns r.is d.heads;
        derives = record { tree = refl; fields = d.derives; is = ap (λ ps. fields ps U) (sym (made_plain functions p fs)); meets = tt };
        limits = λ b. d.limits b;
      }
  sound_struct a fs f g p (Some (fields ps U)) ns n s w h =
      let r = reached_is ns nodes.Struct (field_strings vars fs (strings_at ns) g) h.0 h.1.0 in
      let d = f s.0 g p (Some (fields ps U)) (Some ps) (strings_at ns) (certs.behind ns) (suc n) s.2 w h.1.1.0 r.marks h.1.1.1 in
      record {
        tree = derivation nodes.Struct (strings_at ns) d.trees;
        reads = ap (derivation nodes.Struct (strings_at ns)) d.reads;
        heads = heads_node (field_sizes fs) nodes.Struct (strings_at ns) d.trees ns r.is d.heads;
        derives = record { tree = refl; fields = d.derives; is = ap (λ ps. fields ps U) (sym (made_checked functions p ps fs h.1.1.0)); meets = refl };
        limits = λ b. (tt, d.limits b);
      }
  sound_struct a fs f g p (Some _) ns n s w h = absurd (let z = h.1.1.0 in cc)
