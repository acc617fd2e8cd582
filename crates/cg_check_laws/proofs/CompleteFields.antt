-- Where there is a derivation, no rule fails: records that are made.
use Rattle.std.proofs.Common.{◌≡◌, ℕ, ◌<◌, true, Option, Some, None, List, [], length, refl, sym, ap, ◌∙◌, subst}
use Rattle.cg_base.specs.declared.kind.Kinds.{Kinds}
use Rattle.cg_base.specs.declared.kind.Sigil.TheVariants.{U}
use Rattle.cg_base.specs.declared.place.Place.{Place}
use Rattle.cg_base.specs.Types.{Tau, fields}
use Rattle.cg_core.specs.declared.derivation.Mark.{Mark}
use Rattle.cg_core.specs.Derivations.{Derivations}
use Rattle.cg_core.specs.Kernels.{Function}
use Rattle.cg_core.specs.Terms.{Tree, term, struct, Named, end, field, Note, erased, erased_named}
use Rattle.cg_typing.specs.Contexts.{Context, first, second, drops}
use Rattle.cg_faults.specs.Events.{Before, after, next_direction, later_directions, part_directions, events, field_events, RulesHold}
use Rattle.cg_check_def.specs.NormalForm.{core, core_fields}
use Rattle.cg_faults.specs.Occurrences.{touched, touched_fields, used_fields, sightings, sightings_fields}
use Rattle.cg_typing.specs.Operators.{along}
use Rattle.cg_faults.specs.Plain.{plain_at, plain_parts, are_fields}
use Rattle.cg_typing.specs.Rules.{DerivesFields, type_at, parts_made}
use Rattle.cg_typing.specs.Trees.{nth, later_parts, first_marks, later_marks}
use Rattle.cg_check_laws.proofs.Basics.{hold_append}
use Rattle.cg_check_laws.proofs.Clean.{Within, within_first, within_second, CleanOf, clean_second}
use Rattle.cg_check_laws.proofs.CompleteParts.{Complete, Done, noted_is}
use Rattle.cg_check_laws.proofs.Held as entries
use Rattle.cg_check_laws.proofs.Occurs.{AllSeen, seen_append}
use Rattle.cg_check_laws.proofs.SoundFields.{made_plain}
use Rattle.cg_base.proofs.Sequences.{itself as names_same}
use Rattle.cg_base.proofs.Truths.{or_true as or_right, or_left}

-- the directions of fields that are derived along with a whole: none, or their own types
abbrev pub fields_along : Option Tau → Named Note → List (Option Tau)
fields_along None fs = []
fields_along (Some t) fs = part_directions (parts_made fs)

next_is : (dir : Option Tau) (name : List ℕ) (e : Tree Note) (fs : Named Note) → along dir (type_at e) ≡ next_direction (fields_along dir (field name e fs))
next_is None name e fs = refl
next_is (Some t) name e fs = refl

later_is : (dir : Option Tau) (name : List ℕ) (e : Tree Note) (fs : Named Note) → later_directions (fields_along dir (field name e fs)) ≡ fields_along dir fs
later_is None name e fs = refl
later_is (Some t) name e fs = refl

pub made_fields : (fs : Named Note) → are_fields (parts_made fs) (erased_named fs) ≡ true
unfolding erased
made_fields end = refl
made_fields (field name e fs) = rw (names_same name) (made_fields fs)

module _ (functions : List Function) (vars : List Kinds) where
  -- what the derivations of fields say
  pub record FieldsDone (p : List Tau) (b : Before) (ways : List (Option Tau)) (fs : Named Place) (c : Named Note) : Type 0 where
    pub core_is : c ≡ core_fields functions p ways fs
    pub ok : RulesHold (field_events functions vars p b ways fs)
    pub sighted : (i : ℕ) → i < length p → AllSeen (drops vars (plain_at p i)) (sightings_fields i fs)

  abbrev pub CompleteFields : Named Note → Type 0
  CompleteFields fs = (p : List Tau) (b : Before) (dir : Option Tau) (g : Context) (strings : List (List Mark)) (ds : Derivations) → Within g p
      → CleanOf vars p b (λ i. touched_fields i (erased_named fs)) → DerivesFields functions vars g strings ds dir fs → FieldsDone p b (fields_along dir fs) (erased_named fs) fs

  pub complete_last : (name : List ℕ) (e : Tree Note) → Complete functions vars e → CompleteFields (field name e end)
  unfolding erased
  complete_last name e ce p b dir g strings ds w c h =
      let ee = erased e in
      let de = subst (λ z. Done functions vars p b z ee e) (next_is dir name e end) (ce p b (along dir (type_at e)) g (nth 0 ds) w (λ i lt t. c i lt (or_left _ _ t)) h.value) in
      record {
        core_is = ap (λ x. field name x end) de.core_is;
        ok = hold_append _ _ de.ok tt;
        sighted = λ i lt. seen_append _ (sightings i ee) _ (de.sighted i lt) tt;
      }

  pub complete_earlier : (name : List ℕ) (e : Tree Note) (later : List ℕ) (x : Tree Note) (fs : Named Note) → Complete functions vars e → CompleteFields (field later x fs)
      → CompleteFields (field name e (field later x fs))
  unfolding erased
  complete_earlier name e later x fs ce cf p b dir g strings ds w c h =
      let rest : Named Note = field later x fs in
      let ee = erased e in let er = erased_named rest in let m = first_marks strings in
      let de = subst (λ z. Done functions vars p b z ee e) (next_is dir name e rest) (ce p b (along dir (type_at e)) (first m g) (nth 0 ds) (within_first vars m g p h.splits w) (λ i lt t. c i lt (or_left _ _ t)) h.value) in
      let cn = clean_second vars [] m g p b ee (λ i. touched_fields i er) (λ i. used_fields i er) h.splits w (λ i lt t. c i lt (or_right (touched i ee) _ t))
      (entries.held functions vars e _ _ _ h.value) (entries.held_fields functions vars rest _ _ _ _ h.later) in
      let dr = subst (λ z. FieldsDone p (after b ee) z er rest) (sym (later_is dir name e rest)) (cf p (after b ee) dir (second m g) (later_marks strings) (later_parts ds) (within_second vars m g p h.splits w) cn h.later) in
      let qe = de.core_is in let qr = dr.core_is in
      record {
        core_is = cc;
        ok = hold_append _ _ de.ok dr.ok;
        sighted = λ i lt. seen_append _ (sightings i ee) _ (de.sighted i lt) (dr.sighted i lt);
      }

  -- the record that the fields make in plain typing
  plain_made : (p : List Tau) (fs : Named Note) → fs ≡ core_fields functions p [] (erased_named fs) → parts_made fs ≡ plain_parts functions p (erased_named fs)
  plain_made p fs h = ap parts_made h ∙ made_plain functions p (erased_named fs)

  pub complete_struct : (a : Note) (fs : Named Note) → CompleteFields fs → Complete functions vars (term a (struct fs))
  unfolding erased
  complete_struct a fs cf p b None g d w c h =
      let ef = erased_named fs in
      let df = cf p b None g _ _ w c h.fields in
      let t : a.ty ≡ fields (plain_parts functions p ef) U = h.is ∙ ap (λ ps. fields ps U) (plain_made p fs df.core_is) in
      let ta = noted_is a _ t in let qf = df.core_is in
      record { core_is = cc; ok = hold_append _ _ df.ok (tt, tt); sighted = df.sighted }
  complete_struct a fs cf p b (Some u) g d w c h =
      let ef = erased_named fs in
      let t : u ≡ fields (parts_made fs) U = h.meets ∙ h.is in
      let df = cf p b (Some u) g _ _ w c h.fields in
      let ta = noted_is a u (sym h.meets) in let qf = df.core_is in
      record {
        core_is = subst (λ z. term a (struct fs) ≡ core functions p (Some z) (term a.place (struct ef))) (sym t) (let z = ta in let y = t in cc);
        ok = subst (λ z. RulesHold (events functions vars p b (Some z) (term a.place (struct ef)))) (sym t) (made_fields fs, hold_append _ _ df.ok (tt, tt));
        sighted = df.sighted;
      }
