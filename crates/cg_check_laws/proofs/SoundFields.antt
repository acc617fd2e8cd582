-- The row of records that are made, where no event fails.
use Rattle.std.proofs.Common.{◌≡◌, ℕ, ◌<◌, Bool, true, false, ◌||◌, not, Option, Some, None, List, [], length, map, refl, sym, ap, subst}
use Rattle.std.specs.Str.{bytes_eq}
use Rattle.cg_base.specs.declared.kind.Kinds.{Kinds}
use Rattle.cg_base.specs.declared.place.Place.{Place}
use Rattle.cg_base.specs.Types as types
use Rattle.cg_base.specs.Types.{Tau, Parts, part}
use Rattle.cg_core.specs.Kernels.{Function}
use Rattle.cg_core.specs.Terms.{Tree, term, Named, end, field}
use Rattle.cg_core_def.specs.Lawful.{AreLawfulFields}
use Rattle.cg_typing.specs.Contexts.{Context, look, first, second, drops}
use Rattle.cg_faults.specs.Events.{Event, Before, after, part_directions, next_direction, later_directions, events, field_events, RulesHold}
use Rattle.cg_check_def.specs.NormalForm.{core, core_fields, tree, marks_before_fields, field_trees, field_marks}
use Rattle.cg_faults.specs.Occurrences.{touched, touched_fields, sightings, sightings_fields}
use Rattle.cg_typing.specs.Operators.{along}
use Rattle.cg_faults.specs.Plain.{plain, plain_in, plain_at, plain_parts, are_fields}
use Rattle.cg_typing.specs.Rules.{Derives, DerivesFields, parts_made}
use Rattle.cg_check_laws.proofs.Basics.{hold_left, hold_right}
use Rattle.cg_check_laws.proofs.Clash.{clash_fields}
use Rattle.cg_check_laws.proofs.Occurs.{AllSeen, seen_left, seen_right}
use Rattle.cg_check_laws.proofs.Parted.{Entry, parted}
use Rattle.cg_check_laws.proofs.SoundLeaves.{Has, Sound}
use Rattle.cg_base.proofs.Sequences.{is_name as same_name}
use Rattle.cg_base.proofs.Truths.{both as and_both, or_true as or_right, not_true}

-- ---- directions of fields

-- the directions that fields have: none, or those of a record type's parts
abbrev pub ways : Option Parts → List (Option Tau)
ways None = []
ways (Some ps) = part_directions ps

-- fields stand against a record type's parts, or are synthesised, as the whole is
abbrev pub Follows : Option Tau → Option Parts → Named Place → Type 0
Follows None None fs = Unit {0}
Follows (Some t) (Some ps) fs = are_fields ps fs ≡ true
Follows _ _ fs = ⊥

abbrev pub behind : Option Parts → Option Parts
behind None = None
behind (Some types.end) = Some types.end
behind (Some (part n t taken ps)) = Some ps

-- the next field goes along with the whole, and so do those behind it
pub next_along : (functions : List Function) (p : List Tau) (dir : Option Tau) (ps : Option Parts) (name : List ℕ) (e : Tree Place) (fs : Named Place) → Follows dir ps (field name e fs)
    → along dir (plain_in functions p (next_direction (ways ps)) e) ≡ next_direction (ways ps)
next_along functions p None None name e fs h = refl
next_along functions p (Some t) (Some (part n u taken ps)) name e fs h = refl
next_along functions p (Some t) (Some types.end) name e fs h = absurd (cc)
next_along functions p None (Some ps) name e fs h = absurd h
next_along functions p (Some t) None name e fs h = absurd h

follows_on : (dir : Option Tau) (ps : Option Parts) (name : List ℕ) (e : Tree Place) (fs : Named Place) → Follows dir ps (field name e fs) → Follows dir (behind ps) fs
follows_on None None name e fs h = tt
follows_on (Some t) (Some (part n u taken ps)) name e fs h = (and_both (not taken) (are_fields ps fs) (and_both (bytes_eq n name) _ h).1).1
follows_on (Some t) (Some types.end) name e fs h = absurd (cc)
follows_on None (Some ps) name e fs h = absurd h
follows_on (Some t) None name e fs h = absurd h

pub ways_on : (ps : Option Parts) → later_directions (ways ps) ≡ ways (behind ps)
ways_on None = refl
ways_on (Some types.end) = refl
ways_on (Some (part n t taken ps)) = refl

-- the record that fields make
pub made_plain : (functions : List Function) (p : List Tau) (fs : Named Place) → parts_made (core_fields functions p [] fs) ≡ plain_parts functions p fs
made_plain functions p end = refl
made_plain functions p (field name (term a s) fs) = ap (λ ps. part name (plain functions p (term a s)) false ps) (made_plain functions p fs)

pub made_checked : (functions : List Function) (p : List Tau) (ps : Parts) (fs : Named Place) → are_fields ps fs ≡ true → parts_made (core_fields functions p (part_directions ps) fs) ≡ ps
made_checked functions p types.end end h = refl
made_checked functions p (part n t taken ps) (field name (term a s) fs) h =
    let x = and_both (bytes_eq n name) _ h in
    let y = and_both (not taken) (are_fields ps fs) x.1 in
    let q : n ≡ name = same_name n name x.0 in
    let r : taken ≡ false = not_true taken y.0 in
    let z = made_checked functions p ps fs y.1 in
    cc
made_checked functions p types.end (field name e fs) h = absurd (cc)
made_checked functions p (part n t taken ps) end h = absurd (cc)

module _ (functions : List Function) (vars : List Kinds) (types_in : ℕ) where
  abbrev E : List Tau → Before → Option Tau → Tree Place → List Event
  E = events functions vars

  abbrev SightedFields : List Tau → Named Place → Type 0
  SightedFields p fs = (i : ℕ) → i < length p → AllSeen (drops vars (plain_at p i)) (sightings_fields i fs)

  -- fields of which there is one at least
  abbrev pub SoundFields : Named Place → Type 0
  SoundFields fs = (p : List Tau) (b : Before) (dir : Option Tau) (ps : Option Parts) (g : Context)
      → AreLawfulFields (map (λ f. length f.vars) functions) types_in (length p) fs → length g ≡ length p
      → Has functions vars types_in (λ i. touched_fields i fs) g p → Follows dir ps fs → RulesHold (field_events functions vars p b (ways ps) fs) → SightedFields p fs
      → DerivesFields functions vars g (field_marks functions g fs) (field_trees functions g p fs) dir (core_fields functions p (ways ps) fs)

  or_none : (x : Bool) → (x || false) ≡ x
  or_none true = refl
  or_none false = refl

  pub sound_last : (name : List ℕ) (e : Tree Place) → Sound functions vars types_in e → SoundFields (field name e end)
  sound_last name (term ae se) f p b dir ps g s l en w h q =
      let e : Tree Place = term ae se in
      let way = next_direction (ways ps) in
      record {
        ended = refl;
        parts = refl;
        value = subst (λ d. Derives functions vars g (tree functions g p e) d (core functions p way e)) (sym (next_along functions p dir ps name e end w))
            (f p b way g s.0 l (λ i lt. subst (λ z. Entry vars z (look g i) (plain_at p i)) (or_none (touched i e)) (en i lt)) (hold_left _ _ h) (λ i lt. seen_left _ _ [] (q i lt)));
      }

  pub sound_earlier : (name : List ℕ) (e : Tree Place) (later : List ℕ) (x : Tree Place) (fs : Named Place) → Sound functions vars types_in e → SoundFields (field later x fs)
      → SoundFields (field name e (field later x fs))
  sound_earlier name (term ae se) later x fs f ff p b dir ps g s l en w h q =
      let e : Tree Place = term ae se in
      let rest : Named Place = field later x fs in
      let way = next_direction (ways ps) in
      let h1 = hold_right (E p b way e) _ h in
      let m = marks_before_fields e rest g in
      let pt = parted vars g p (λ i. touched i e) (λ i. touched_fields i rest) l
      (λ i lt u v. clash_fields functions vars types_in rest p (after b e) (later_directions (ways ps)) (length p) s.1 h1 i lt v (or_right (b i) _ u)) en in
      record {
        marked = refl;
        parts = refl;
        splits = pt.splits;
        value = subst (λ d. Derives functions vars (first m g) (tree functions (first m g) p e) d (core functions p way e)) (sym (next_along functions p dir ps name e rest w))
            (f p b way (first m g) s.0 pt.long1 pt.at1 (hold_left _ _ h) (λ i lt. seen_left _ _ _ (q i lt)));
        later = subst (λ d. DerivesFields functions vars (second m g) (field_marks functions (second m g) rest) (field_trees functions (second m g) p rest) dir (core_fields functions p d rest)) (sym (ways_on ps))
            (ff p (after b e) dir (behind ps) (second m g) s.1 pt.long2 pt.at2 (follows_on dir ps name e rest w)
            (subst (λ d. RulesHold (field_events functions vars p (after b e) d rest)) (ways_on ps) h1) (λ i lt. seen_right _ (sightings i e) _ (q i lt)));
      }
