-- Fields one by one, and put together from the last one on, are those of the pass.
use Rattle.std.proofs.Common.{◌≡◌, ◌<◌, ◌≤◌, ◌+◌, ℕ, zero, suc, Bool, true, false, ◌&&◌, Option, Ok, Err, List, [], ◌∷◌, ◌++◌, length, map, drop, get_or, refl, sym, ap, ◌∙◌, arith, subst}
use Rattle.std.proofs.lemmas.List.{append-nil, append_assoc, at_drop_all, at_drop_more, map-append}
use Rattle.cg_base.specs.declared.kind.Kinds.{Kinds}
use Rattle.cg_base.specs.declared.place.Place.{Place}
use Rattle.cg_base.specs.Types.{Tau}
use Rattle.cg_check.specs.declared.pass.NamedGot.{NamedGot}
use Rattle.cg_check.specs.Gathered.{Found, ahead, each, is_none, named_of, nameds_of, together}
use Rattle.cg_check_def.specs.Pass.{Out, Got, GotFields, bind, check, check_fields, in_front, is_end}
use Rattle.cg_check_context.specs.declared.stop.Stop.{Stop}
use Rattle.cg_check_context.specs.declared.stop.Stop.TheVariants.{Rule as Broken, Size, Memory as Wanting}
use Rattle.cg_check_context.specs.View.{Agrees}
use Rattle.cg_check_nodes.specs.Fields.{fields_of}
use Rattle.cg_check_nodes.specs.Gots.{got_of}
use Rattle.cg_check_pieces.proofs.TermSizes.{size, size_fields}
use Rattle.cg_check_uses.specs.Uses.{mark}
use Rattle.cg_core.specs.declared.term.FieldTerm.{FieldTerm}
use Rattle.cg_core.specs.declared.term.Form.{the_lemmas as term_lemmas}
use Rattle.cg_core.specs.Kernels.{Function, the_field, the_term}
use Rattle.cg_core.specs.Terms.{Named, end, field, to_named}
use Rattle.cg_faults.specs.Events.{later_directions, next_direction}

-- ---- put together

no_alone : (b : Bool) → (b && false) ≡ false
no_alone true = refl
no_alone false = refl

-- the last one goes in front of the later ones first
pub last_ahead : (us : List Found) (u : Found) (alone : Bool) (v : GotFields) → ahead (us ++ u ∷ []) alone v ≡ ahead us false (in_front u.0 u.1 alone v)
unfolding ahead
last_ahead [] u alone v = refl
last_ahead (x ∷ us) u alone v =
    ap (λ b. in_front x.0 x.1 b (ahead (us ++ u ∷ []) alone v)) (some_left us)
    ∙ ap (in_front x.0 x.1 false) (last_ahead us u alone v)
    ∙ ap (λ b. in_front x.0 x.1 b (ahead us false (in_front u.0 u.1 alone v))) (sym (no_alone (is_none us)))
  where
    some_left : (ys : List Found) → (is_none (ys ++ u ∷ []) && alone) ≡ false
    some_left [] = refl
    some_left (y ∷ ys) = refl

abbrev ok : GotFields → Out GotFields
ok v = Ok v

-- a turn that puts one in front
pub put_ahead : (old new : List NamedGot) (x : NamedGot) (alone : Bool) (v w : GotFields) → old ≡ new ++ x ∷ []
    → ok (in_front x.name.now (got_of x.got) alone v) ≡ ok w
    → ahead (map named_of new) false w ≡ ahead (map named_of old) alone v
put_ahead old new x alone v w e h =
    ap (ahead (map named_of new) false) (sym (same w h)) ∙ sym (last_ahead (map named_of new) (named_of x) alone v)
    ∙ ap (λ us. ahead us alone v) (sym (map-append named_of new (x ∷ []))) ∙ ap (λ l. ahead (map named_of l) alone v) (sym e)
  where
    same : (z : GotFields) → ok (in_front x.name.now (got_of x.got) alone v) ≡ ok z → in_front x.name.now (got_of x.got) alone v ≡ z
    same z h = cc

pub none_ahead : (old : List NamedGot) (alone : Bool) (v : GotFields) → length old ≡ 0 → ahead (map named_of old) alone v ≡ v
unfolding ahead
none_ahead [] alone v h = refl
none_ahead (x ∷ xs) alone v h = absurd (omega (arith, h))

-- ---- one by one

abbrev as_found : List Found → Out (List Found)
as_found us = Ok us

-- those that were found, in front of what later ones come to
abbrev pub found : List Found → Out (List Found) → Out (List Found)
found us answer = bind answer (λ vs. Ok (us ++ vs))

module _ (functions : List Function) (vars : List Kinds) (p : List Tau) where
  abbrev Each : List Bool → List (Option Tau) → Named Place → Out (List Found)
  Each before directions fs = each functions vars p before directions fs

  -- fields that are there are found
  as_none : (fs : Named Place) (before : List Bool) (directions : List (Option Tau)) (us : List Found) → Each before directions fs ≡ Ok us
      → (is_none us && true) ≡ is_end fs
  unfolding each
  as_none end before directions us e = ap (λ xs. is_none xs && true) (same us e)
    where
      same : (ys : List Found) → Each before directions end ≡ Ok ys → ys ≡ []
      same ys e = cc
  as_none (field name e fs) before directions us h = by (check functions vars p before (next_direction directions) e) h
    where
      by_rest : (u : Got) (rest : Out (List Found)) → bind rest (λ vs. Ok ((name, u) ∷ vs)) ≡ Ok us → (is_none us && true) ≡ false
      by_rest u (Ok vs) e = ap (λ xs. is_none xs && true) (same us e)
        where
          same : (ys : List Found) → as_found ((name, u) ∷ vs) ≡ as_found ys → ys ≡ (name, u) ∷ vs
          same ys e = cc
      by_rest u (Err fault) e = absurd (cc)

      by : (first : Out Got) → bind first (λ u. bind (Each (mark before u.uses) (later_directions directions) fs) (λ us. Ok ((name, u) ∷ us))) ≡ Ok us
          → (is_none us && true) ≡ false
      by (Ok u) e = by_rest u (Each (mark before u.uses) (later_directions directions) fs) e
      by (Err fault) e = absurd (cc)

  -- the fields of the pass
  pub fields_are : (fs : Named Place) (before : List Bool) (directions : List (Option Tau))
      → check_fields functions vars p before directions fs ≡ bind (Each before directions fs) (λ us. Ok (together (length p) us))
  unfolding each ahead
  fields_are end before directions = refl
  fields_are (field name e fs) before directions = by (λ u. fields_are fs (mark before u.uses) (later_directions directions)) (check functions vars p before (next_direction directions) e)
    where
      by_rest : (u : Got) (rest : Out (List Found)) → ((us : List Found) → rest ≡ Ok us → (is_none us && true) ≡ is_end fs)
          → bind (bind rest (λ us. Ok (together (length p) us))) (λ v. Ok (in_front name u (is_end fs) v))
          ≡ bind (bind rest (λ us. Ok ((name, u) ∷ us))) (λ us. Ok (together (length p) us))
      by_rest u (Ok us) h = ap (λ b. Ok (in_front name u b (together (length p) us))) (sym (h us refl))
      by_rest u (Err fault) h = refl

      by : ((u : Got)
          → check_fields functions vars p (mark before u.uses) (later_directions directions) fs
          ≡ bind (Each (mark before u.uses) (later_directions directions) fs) (λ us. Ok (together (length p) us)))
          → (first : Out Got)
          → bind first (λ u. bind (check_fields functions vars p (mark before u.uses) (later_directions directions) fs) (λ v. Ok (in_front name u (is_end fs) v)))
          ≡ bind (bind first (λ u. bind (Each (mark before u.uses) (later_directions directions) fs) (λ us. Ok ((name, u) ∷ us)))) (λ us. Ok (together (length p) us))
      by inner (Ok u) =
          ap (λ r. bind r (λ v. Ok (in_front name u (is_end fs) v))) (inner u)
          ∙ by_rest u (Each (mark before u.uses) (later_directions directions) fs) (as_none fs (mark before u.uses) (later_directions directions))
      by inner (Err fault) = refl

  -- one more is found
  pub one_found : (us : List Found) (name : List ℕ) (e : _) (fs : Named Place) (before : List Bool) (directions : List (Option Tau)) (u : Got)
      → check functions vars p before (next_direction directions) e ≡ Ok u
      → found us (Each before directions (field name e fs)) ≡ found (us ++ (name, u) ∷ []) (Each (mark before u.uses) (later_directions directions) fs)
  unfolding each
  one_found us name e fs before directions u h =
      ap (λ r. found us (bind r (λ u. bind (Each (mark before u.uses) (later_directions directions) fs) (λ us. Ok ((name, u) ∷ us))))) h
      ∙ by (Each (mark before u.uses) (later_directions directions) fs)
    where
      by : (rest : Out (List Found)) → found us (bind rest (λ vs. Ok ((name, u) ∷ vs))) ≡ found (us ++ (name, u) ∷ []) rest
      by (Ok vs) = ap Ok (sym (append_assoc us ((name, u) ∷ []) vs))
      by (Err fault) = refl

-- nothing is found before
found_none : (answer : Out (List Found)) → found [] answer ≡ answer
found_none (Ok us) = refl
found_none (Err fault) = refl

-- where the first one stops, so do all
stops_at : (us : List Found) (s : Stop) (first : Out Got) (k : Got → Out (List Found)) → Agrees got_of (Err s) first
    → Agrees nameds_of (Err s) (found us (bind first k))
stops_at us (Broken r place) first k e = ap (λ o. found us (bind o k)) e
stops_at us (Size place) first k e = ap (λ o. found us (bind o k)) e
stops_at us Wanting first k e = tt

stops_whole : (n : ℕ) (s : Stop) (all : Out (List Found)) → Agrees nameds_of (Err s) all → Agrees fields_of (Err s) (bind all (λ us. Ok (together n us)))
stops_whole n (Broken r place) all e = ap (λ o. bind o (λ us. Ok (together n us))) e
stops_whole n (Size place) all e = ap (λ o. bind o (λ us. Ok (together n us))) e
stops_whole n Wanting all e = tt

-- the size of a field's term
pub size_at : (fs : List (FieldTerm Place)) (i : ℕ) (f : FieldTerm Place) → i < length fs → f ≡ get_or fs i f
    → size (the_term f.term) + 1 ≤ size_fields (to_named (map the_field fs))
unfolding size to_named
size_at [] i f h e = absurd (omega (arith, h))
size_at (g ∷ fs) zero f h e =
    let one : the_field g ≡ record { name = g.name; term = the_term g.term } = search term_lemmas in
    let same : size (the_term f.term) ≡ size (the_term g.term) = ap (λ x. size (the_term x.term)) e in
    let whole : size_fields (to_named (map the_field (g ∷ fs))) ≡ size (the_term g.term) + size_fields (to_named (map the_field fs)) + 1
    = ap (λ x. size_fields (field x.name x.term (to_named (map the_field fs)))) one in
    omega (arith, same, whole)
size_at (g ∷ fs) (suc i) f h e =
    let one : the_field g ≡ record { name = g.name; term = the_term g.term } = search term_lemmas in
    let whole : size_fields (to_named (map the_field (g ∷ fs))) ≡ size (the_term g.term) + size_fields (to_named (map the_field fs)) + 1
    = ap (λ x. size_fields (field x.name x.term (to_named (map the_field fs)))) one in
    let later : size (the_term f.term) + 1 ≤ size_fields (to_named (map the_field fs)) = size_at fs i f (omega (arith, h)) e in
    omega (arith, later, whole)

-- fields in their list, of which the first so many were looked at
module _ (functions : List Function) (vars : List Kinds) (p : List Tau) (fs : List (FieldTerm Place)) where
  abbrev pub Rest : List Bool → List (Option Tau) → ℕ → Out (List Found)
  Rest before directions i = each functions vars p before directions (to_named (map the_field (drop i fs)))

  -- the next one, and those behind it
  rest_is : (i : ℕ) (f : FieldTerm Place) (before : List Bool) (directions : List (Option Tau)) → i < length fs → f ≡ get_or fs i f
      → Rest before directions i ≡ each functions vars p before directions (field f.name (the_term f.term) (to_named (map the_field (drop (i + 1) fs))))
  unfolding to_named
  rest_is i f before directions h e =
      let one : the_field f ≡ record { name = f.name; term = the_term f.term } = search term_lemmas in
      at_drop_more (λ l. each functions vars p before directions (to_named (map the_field l))) fs i f h
      ∙ ap (λ g. each functions vars p before directions (to_named (map the_field (g ∷ drop (i + 1) fs)))) (sym e)
      ∙ ap (λ x. each functions vars p before directions (field x.name x.term (to_named (map the_field (drop (i + 1) fs))))) one

  -- where the walk begins
  pub none_found : (xs : List NamedGot) (flags before : List Bool) (directions : List (Option Tau)) → xs ≡ [] → flags ≡ before
      → each functions vars p before directions (to_named (map the_field fs)) ≡ found (nameds_of xs) (Rest flags directions 0)
  none_found xs flags before directions e f =
      sym (ap (λ l. found (nameds_of l) (Rest flags directions 0)) e ∙ ap (λ b. found [] (Rest b directions 0)) f ∙ found_none (Rest before directions 0))

  -- a field that stops it
  pub stop_found : (i : ℕ) (f : FieldTerm Place) (us : List Found) (before : List Bool) (directions : List (Option Tau)) (s : Stop) → i < length fs
      → f ≡ get_or fs i f
      → Agrees got_of (Err s) (check functions vars p before (next_direction directions) (the_term f.term))
      → Agrees nameds_of (Err s) (found us (Rest before directions i))
  unfolding each
  stop_found i f us before directions s h e a =
      subst (λ o. Agrees nameds_of (Err s) (found us o)) (sym (rest_is i f before directions h e)) (stops_at us s (check functions vars p before (next_direction directions) (the_term f.term)) _ a)

  -- one more field
  pub next_found : (i : ℕ) (f : FieldTerm Place) (xs ys : List NamedGot) (x : NamedGot) (before flags : List Bool) (directions later : List (Option Tau))
      → i < length fs → f ≡ get_or fs i f
      → ys ≡ xs ++ x ∷ [] → x.name.now ≡ f.name → check functions vars p before (next_direction directions) (the_term f.term) ≡ Ok (got_of x.got)
      → flags ≡ mark before (got_of x.got).uses
      → later ≡ later_directions directions → found (nameds_of xs) (Rest before directions i) ≡ found (nameds_of ys) (Rest flags later (i + 1))
  next_found i f xs ys x before flags directions later h e more name is flagged led =
      ap (found (nameds_of xs)) (rest_is i f before directions h e)
      ∙ one_found functions vars p (nameds_of xs) f.name (the_term f.term) (to_named (map the_field (drop (i + 1) fs))) before directions (got_of x.got) is
      ∙ ap (λ n. found (nameds_of xs ++ (n, got_of x.got) ∷ []) (Rest (mark before (got_of x.got).uses) (later_directions directions) (i + 1))) (sym name)
      ∙ ap (λ us. found us (Rest (mark before (got_of x.got).uses) (later_directions directions) (i + 1))) (sym (map-append named_of xs (x ∷ []))
      ∙ ap nameds_of (sym more))
      ∙ ap (λ b. found (nameds_of ys) (Rest b (later_directions directions) (i + 1))) (sym flagged)
      ∙ ap (λ ds. found (nameds_of ys) (Rest flags ds (i + 1))) (sym led)

  -- where the walk ends
  pub all_found : (i : ℕ) (us : List Found) (before : List Bool) (directions : List (Option Tau)) → length fs ≤ i → found us (Rest before directions i) ≡ Ok us
  unfolding each to_named
  all_found i us before directions h =
      ap (found us) (at_drop_all (λ l. each functions vars p before directions (to_named (map the_field l))) fs i h) ∙ ap Ok (append-nil us)

  -- a record's fields stop where one does
  pub fields_stop : (before : List Bool) (directions : List (Option Tau)) (s : Stop)
      → Agrees nameds_of (Err s) (each functions vars p before directions (to_named (map the_field fs)))
      → Agrees fields_of (Err s) (check_fields functions vars p before directions (to_named (map the_field fs)))
  fields_stop before directions s a =
      subst (Agrees fields_of (Err s)) (sym (fields_are functions vars p (to_named (map the_field fs)) before directions)) (stops_whole (length p) s _ a)

  -- and come to what is put together of them
  pub fields_come : (before : List Bool) (directions : List (Option Tau)) (us : List Found)
      → each functions vars p before directions (to_named (map the_field fs)) ≡ Ok us
      → check_fields functions vars p before directions (to_named (map the_field fs)) ≡ Ok (together (length p) us)
  fields_come before directions us e =
      fields_are functions vars p (to_named (map the_field fs)) before directions ∙ ap (λ o. bind o (λ us. Ok (together (length p) us))) e
