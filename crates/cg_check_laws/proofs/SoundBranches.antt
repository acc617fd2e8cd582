-- The rows of branches, where no event fails.
use Rattle.std.proofs.Common.{◌≡◌, ℕ, zero, suc, Bool, true, false, ◌||◌, not, cond, Option, Some, None, List, [], ◌∷◌, length, refl, subst}
use Rattle.cg_base.specs.declared.kind.Kinds.{Kinds}
use Rattle.cg_base.specs.declared.place.Place.{Place}
use Rattle.cg_base.specs.Types as types
use Rattle.cg_base.specs.Types.{Tau}
use Rattle.cg_core.specs.declared.at.At.{At}
use Rattle.cg_core.specs.Kernels.{Function}
use Rattle.cg_core.specs.Terms.{Tree, term, if_else, case_of}
use Rattle.cg_kinds.specs.Kinds.{kinds}
use Rattle.cg_typing.specs.Contexts.{Context, look, push, first, second, drops}
use Rattle.cg_faults.specs.Events.{Event, Before, after, upto, scope_end, branch_events, events, RulesHold}
use Rattle.cg_check_def.specs.NormalForm.{core, tree, marks}
use Rattle.cg_faults.specs.Occurrences.{touched, used, sightings}
use Rattle.cg_typing.specs.Parts.{alternative_in, held, with_part}
use Rattle.cg_faults.specs.Plain.{plain, plain_in, plain_at}
use Rattle.cg_typing.specs.Rules.{Derives, second_branch}
use Rattle.cg_check_laws.proofs.Basics.{hold_left, hold_right}
use Rattle.cg_check_laws.proofs.Clash.{clash, clash_body}
use Rattle.cg_check_laws.proofs.Occurs.{seen_left, seen_right, unused, sighted}
use Rattle.cg_check_laws.proofs.Parted.{parted, branch_entry, flip}
use Rattle.cg_check_laws.proofs.SoundBinders.{sound_body}
use Rattle.cg_check_laws.proofs.SoundLeaves.{Has, Sighted, Sound, SoundShape, body_in}
use Rattle.cg_base.proofs.Truths.{either as or_elim, or_true as or_right}

-- what the events behind two branches say of a variable
pub branches_hold : (vars : List Kinds) (u v : ℕ → Bool) (x y : Place) (p : List Tau) → RulesHold (branch_events vars u v x y p)
    → (i : ℕ) → (drops vars (plain_at p i) || cond (u i) (v i) (not (v i))) ≡ true
unfolding kinds
branches_hold vars u v x y [] h i = refl
branches_hold vars u v x y (t ∷ p) h zero = h.0
branches_hold vars u v x y (t ∷ p) h (suc i) = branches_hold vars (λ i. u (suc i)) (λ i. v (suc i)) x y p h.1 i

-- where a variable is used in one branch alone, or may be
one_side : (d u v : Bool) → (d || cond u v (not v)) ≡ true → u ≡ false → (v ≡ false → d ≡ true) → d ≡ true
one_side true u v h e f = refl
one_side false true v h e f = absurd (cc)
one_side false false true h e f = h
one_side false false false h e f = f refl

other_side : (d u v : Bool) → (d || cond u v (not v)) ≡ true → v ≡ false → (u ≡ false → d ≡ true) → d ≡ true
other_side true u v h e f = refl
other_side false true true h e f = absurd (cc)
other_side false true false h e f = h
other_side false false v h e f = f refl

-- the direction of the second branch, and its type
pub branch_way : (functions : List Function) (q : List Tau) (dir : Option Tau) (x : Tree Place) → second_branch dir (plain functions q x) ≡ second_branch dir (plain_in functions q dir x)
branch_way functions q None x = refl
branch_way functions q (Some u) x = refl

pub branch_type : (functions : List Function) (q r : List Tau) (dir : Option Tau) (x y : Tree Place) → plain_in functions r (second_branch dir (plain functions q x)) y ≡ plain_in functions q dir x
branch_type functions q r None x y = refl
branch_type functions q r (Some u) x y = refl

module _ (functions : List Function) (vars : List Kinds) (types_in : ℕ) where
  abbrev E : List Tau → Before → Option Tau → Tree Place → List Event
  E = events functions vars

  -- what a context has for each of two branches
  pub record Branches (g : Context) (p : List Tau) (x y : Tree Place) : Type 0 where
    pub first : Has functions vars types_in (λ i. touched i x) g p
    pub second : Has functions vars types_in (λ i. touched i y) g p

  branches : (g : Context) (p : List Tau) (x y : Tree Place) (a b : Place) → Has functions vars types_in (λ i. touched i x || touched i y) g p
      → RulesHold (branch_events vars (λ i. used i x) (λ i. used i y) a b p) → Sighted functions vars types_in p x → Sighted functions vars types_in p y → Branches g p x y
  branches g p x y a b e h qx qy =
      let k5 = branches_hold vars (λ i. used i x) (λ i. used i y) a b p h in
      record {
        first = λ i lt. branch_entry vars (touched i x) (touched i y) (look g i) (plain_at p i) (e i lt)
            (λ n w. one_side (drops vars (plain_at p i)) (used i x) (used i y) (k5 i) (unused x i n) (λ u. sighted y i _ (qy i lt) w u));
        second = λ i lt. branch_entry vars (touched i y) (touched i x) (look g i) (plain_at p i) (flip vars (touched i x) (touched i y) (look g i) (plain_at p i) (e i lt))
            (λ n w. other_side (drops vars (plain_at p i)) (used i x) (used i y) (k5 i) (unused y i n) (λ u. sighted x i _ (qx i lt) w u));
      }

  pub sound_if : (a : Place) (c x y : Tree Place) → Sound functions vars types_in c → Sound functions vars types_in x → Sound functions vars types_in y
      → SoundShape functions vars types_in a (if_else c x y)
  sound_if a (term ac sc) (term ax sx) (term ay sy) fc fx fy p b dir g s l e h q =
      let c : Tree Place = term ac sc in
      let x : Tree Place = term ax sx in
      let y : Tree Place = term ay sy in
      let whole : Tree Place = term a (if_else c x y) in
      let way = second_branch dir (plain functions p x) in
      let h1 = hold_right (E p b (Some types.bool) c) _ h in
      let h2 = hold_right (E p (after b c) dir x) _ h1 in
      let h3 = hold_right (E p (after b c) way y) _ h2 in
      let hx = hold_left (E p (after b c) dir x) _ h1 in
      let hy = hold_left (E p (after b c) way y) _ h2 in
      let m = marks (λ i. false) (λ i. touched i c) (λ i. touched i x || touched i y) g in
      let pt = parted vars g p (λ i. touched i c) (λ i. touched i x || touched i y) l
      (λ i lt u w. or_elim (touched i x) (touched i y) w
      (λ w. clash functions vars types_in x p (after b c) dir (length p) s.1 hx i lt w (or_right (b i) _ u))
      (λ w. clash functions vars types_in y p (after b c) way (length p) s.2 hy i lt w (or_right (b i) _ u))) e in
      let qc : Sighted functions vars types_in p c = λ i lt. seen_left _ _ _ (q i lt) in
      let qx : Sighted functions vars types_in p x = λ i lt. seen_left _ _ _ (seen_right _ (sightings i c) _ (q i lt)) in
      let qy : Sighted functions vars types_in p y = λ i lt. seen_right _ (sightings i x) _ (seen_right _ (sightings i c) _ (q i lt)) in
      let br = branches (second m g) p x y ax ay pt.at2 h3 qx qy in
      record {
        tree = refl;
        splits = pt.splits;
        condition = fc p b (Some types.bool) (first m g) s.0 pt.long1 pt.at1 (hold_left _ _ h) qc;
        first = fx p (after b c) dir (second m g) s.1 pt.long2 br.first hx qx;
        second = subst (λ w. Derives functions vars (second m g) (tree functions (second m g) p y) w (core functions p way y)) (branch_way functions p dir x)
            (fy p (after b c) way (second m g) s.2 pt.long2 br.second hy qy);
        is = body_in functions p p dir whole x refl;
        alike = branch_type functions p p dir x y;
      }

  pub sound_case : (a : Place) (e : Tree Place) (at : At) (v : Place) (x y : Tree Place) → Sound functions vars types_in e → Sound functions vars types_in x → Sound functions vars types_in y
      → SoundShape functions vars types_in a (case_of e at v x y)
  sound_case a (term ae se) at v (term ax sx) (term ay sy) fe fx fy p b dir g s l en h q =
      let e : Tree Place = term ae se in
      let x : Tree Place = term ax sx in
      let y : Tree Place = term ay sy in
      let whole : Tree Place = term a (case_of e at v x y) in
      let t = held (alternative_in at.name (plain functions p e)) in
      let u = with_part at.name true (plain functions p e) in
      let px = push p t in
      let py = push p u in
      let bb : Before = upto (length p) (after b e) in
      let way = second_branch dir (plain functions px x) in
      let h1 = hold_right (E p b None e) _ h in
      let h2 = h1.1.1 in
      let hx = hold_left (E px bb dir x) _ h2 in
      let h3 = hold_right (E px bb dir x) _ h2 in
      let sx' = hold_left (scope_end functions vars (length p) v t x) _ h3 in
      let h4 = hold_right (scope_end functions vars (length p) v t x) _ h3 in
      let hy = hold_left (E py bb way y) _ h4 in
      let h5 = hold_right (E py bb way y) _ h4 in
      let sy' = hold_left (scope_end functions vars (length p) at.place u y) _ h5 in
      let h6 = hold_right (scope_end functions vars (length p) at.place u y) _ h5 in
      let m = marks (λ i. false) (λ i. touched i e) (λ i. touched i x || touched i y) g in
      let pt = parted vars g p (λ i. touched i e) (λ i. touched i x || touched i y) l
      (λ i lt z w. or_elim (touched i x) (touched i y) w
      (λ w. clash_body functions vars types_in x (clash functions vars types_in x) p t (after b e) dir (suc (length p)) s.1 hx i lt w (or_right (b i) _ z))
      (λ w. clash_body functions vars types_in y (clash functions vars types_in y) p u (after b e) way (suc (length p)) s.2 hy i lt w (or_right (b i) _ z))) en in
      let qe : Sighted functions vars types_in p e = λ i lt. seen_left _ _ _ (q i lt) in
      let qx : Sighted functions vars types_in p x = λ i lt. seen_left _ _ _ (seen_right _ (sightings i e) _ (q i lt)) in
      let qy : Sighted functions vars types_in p y = λ i lt. seen_right _ (sightings i x) _ (seen_right _ (sightings i e) _ (q i lt)) in
      let br = branches (second m g) p x y ax ay pt.at2 h6 qx qy in
      record {
        tree = refl;
        splits = pt.splits;
        subject = fe p b None (first m g) s.0 pt.long1 pt.at1 (hold_left _ _ h) qe;
        left = h1.1.0;
        first = sound_body functions vars types_in x fx v p t bb dir (second m g) s.1 pt.long2 br.first hx sx' qx;
        second = subst (λ w. Derives functions vars (push (second m g) (Some u)) (tree functions (push (second m g) (Some u)) py y) w (core functions py way y)) (branch_way functions px dir x)
            (sound_body functions vars types_in y fy at.place p u bb way (second m g) s.2 pt.long2 br.second hy sy' qy);
        is = body_in functions p px dir whole x refl;
        alike = branch_type functions px py dir x y;
      }
