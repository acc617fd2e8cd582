-- The steps by which the events of a form tell its conditions: a stage, the part behind it, and the end; and which flags its parts stand with.
use Rattle.std.proofs.Common.{◌≡◌, ℕ, suc, ◌<◌, ◌≤◌, false, cond, Option, Some, List, [], ◌∷◌, ◌++◌, length, slice_get, inl, refl, ap, ◌∙◌, subst, arith, append-nil, nat_eq, eq-eqb}
use Rattle.std.proofs.lemmas.Option.{slice_get_within, slice_get_past}
use Rattle.cg_base.specs.declared.kind.Kinds.{Kinds}
use Rattle.cg_base.specs.declared.place.Place.{Place}
use Rattle.cg_base.specs.Types.{Tau}
use Rattle.cg_core.specs.Kernels.{Function, Body}
use Rattle.cg_core.specs.Terms.{Tree, term, Shape}
use Rattle.cg_typing.specs.Contexts.{push}
use Rattle.cg_typing.specs.Accepted.{kinds_of_vars}
use Rattle.cg_faults.specs.Conditions.{Condition, typed, at_stage, stages, conditions, size_condition}
use Rattle.cg_faults.specs.Events.{Event, event, Before, within, after, upto, events, events_shape}
use Rattle.cg_faults.specs.Fails.{root_of}
use Rattle.cg_faults.specs.Plain.{plain_in}
use Rattle.cg_faults.specs.Rule.{Test, type_limit}
use Rattle.cg_faults.specs.Sites.{Path, Entry, Site, shape_inside, place_inside, scope_types, parts}
use Rattle.cg_faults_laws.proofs.Flagged.{Back, Flags, flagged_here, flagged_start, flagged_next, flagged_bound}
use Rattle.cg_faults_laws.proofs.Moments.{TellsFrom, Told, told_part, told_end, told_now}
use Rattle.cg_faults_laws.proofs.Parts.{site_of}
use Rattle.cg_faults_laws.proofs.Rows.{unequal, past, no_stage, entry_types, types_push}
use Rattle.cg_faults_laws.proofs.Standing.{Stand, OccurrenceRows}
use Rattle.cg_faults_laws.proofs.Tells.{Tells, tells_one}

module _ (functions : List Function) (vars : List Kinds) (root : Site) where
  -- a site's conditions by moments, without the one on the size of its type
  abbrev pub S : Site → List (List Condition)
  S s = stages functions vars s (place_inside s.node) (shape_inside s.node)

  -- its last events: the size of its type
  abbrev Size : Site → List Event
  Size s = within (place_inside s.node) (plain_in functions (scope_types s) s.direction s.node) ∷ []

  -- these events tell what is judged at a site from a moment on, before its last events
  abbrev pub T : Site → ℕ → List Event → Type 0
  T s n es = Told functions root vars (Size s) s n es

  at_no_end : (s : Site) (n : ℕ) (cs : List Condition) → n ≤ length (parts functions s) → at_stage (S s) n ≡ cs → conditions functions vars s n ≡ cs
  at_no_end s n cs l e =
      ap (λ q. at_stage (S s) n ++ cond q (size_condition functions vars s ∷ []) []) (nat_before n (suc (length (parts functions s))) (omega (arith, l))) ∙ (append-nil (at_stage (S s) n) ∙ e)
    where
      nat_before : (m n : ℕ) → m < n → nat_eq m n ≡ false
      nat_before m n h = unequal m n (λ e. (omega (arith, e, h)))

  -- a stage, the part behind it, and the rest
  pub part_told : (s p : Site) (n : ℕ) (cs : List Condition) (es fs gs : List Event) → slice_get (parts functions s) n ≡ Some p → at_stage (S s) n ≡ cs → Tells functions root es cs → TellsFrom functions root vars p 0 fs
      → T s (suc n) gs → T s n (es ++ (fs ++ gs))
  part_told s p n cs es fs gs at stage h k l =
      let long = slice_get_within (parts functions s) n p at in
      told_part functions root vars (Size s) s p n cs es fs gs at (at_no_end s n cs (omega (arith, long)) stage) h k l

  -- the last stage
  pub stop : (s : Site) (n : ℕ) (cs : List Condition) (es : List Event) → length (parts functions s) ≡ n → length (S s) ≤ suc n → at_stage (S s) n ≡ cs → Tells functions root es cs → T s n es
  stop s n cs es long few stage h =
      told_end functions root vars (Size s) s n cs (size_condition functions vars s ∷ []) es (λ j l. slice_get_past (parts functions s) j (omega (arith, long, l)))
      (λ m l. past (S s) (size_condition functions vars s ∷ []) m (suc (length (parts functions s))) (omega (arith, few, l)) (omega (arith, long, l)))
      (at_no_end s n cs (omega (arith, long)) stage)
      (ap (λ cs. cs ++ cond (nat_eq (suc n) (suc (length (parts functions s)))) (size_condition functions vars s ∷ []) []) (no_stage (S s) (suc n) few)
      ∙ ap (λ q. cond q (size_condition functions vars s ∷ []) []) (eq-eqb (suc n) (suc (length (parts functions s))) (omega (arith, long))))
      h (tells_one functions root type_limit (place_inside s.node) _)

  -- the first stage fails for sure, so no more is judged
  pub told_off : (s : Site) (n : ℕ) (test : Test) (place : Place) → at_stage (S s) n ≡ typed test place false ∷ [] → n ≤ length (parts functions s) → T s n (event test place false ∷ [])
  told_off s n test place stage l =
      told_now functions root vars (Size s) s n (typed test place false ∷ []) (event test place false ∷ []) (test, place) (at_no_end s n _ l stage) (λ later. refl) (inl (refl, refl, refl))

  -- a form with nothing behind its last part
  pub last_told : (s : Site) (n : ℕ) (es fs : List Event) → T s n (es ++ (fs ++ [])) → T s n (es ++ fs)
  last_told s n es fs h = subst (λ fs. T s n (es ++ fs)) (append-nil fs) h

module _ (functions : List Function) (function : Function) (body : Body) (types_in : ℕ) where
  abbrev pub StandAt : Site → Before → Type 0
  StandAt = Stand functions function body types_in

  abbrev pub E : List Tau → Before → Option Tau → Tree Place → List Event
  E = events functions (kinds_of_vars function)

  -- the events of a site tell what its conditions and those below it say
  abbrev pub TellsSite : Site → List Event → Type 0
  TellsSite s es = TellsFrom functions (root_of function body) (kinds_of_vars function) s 0 es

  -- those of a term do, wherever it stands
  abbrev pub TellsTree : Tree Place → Type 0
  TellsTree e = (path : Path) (scope : List Entry) (dir : Option Tau) (b : Before) → StandAt (site_of path scope dir e) b → TellsSite (site_of path scope dir e) (E (entry_types scope) b dir e)

  abbrev pub TellsShape : Place → Shape Place → Type 0
  TellsShape a shape = (path : Path) (scope : List Entry) (dir : Option Tau) (b : Before) → StandAt (site_of path scope dir (term a shape)) b
      → T functions (kinds_of_vars function) (root_of function body) (site_of path scope dir (term a shape)) 0 (events_shape functions (kinds_of_vars function) (entry_types scope) b dir a shape)

  -- a part with one variable more
  pub in_binding : (e : Tree Place) → TellsTree e → (path : Path) (scope : List Entry) (new : Entry) (dir : Option Tau) (b : Before) → StandAt (site_of path (push scope new) dir e) b
      → TellsSite (site_of path (push scope new) dir e) (E (push (entry_types scope) new.ty) b dir e)
  in_binding e f path scope new dir b st =
      subst (λ p. TellsSite (site_of path (push scope new) dir e) (E p b dir e)) (types_push scope new) (f path (push scope new) dir b st)

  -- the flags with which the parts stand
  module _ (rows : OccurrenceRows functions function body types_in) (s : Site) (b : Before) (st : StandAt s b) where
    pub first_stands : (p : Site) → slice_get (parts functions s) 0 ≡ Some p → p.scope ≡ s.scope → StandAt p b
    first_stands p at same = rows.part_stands s b st 0 p at b (flagged_here functions s b 0 p b same (flagged_start functions s b))

    pub behind_first : (q : Site) → slice_get (parts functions s) 0 ≡ Some q → q.scope ≡ s.scope → Flags functions s b 1 (after b q.node)
    behind_first q at same = flagged_next functions s b 0 b q at same (λ c. refl) (flagged_start functions s b)

    pub second_stands : (q p : Site) → slice_get (parts functions s) 0 ≡ Some q → q.scope ≡ s.scope → slice_get (parts functions s) 1 ≡ Some p → p.scope ≡ s.scope → StandAt p (after b q.node)
    second_stands q p at same at' same' = rows.part_stands s b st 1 p at' (after b q.node) (flagged_here functions s b 1 p (after b q.node) same' (behind_first q at same))

    pub bound_stands : (j : ℕ) (p : Site) (n : ℕ) (flags : Before) → slice_get (parts functions s) j ≡ Some p → Back s.scope p.scope → n ≡ length s.scope → Flags functions s b j flags
        → StandAt p (upto n flags)
    bound_stands j p n flags at back long h = rows.part_stands s b st j p at (upto n flags) (flagged_bound functions s b j p n flags back long h)
