-- Behind two branches: the tests on which of them uses a variable tell what the conditions on its uses say.
use Rattle.std.proofs.Common.{◌≡◌, ◌↔◌, ℕ, zero, suc, Bool, true, false, ◌||◌, not, cond, Some, List, [], ◌∷◌, map, slice_get, inl, inr, refl, subst}
use Rattle.std.specs.List.{flat_map}
use Rattle.cg_base.specs.declared.kind.Kinds.{Kinds}
use Rattle.cg_base.specs.declared.place.Place.{Place}
use Rattle.cg_core.specs.Kernels.{Function, Body}
use Rattle.cg_core.specs.Terms.{Tree, term}
use Rattle.cg_faults.specs.declared.rule.Rule.TheVariants.{K5}
use Rattle.cg_typing.specs.Accepted.{kinds_of_vars}
use Rattle.cg_faults.specs.Conditions.{Condition, missed, branch_conditions}
use Rattle.cg_faults.specs.Events.{Before, judged, branch_events}
use Rattle.cg_faults.specs.Fails.{root_of}
use Rattle.cg_check_laws.specs.Laws.{IsLawfulIn}
use Rattle.cg_faults.specs.Occurrences.{used}
use Rattle.cg_typing.specs.Rules.{note_at}
use Rattle.cg_faults.specs.Sites.{Path, Entry, Site, scope_types, place_inside, parts}
use Rattle.cg_faults.specs.Touches.{HasUse}
use Rattle.cg_faults_laws.proofs.Paths.{part_follows}
use Rattle.cg_faults_laws.proofs.Standing.{Stand, Extends}
use Rattle.cg_faults_laws.proofs.Tells.{Tells, tells_append, tells_nothing}
use Rattle.cg_faults_laws.proofs.Uses.{uses_agree}
use Rattle.cg_typing.specs.Contexts.{push, drops}
use Rattle.cg_check_uses.proofs.Numbers.{apart}

module _ (functions : List Function) (root : Site) (vars : List Kinds) (x y : Place) (one other : Path) where
  -- the two conditions of an entry
  abbrev two : Entry → List Condition
  two e = missed y (drops vars e.ty) e.variable one other ∷ (missed x (drops vars e.ty) e.variable other one ∷ [])

  -- what the tests of an entry say: it may be dropped, or each test tells the uses in its branch
  record Split (u v : Bool) (e : Entry) : Type 0 where
    pub seen : e.observed ≡ true → drops vars e.ty ≡ true
    pub first : e.observed ≡ false → (u ≡ true ↔ HasUse functions root e.variable one)
    pub second : e.observed ≡ false → (v ≡ true ↔ HasUse functions root e.variable other)

  tells_entry : (e : Entry) (u v : Bool) → Split u v e → Tells functions root (judged K5 (cond u y x) (drops vars e.ty || cond u v (not v)) ∷ []) (two e)
  tells_entry e u v s = go (drops vars e.ty) refl e.observed refl u v refl refl
    where
      go : (d : Bool) → drops vars e.ty ≡ d → (o : Bool) → e.observed ≡ o → (a b : Bool) → u ≡ a → v ≡ b
          → Tells functions root (judged K5 (cond a y x) (d || cond a b (not b)) ∷ []) (missed y d e.variable one other ∷ (missed x d e.variable other one ∷ []))
      go true f o k a b g h = record { result = ((λ t p z. let q = z.2 in absurd (cc)), ((λ t p z. let q = z.2 in absurd (cc)), tt)) }
      go false f true k a b g h = let q = s.seen k in absurd (cc)
      go false f false k true true g h =
          record { result = ((λ t p z. z.4 ((s.second k).0 h)), ((λ t p z. z.4 ((s.first k).0 g)), tt)) }
      go false f false k true false g h = record { result = inl (refl, refl, refl, (s.first k).0 g, (λ z. apart v ((s.second k).1 z) h)) }
      go false f false k false true g h =
          record { result = inr ((λ t p z. apart u ((s.first k).1 z.3) g), inl (refl, refl, refl, (s.second k).0 h, (λ z. apart u ((s.first k).1 z) g))) }
      go false f false k false false g h =
          record { result = ((λ t p z. apart u ((s.first k).1 z.3) g), ((λ t p z. apart v ((s.second k).1 z.3) h), tt)) }

  tells_entries : (es : List Entry) (first second : ℕ → Bool) → ((i : ℕ) (e : Entry) → slice_get es i ≡ Some e → Split (first i) (second i) e)
      → Tells functions root (branch_events vars first second x y (map (λ e. e.ty) es)) (flat_map two es)
  tells_entries [] first second h = tells_nothing functions root
  tells_entries (e ∷ es) first second h =
      tells_append functions root (judged K5 (cond (first zero) y x) (drops vars e.ty || cond (first zero) (second zero) (not (second zero))) ∷ [])
      (branch_events vars (λ i. first (suc i)) (λ i. second (suc i)) x y (map (λ e. e.ty) es)) (two e) (flat_map two es)
      (tells_entry e (first zero) (second zero) (h zero e refl))
      (tells_entries es (λ i. first (suc i)) (λ i. second (suc i)) (λ i f at. h (suc i) f at))

note_is : (t : Tree Place) → note_at t ≡ place_inside t
note_is (term a shape) = refl

module _ (functions : List Function) (f : Function) (body : Body) (types_in : ℕ) (lawful : IsLawfulIn functions types_in body.term) where
  -- the test on a branch tells the uses below its path
  uses_in : (p : Site) (b : Before) → Stand functions f body types_in p b → (path : Path) → p.path ≡ path → (i : ℕ) (e : Entry) → slice_get p.scope i ≡ Some e → e.observed ≡ false
      → (used i p.node ≡ true ↔ HasUse functions (root_of f body) e.variable path)
  uses_in p b s path same i e at o =
      subst (λ path. used i p.node ≡ true ↔ HasUse functions (root_of f body) e.variable path) same (uses_agree functions f body types_in lawful p.path p s.stands i e at o)

  pub tells_branches : (s : Site) (b : Before) → Stand functions f body types_in s b → (p q : Site) → slice_get (parts functions s) 1 ≡ Some p → slice_get (parts functions s) 2 ≡ Some q
      → (first second : Before) → Stand functions f body types_in p first → Stand functions f body types_in q second → Extends functions f body types_in s.scope p.scope → Extends functions f body types_in s.scope q.scope
      → Tells functions (root_of f body) (branch_events (kinds_of_vars f) (λ i. used i p.node) (λ i. used i q.node) (note_at p.node) (note_at q.node) (scope_types s))
      (branch_conditions (kinds_of_vars f) s p.node q.node)
  tells_branches s b st p q at bt first second sp sq ep eq =
      rw (note_is p.node, note_is q.node) (tells_entries functions (root_of f body) (kinds_of_vars f) (place_inside p.node) (place_inside q.node) (push s.path 1) (push s.path 2) s.scope
      (λ i. used i p.node) (λ i. used i q.node)
      (λ i e h. record {
        seen = λ o. (st.seen i e h o).0;
        first = λ o. uses_in p first sp (push s.path 1) (part_follows functions s 1 p at).0 i e (ep i e h) o;
        second = λ o. uses_in q second sq (push s.path 2) (part_follows functions s 2 q bt).0 i e (eq i e h) o;
      }))
