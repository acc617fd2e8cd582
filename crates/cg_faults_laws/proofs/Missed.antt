-- The first sighting of a variable with no use behind it, below a site: put together from the site's own observers and its parts.
use Rattle.std.proofs.Common.{◌≡◌, ◌⊎◌, ◌≤◌, ◌+◌, ◌-◌, ℕ, suc, Bool, true, false, cond, Option, Some, None, List, [], ◌∷◌, ◌++◌, slice_get, inl, inr, ⊎_elim, refl, sym, ap, ◌∙◌, subst, arith}
use Rattle.std.proofs.Math.Nat.{sub-add_cancel}
use Rattle.cg_base.specs.declared.place.Place.{Place}
use Rattle.cg_core.specs.declared.term.Seen.{Seen}
use Rattle.cg_core.specs.Kernels.{Function}
use Rattle.cg_core.specs.Terms.{Tree, let_bang}
use Rattle.cg_faults.specs.Occurrences.{Sighting}
use Rattle.cg_faults.specs.Sites.{Path, Variable, Site, shape_inside, parts, down}
use Rattle.cg_faults.specs.Touches.{TouchBefore, PathBefore, IsSighting, IsTouchAt, HasUse}
use Rattle.cg_typing.specs.Contexts.{push}
use Rattle.cg_faults_laws.proofs.Touches.{sighting_from, into_part, out_of_part}
use Rattle.cg_faults_laws.proofs.Uses.{use_in_part, use_of_part}
use Rattle.cg_check_laws.proofs.OneFault.{some_is}

-- the earlier of two places
abbrev pub sooner : Option Place → Option Place → Option Place
sooner None b = b
sooner (Some a) b = Some a

pub sooner_none : (a : Option Place) → a ≡ sooner a None
sooner_none None = refl
sooner_none (Some a) = refl

-- the place of the first sighting of a list with no use behind it
abbrev pub first_missed : List Sighting → Option Place
first_missed [] = None
first_missed (s ∷ ss) = cond s.used_later (first_missed ss) (Some s.place)

missed_cons : (u : Bool) (p : Place) (o a b : Option Place) → o ≡ sooner a b → cond u o (Some p) ≡ sooner (cond u a (Some p)) b
missed_cons true p o a b h = h
missed_cons false p o a b h = refl

pub missed_append : (a b : List Sighting) → first_missed (a ++ b) ≡ sooner (first_missed a) (first_missed b)
missed_append [] b = refl
missed_append (s ∷ a) b = missed_cons s.used_later s.place (first_missed (a ++ b)) (first_missed a) (first_missed b) (missed_append a b)

-- ---- where sightings stand: at the site itself, below part n, or below that part or a later one

abbrev pub Own : Path → Type 0
Own [] = Unit {0}
Own (j ∷ q) = ⊥

abbrev pub Under : ℕ → Path → Type 0
Under n [] = ⊥
Under n (j ∷ q) = j ≡ n

abbrev pub FromPart : ℕ → Path → Type 0
FromPart n [] = ⊥
FromPart n (j ∷ q) = n ≤ j

abbrev pub Anywhere : Path → Type 0
Anywhere q = Unit {0}

part_or_later : (n : ℕ) (q : Path) → FromPart n q → Under n q ⊎ FromPart (suc n) q
part_or_later n [] h = absurd h
part_or_later n (j ∷ q) h = grind arith

part_from : (n : ℕ) (q : Path) → Under n q → FromPart n q
part_from n [] h = absurd h
part_from n (j ∷ q) h = omega (arith, h)

later_from : (n : ℕ) (q : Path) → FromPart (suc n) q → FromPart n q
later_from n [] h = absurd h
later_from n (j ∷ q) h = omega (arith, h)

-- no path of one kind stands before one of another, nor is one
abbrev Behind : (Path → Type 0) → (Path → Type 0) → Type 0
Behind C D = (p q : Path) → C p → D q → PathBefore q p ⊎ (q ≡ p) → ⊥

part_behind : (n : ℕ) → Behind (Under n) (FromPart (suc n))
part_behind n [] q c d h = absurd c
part_behind n (i ∷ p) [] c d h = absurd d
part_behind n (i ∷ p) (j ∷ q) c d h =
    ⊎_elim (λ l. ⊎_elim (λ l. absurd (omega (arith, l, c, d))) (λ r. let e = r.0 in absurd (omega (arith, e, c, d))) l)
    (λ e. absurd (let k : FromPart (suc n) (i ∷ p) = subst (λ q. FromPart (suc n) q) e d in omega (arith, k, c))) h

own_behind : Behind Own (FromPart 0)
own_behind [] [] c d h = absurd d
own_behind [] (j ∷ q) c d h = ⊎_elim (λ l. absurd l) (λ e. absurd (let z : (j ∷ q) ≡ [] = e in cc)) h
own_behind (i ∷ p) q c d h = absurd c

-- a node that is no `let!` has no observers of its own
abbrev pub IsNoLetBang : Site → Type 0
IsNoLetBang s = (os : List Seen) (v : Place) (e k : Tree Place) → shape_inside s.node ≡ let_bang os v e k → ⊥

module _ (functions : List Function) (x : Variable) where
  abbrev pub IsSightedAt : Site → Path → ℕ → Type 0
  IsSightedAt s q m = IsTouchAt functions s x q (Some m)

  abbrev pub IsUsedBehind : Site → Path → Type 0
  IsUsedBehind s q = HasUse functions s x (push q 1)

  -- the first sighting at such paths with no use behind it
  pub record IsFirstMissed (s : Site) (C : Path → Type 0) (place : Place) : Type 0 where
    pub path : Path
    pub number : ℕ
    pub observer : Seen
    pub within : C path
    pub sighting : IsSighting functions s x path number observer
    pub at : place ≡ observer.place
    pub unused : IsUsedBehind s path → ⊥
    pub first : (q : Path) (m : ℕ) → C q → IsSightedAt s q m → TouchBefore (record { path = q; observer = Some m }) (record { path = path; observer = Some number }) → IsUsedBehind s q

  abbrev pub Outcome : Site → (Path → Type 0) → Option Place → Type 0
  Outcome s C None = (q : Path) (m : ℕ) → C q → IsSightedAt s q m → IsUsedBehind s q
  Outcome s C (Some place) = IsFirstMissed s C place

  -- one kind of path, and then another
  joined : (s : Site) (C D E : Path → Type 0) → ((q : Path) → E q → C q ⊎ D q) → ((q : Path) → C q → E q) → ((q : Path) → D q → E q) → Behind C D
      → (a b : Option Place) → Outcome s C a → Outcome s D b → Outcome s E (sooner a b)
  joined s C D E f g h behind (Some a) b k l =
      record {
        path = k.path;
        number = k.number;
        observer = k.observer;
        within = g k.path k.within;
        sighting = k.sighting;
        at = k.at;
        unused = k.unused;
        first = λ q m e t before. ⊎_elim (λ c. k.first q m c t before)
            (λ d. absurd (behind k.path q k.within d (⊎_elim (λ l. inl l) (λ r. inr r.0) before))) (f q e);
      }
  joined s C D E f g h behind None None k l = λ q m e t. ⊎_elim (λ c. k q m c t) (λ d. l q m d t) (f q e)
  joined s C D E f g h behind None (Some b) k l =
      record {
        path = l.path;
        number = l.number;
        observer = l.observer;
        within = h l.path l.within;
        sighting = l.sighting;
        at = l.at;
        unused = l.unused;
        first = λ q m e t before. ⊎_elim (λ c. k q m c t) (λ d. l.first q m d t before) (f q e);
      }

  -- what stands below a part, from the part and from the node
  module _ (s p : Site) (j : ℕ) (at : slice_get (parts functions s) j ≡ Some p) where
    into : (q : Path) (m : ℕ) → IsSightedAt s (j ∷ q) m → IsSightedAt p q m
    into q m t = (t.0, sighting_from functions s p x (j ∷ q) q m t.0 (into_part functions s p j q at) t.1)

    used_into : (q : Path) → IsUsedBehind s (j ∷ q) → IsUsedBehind p q
    used_into q u = (u.0, use_in_part functions x s p j (push q 1 ++ u.0) at u.1)

    used_out : (q : Path) → IsUsedBehind p q → IsUsedBehind s (j ∷ q)
    used_out q u = (u.0, use_of_part functions x s p j (push q 1 ++ u.0) at u.1)

  part_here : (s p : Site) (n j : ℕ) → j ≡ n → slice_get (parts functions s) n ≡ Some p → slice_get (parts functions s) j ≡ Some p
  part_here s p n j e at = ap (λ j. slice_get (parts functions s) j) e ∙ at

  all_in_part : (s p : Site) (n : ℕ) → slice_get (parts functions s) n ≡ Some p → Outcome p Anywhere None → Outcome s (Under n) None
  all_in_part s p n at k [] m c t = absurd c
  all_in_part s p n at k (j ∷ q) m c t = let there = part_here s p n j c at in used_out s p j there q (k q m tt (into s p j there q m t))

  in_part : (s p : Site) (n : ℕ) → slice_get (parts functions s) n ≡ Some p → (o : Option Place) → Outcome p Anywhere o → Outcome s (Under n) o
  in_part s p n at None k = all_in_part s p n at k
  in_part s p n at (Some place) k =
      record {
        path = n ∷ k.path;
        number = k.number;
        observer = k.observer;
        within = refl;
        sighting = sighting_from functions p s x k.path (n ∷ k.path) k.number k.observer (out_of_part functions s p n k.path at) k.sighting;
        at = k.at;
        unused = λ u. k.unused (used_into s p n at k.path u);
        first = before;
      }
    where
      before : (q : Path) (m : ℕ) → Under n q → IsSightedAt s q m → TouchBefore (record { path = q; observer = Some m }) (record { path = n ∷ k.path; observer = Some k.number }) → IsUsedBehind s q
      before [] m c t b = absurd c
      before (j ∷ q) m c t b =
          let there = part_here s p n j c at in
          used_out s p j there q (k.first q m tt (into s p j there q m t)
          (⊎_elim (λ l. ⊎_elim (λ l. absurd (omega (arith, l, c))) (λ r. inl r.1) l) (λ r. inr (let e : (j ∷ q) ≡ (n ∷ k.path) = r.0 in cc, r.1)) b))

  -- behind the last part there is none
  none_behind : (s : Site) (n : ℕ) → ((j : ℕ) → n ≤ j → slice_get (parts functions s) j ≡ None) → Outcome s (FromPart n) None
  none_behind s n f [] m c t = absurd c
  none_behind s n f (j ∷ q) m c t =
      let z : down functions None q ≡ Some t.1.site = subst (λ o. down functions o q ≡ Some t.1.site) (f j c) t.1.stands in absurd (cc)

  -- the outcomes of the parts, in order
  abbrev pub Rows : List Site → Option Place → Type 0
  Rows [] o = o ≡ None
  Rows (p ∷ ps) o = (a : Option Place) × (b : Option Place) × (o ≡ sooner a b) × Outcome p Anywhere a × Rows ps b

  pub more_rows : (p : Site) (ps : List Site) (a b : List Sighting) → Outcome p Anywhere (first_missed a) → Rows ps (first_missed b) → Rows (p ∷ ps) (first_missed (a ++ b))
  more_rows p ps a b k l = (first_missed a, first_missed b, missed_append a b, k, l)

  pub last_row : (p : Site) (a : List Sighting) → Outcome p Anywhere (first_missed a) → Rows (p ∷ []) (first_missed a)
  last_row p a k = (first_missed a, None, sooner_none (first_missed a), k, refl)

  pub two_rows : (p q : Site) (a b : List Sighting) → Outcome p Anywhere (first_missed a) → Outcome q Anywhere (first_missed b) → Rows (p ∷ (q ∷ [])) (first_missed (a ++ b))
  two_rows p q a b k l = more_rows p (q ∷ []) a b k (last_row q b l)

  pub of_rows : (s : Site) (ps : List Site) (n : ℕ) (o : Option Place) → ((k m : ℕ) → m ≡ k + n → slice_get (parts functions s) m ≡ slice_get ps k) → Rows ps o → Outcome s (FromPart n) o
  of_rows s [] n o at r = subst (λ o. Outcome s (FromPart n) o) (sym r) (none_behind s n (λ m h. at (m - n) m (sym (sub-add_cancel h))))
  of_rows s (p ∷ ps) n o at r =
      subst (λ o. Outcome s (FromPart n) o) (sym r.2)
      (joined s (Under n) (FromPart (suc n)) (FromPart n) (part_or_later n) (part_from n) (later_from n) (part_behind n) r.0 r.1
      (in_part s p n (at 0 n (omega arith)) r.0 r.3) (of_rows s ps (suc n) r.1 (λ k m e. at (suc k) m (omega (arith, e))) r.4))

  -- the site's own observers, and then its parts
  pub whole : (s : Site) (a b : Option Place) → Outcome s Own a → Rows (parts functions s) b → Outcome s Anywhere (sooner a b)
  whole s a b k r =
      joined s Own (FromPart 0) Anywhere split (λ q c. tt) (λ q c. tt) own_behind a b k
      (of_rows s (parts functions s) 0 b (λ k m e. ap (λ m. slice_get (parts functions s) m) (let z : m ≡ k = omega (arith, e) in z)) r)
    where
      split : (q : Path) → Anywhere q → Own q ⊎ FromPart 0 q
      split [] c = inl tt
      split (j ∷ q) c = inr (omega arith)

  no_own : (s : Site) → IsNoLetBang s → Outcome s Own None
  no_own s f [] m c t =
      let same : s ≡ t.1.site = some_is (Some s) s t.1.site refl t.1.stands in
      absurd (f t.1.observers t.1.binder t.1.value t.1.body (subst (λ s. shape_inside s.node ≡ let_bang t.1.observers t.1.binder t.1.value t.1.body) (sym same) t.1.is))
  no_own s f (j ∷ q) m c t = absurd c

  pub parted : (s : Site) → IsNoLetBang s → (o : Option Place) → Rows (parts functions s) o → Outcome s Anywhere o
  parted s f o r = whole s None o (no_own s f) r
