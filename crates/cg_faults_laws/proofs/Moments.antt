-- The order of reading in a body: what is judged at a site from one of its moments on, and which of it fails first.
use Rattle.std.proofs.Common.{◌≡◌, ◌⊎◌, ℕ, suc, ◌≤◌, Option, Some, None, List, [], ◌∷◌, ◌++◌, slice_get, ⊎_elim, refl, sym, ap, ◌∙◌, subst, arith, append_assoc}
use Rattle.cg_base.specs.declared.kind.Kinds.{Kinds}
use Rattle.cg_core.specs.Kernels.{Function}
use Rattle.cg_faults.specs.Conditions.{Condition, conditions}
use Rattle.cg_faults.specs.Events.{Event, Fault, first_failing}
use Rattle.cg_faults.specs.Fails.{NodeBefore}
use Rattle.cg_faults.specs.Sites.{Path, Site, parts, down}
use Rattle.cg_faults_laws.proofs.Tells.{either_fault, fault_append, Clear, FirstOf, Result, Tells}

-- a moment at a site's own node after so many parts or later, or below one of those parts
abbrev pub FromOn : ℕ → Path → ℕ → Type 0
FromOn n [] m = n ≤ m
FromOn n (j ∷ q) m = n ≤ j

next_or : (n m : ℕ) → n ≤ m → (m ≡ n) ⊎ (suc n ≤ m)
next_or n m h = grind arith

from_next : (n : ℕ) (q : Path) (m : ℕ) → FromOn (suc n) q m → FromOn n q m
from_next n [] m h = omega (arith, h)
from_next n (j ∷ q) m h = omega (arith, h)

pub from_first : (q : Path) (m : ℕ) → FromOn 0 q m
from_first [] m = omega arith
from_first (j ∷ q) m = omega arith

module _ (functions : List Function) (root : Site) (vars : List Kinds) where
  abbrev pub at_moment : Site → ℕ → List Condition
  at_moment = conditions functions vars

  -- what is judged at a moment of a site
  abbrev pub ClearAt : Site → Path → ℕ → Type 0
  ClearAt s q m = (p : Site) → down functions (Some s) q ≡ Some p → Clear functions root (at_moment p m)

  abbrev pub ClearFrom : Site → ℕ → Type 0
  ClearFrom s n = (q : Path) (m : ℕ) → FromOn n q m → ClearAt s q m

  pub record FirstFrom (s : Site) (n : ℕ) (f : Fault) : Type 0 where
    pub path : Path
    pub moment : ℕ
    pub from : FromOn n path moment
    pub site : Site
    pub stands : down functions (Some s) path ≡ Some site
    pub fails : FirstOf functions root (at_moment site moment) f.0 f.1
    pub earlier : (q : Path) (m : ℕ) → FromOn n q m → NodeBefore q m path moment → ClearAt s q m

  abbrev pub Outcome : Site → ℕ → Option Fault → Type 0
  Outcome s n None = ClearFrom s n
  Outcome s n (Some f) = FirstFrom s n f

  -- the moment itself
  now : (s : Site) (n : ℕ) (f : Fault) → FirstOf functions root (at_moment s n) f.0 f.1 → FirstFrom s n f
  now s n f h = record { path = []; moment = n; from = omega arith; site = s; stands = refl; fails = h; earlier = before }
    where
      before : (q : Path) (m : ℕ) → FromOn n q m → NodeBefore q m [] n → ClearAt s q m
      before [] m a b = absurd (omega (arith, a, b))
      before (j ∷ q) m a b = absurd (omega (arith, a, b))

  at_once : (s : Site) (n m : ℕ) → m ≡ n → Clear functions root (at_moment s n) → ClearAt s [] m
  at_once s n m e h p d = let same : s ≡ p = cc in subst (λ m. Clear functions root (at_moment p m)) (sym e) (subst (λ s. Clear functions root (at_moment s n)) same h)

  -- what is judged below part n
  abbrev Below : Site → ℕ → Type 0
  Below s n = (q : Path) (m : ℕ) → ClearAt s (n ∷ q) m

  below_part : (s p : Site) (n : ℕ) → slice_get (parts functions s) n ≡ Some p → ClearFrom p 0 → Below s n
  below_part s p n at h q m r d = h q m (from_first q m) r (subst (λ o. down functions o q ≡ Some r) at d)

  below_none : (s : Site) (n : ℕ) → slice_get (parts functions s) n ≡ None → Below s n
  below_none s n at q m r d = let z : down functions None q ≡ Some r = subst (λ o. down functions o q ≡ Some r) at d in absurd (cc)

  -- either at once, or below the part, or later
  split : (s : Site) (n : ℕ) → Clear functions root (at_moment s n) → Below s n → (q : Path) (m : ℕ) → FromOn n q m → (FromOn (suc n) q m → ClearAt s q m) → ClearAt s q m
  split s n h k [] m a f = ⊎_elim (λ e. at_once s n m e h) (λ l. f l) (next_or n m a)
  split s n h k (j ∷ q) m a f = ⊎_elim (λ e. subst (λ j. ClearAt s (j ∷ q) m) (sym e) (k q m)) (λ l. f l) (next_or n j a)

  later : (s : Site) (n : ℕ) (o : Option Fault) → Clear functions root (at_moment s n) → Below s n → Outcome s (suc n) o → Outcome s n o
  later s n None h k c = λ q m a. split s n h k q m a (λ l. c q m l)
  later s n (Some f) h k c =
      record {
        path = c.path;
        moment = c.moment;
        from = from_next n c.path c.moment c.from;
        site = c.site;
        stands = c.stands;
        fails = c.fails;
        earlier = λ q m a b. split s n h k q m a (λ l. c.earlier q m l b);
      }

  in_part : (s p : Site) (n : ℕ) (f : Fault) → slice_get (parts functions s) n ≡ Some p → Clear functions root (at_moment s n) → FirstFrom p 0 f → FirstFrom s n f
  in_part s p n f at h c =
      record {
        path = n ∷ c.path;
        moment = c.moment;
        from = omega arith;
        site = c.site;
        stands = subst (λ o. down functions o c.path ≡ Some c.site) (sym at) c.stands;
        fails = c.fails;
        earlier = before;
      }
    where
      same_part : (j : ℕ) (q : Path) (m : ℕ) → j ≡ n → NodeBefore q m c.path c.moment → ClearAt s (j ∷ q) m
      same_part j q m e b r d =
          c.earlier q m (from_first q m) b r (subst (λ o. down functions o q ≡ Some r) (ap (λ j. slice_get (parts functions s) j) e ∙ at) d)

      before : (q : Path) (m : ℕ) → FromOn n q m → NodeBefore q m (n ∷ c.path) c.moment → ClearAt s q m
      before [] m a b = at_once s n m (omega (arith, a, b)) h
      before (j ∷ q) m a b = ⊎_elim (λ l. absurd (omega (arith, a, l))) (λ r. same_part j q m r.0 r.1) b

  -- a moment, the part behind it, and the rest
  joined : (s p : Site) (n : ℕ) (a b c : Option Fault) → slice_get (parts functions s) n ≡ Some p → Result functions root a (at_moment s n) → Outcome p 0 b → Outcome s (suc n) c
      → Outcome s n (either_fault a (either_fault b c))
  joined s p n (Some f) b c at h k l = now s n f h
  joined s p n None (Some f) c at h k l = in_part s p n f at h k
  joined s p n None None c at h k l = later s n c h (below_part s p n at k) l

  ended : (s : Site) (n : ℕ) (a c : Option Fault) → slice_get (parts functions s) n ≡ None → Result functions root a (at_moment s n) → Outcome s (suc n) c → Outcome s n (either_fault a c)
  ended s n (Some f) c at h l = now s n f h
  ended s n None c at h l = later s n c h (below_none s n at) l

  -- what is judged from a moment on is what these events tell
  pub record TellsFrom (s : Site) (n : ℕ) (es : List Event) : Type 0 where
    pub outcome : Outcome s n (first_failing es)

  -- the same before the last events of the node
  module _ (last : List Event) where
    pub record Told (s : Site) (n : ℕ) (es : List Event) : Type 0 where
      pub outcome : Outcome s n (first_failing (es ++ last))

    -- a stage, the part behind it, and the rest
    pub told_part : (s p : Site) (n : ℕ) (cs : List Condition) (es fs gs : List Event) → slice_get (parts functions s) n ≡ Some p → at_moment s n ≡ cs → Tells functions root es cs → TellsFrom p 0 fs
        → Told s (suc n) gs → Told s n (es ++ (fs ++ gs))
    told_part s p n cs es fs gs at stage h k l =
        let e : first_failing ((es ++ (fs ++ gs)) ++ last) ≡ either_fault (first_failing es) (either_fault (first_failing fs) (first_failing (gs ++ last))) =
        ap first_failing (append_assoc es (fs ++ gs) last) ∙ (fault_append es ((fs ++ gs) ++ last)
        ∙ ap (λ o. either_fault (first_failing es) o) (ap first_failing (append_assoc fs gs last) ∙ fault_append fs (gs ++ last))) in
        record {
          outcome = subst (λ o. Outcome s n o) (sym e) (joined s p n (first_failing es) (first_failing fs) (first_failing (gs ++ last)) at
              (subst (λ cs. Result functions root (first_failing es) cs) (sym stage) h.result) k.outcome l.outcome);
        }

    -- behind the last part: the last stage, and then the last events
    pub told_end : (s : Site) (n : ℕ) (cs ds : List Condition) (es : List Event) → ((j : ℕ) → n ≤ j → slice_get (parts functions s) j ≡ None) → ((m : ℕ) → suc (suc n) ≤ m → at_moment s m ≡ [])
        → at_moment s n ≡ cs → at_moment s (suc n) ≡ ds → Tells functions root es cs → Tells functions root last ds → Told s n es
    told_end s n cs ds es none done stage size h k =
        let rest : Outcome s (suc (suc n)) None = over in
        record {
          outcome = subst (λ o. Outcome s n o) (sym (fault_append es last))
              (ended s n (first_failing es) (first_failing last) (none n (omega arith)) (subst (λ cs. Result functions root (first_failing es) cs) (sym stage) h.result)
              (subst (λ o. Outcome s (suc n) o) (end_is (first_failing last)) (ended s (suc n) (first_failing last) None (none (suc n) (omega arith))
              (subst (λ cs. Result functions root (first_failing last) cs) (sym size) k.result) rest)));
        }
      where
        end_is : (o : Option Fault) → either_fault o None ≡ o
        end_is None = refl
        end_is (Some f) = refl

        over : (q : Path) (m : ℕ) → FromOn (suc (suc n)) q m → ClearAt s q m
        over [] m a p d = let same : s ≡ p = cc in subst (λ cs. Clear functions root cs) (sym (subst (λ s. at_moment s m ≡ []) same (done m a))) tt
        over (j ∷ q) m a p d = below_none s j (none j (omega (arith, a))) q m p d

    -- a stage that fails for sure: what is behind it isn't judged
    pub told_now : (s : Site) (n : ℕ) (cs : List Condition) (es : List Event) (f : Fault) → at_moment s n ≡ cs → ((later : List Event) → first_failing (es ++ later) ≡ Some f)
        → FirstOf functions root cs f.0 f.1 → Told s n es
    told_now s n cs es f stage fails h =
        record { outcome = subst (λ o. Outcome s n o) (sym (fails last)) (now s n f (subst (λ cs. FirstOf functions root cs f.0 f.1) (sym stage) h)) }
