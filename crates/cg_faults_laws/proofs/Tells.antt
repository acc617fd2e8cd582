-- Events that tell what conditions say: the first of the events that fails is the first of the conditions that does.
use Rattle.std.proofs.Common.{◌≡◌, ◌⊎◌, ℕ, zero, suc, ◌<◌, Bool, true, false, Option, Some, None, List, [], ◌∷◌, ◌++◌, slice_get, inl, inr, ⊎_elim, refl, sym, subst, arith}
use Rattle.cg_base.specs.declared.place.Place.{Place}
use Rattle.cg_core.specs.Kernels.{Function}
use Rattle.cg_faults.specs.Conditions.{Condition, typed, Breaks}
use Rattle.cg_faults.specs.Events.{Event, event, Fault, first_failing}
use Rattle.cg_faults.specs.Rule.{Test}
use Rattle.cg_faults.specs.Sites.{Site}

abbrev pub either_fault : Option Fault → Option Fault → Option Fault
either_fault None b = b
either_fault (Some a) b = Some a

pub fault_append : (es fs : List Event) → first_failing (es ++ fs) ≡ either_fault (first_failing es) (first_failing fs)
fault_append [] fs = refl
fault_append (event t p true ∷ es) fs = fault_append es fs
fault_append (event t p false ∷ es) fs = refl

module _ (functions : List Function) (root : Site) where
  abbrev pub Holds : Condition → Type 0
  Holds c = (t : Test) (p : Place) → Breaks functions root c t p → ⊥

  -- none fails
  abbrev pub Clear : List Condition → Type 0
  Clear [] = Unit {0}
  Clear (c ∷ cs) = Holds c × Clear cs

  -- the first that fails
  abbrev pub FirstOf : List Condition → Test → Place → Type 0
  FirstOf [] t p = ⊥
  FirstOf (c ∷ cs) t p = Breaks functions root c t p ⊎ (Holds c × FirstOf cs t p)

  abbrev pub Result : Option Fault → List Condition → Type 0
  Result None cs = Clear cs
  Result (Some f) cs = FirstOf cs f.0 f.1

  pub record Tells (es : List Event) (cs : List Condition) : Type 0 where
    pub result : Result (first_failing es) cs

  pub clear_append : (cs ds : List Condition) → Clear cs → Clear ds → Clear (cs ++ ds)
  clear_append [] ds h k = k
  clear_append (c ∷ cs) ds h k = (h.0, clear_append cs ds h.1 k)

  first_left : (cs ds : List Condition) (t : Test) (p : Place) → FirstOf cs t p → FirstOf (cs ++ ds) t p
  first_left [] ds t p h = absurd h
  first_left (c ∷ cs) ds t p h = ⊎_elim (λ l. inl l) (λ r. inr (r.0, first_left cs ds t p r.1)) h

  first_right : (cs ds : List Condition) (t : Test) (p : Place) → Clear cs → FirstOf ds t p → FirstOf (cs ++ ds) t p
  first_right [] ds t p h k = k
  first_right (c ∷ cs) ds t p h k = inr (h.0, first_right cs ds t p h.1 k)

  pub result_append : (a b : Option Fault) (cs ds : List Condition) → Result a cs → Result b ds → Result (either_fault a b) (cs ++ ds)
  result_append None None cs ds h k = clear_append cs ds h k
  result_append None (Some f) cs ds h k = first_right cs ds f.0 f.1 h k
  result_append (Some f) b cs ds h k = first_left cs ds f.0 f.1 h

  pub tells_append : (es fs : List Event) (cs ds : List Condition) → Tells es cs → Tells fs ds → Tells (es ++ fs) (cs ++ ds)
  tells_append es fs cs ds h k = record { result = subst (λ o. Result o (cs ++ ds)) (sym (fault_append es fs)) (result_append (first_failing es) (first_failing fs) cs ds h.result k.result) }

  -- a test of plain typing
  pub tells_one : (t : Test) (p : Place) (h : Bool) → Tells (event t p h ∷ []) (typed t p h ∷ [])
  tells_one t p true = record { result = ((λ t p b. let z = b.2 in absurd (cc)), tt) }
  tells_one t p false = record { result = inl (refl, refl, refl) }

  pub tells_cons : (t : Test) (p : Place) (h : Bool) (es : List Event) (cs : List Condition) → Tells es cs → Tells (event t p h ∷ es) (typed t p h ∷ cs)
  tells_cons t p h es cs k = tells_append (event t p h ∷ []) es (typed t p h ∷ []) cs (tells_one t p h) k

  pub tells_nothing : Tells [] []
  tells_nothing = record { result = tt }

  -- as lists with positions
  pub clear_at : (cs : List Condition) (n : ℕ) (c : Condition) → Clear cs → slice_get cs n ≡ Some c → Holds c
  clear_at [] n c h e = absurd (cc)
  clear_at (d ∷ cs) zero c h e = let same : d ≡ c = cc in subst Holds same h.0
  clear_at (d ∷ cs) (suc n) c h e = clear_at cs n c h.1 e

  pub record FirstAt (cs : List Condition) (t : Test) (p : Place) : Type 0 where
    pub number : ℕ
    pub condition : Condition
    pub at : slice_get cs number ≡ Some condition
    pub breaks : Breaks functions root condition t p
    pub earlier : (m : ℕ) → m < number → (d : Condition) → slice_get cs m ≡ Some d → Holds d

  pub first_at : (cs : List Condition) (t : Test) (p : Place) → FirstOf cs t p → FirstAt cs t p
  first_at [] t p h = absurd h
  first_at (c ∷ cs) t p h = ⊎_elim now (λ r. later r.0 (first_at cs t p r.1)) h
    where
      now : Breaks functions root c t p → FirstAt (c ∷ cs) t p
      now b = record { number = 0; condition = c; at = refl; breaks = b; earlier = λ m l d e. absurd (omega (arith, l)) }

      before : Holds c → (f : FirstAt cs t p) → (m : ℕ) → m < suc f.number → (d : Condition) → slice_get (c ∷ cs) m ≡ Some d → Holds d
      before h f zero l d e = let same : c ≡ d = cc in subst Holds same h
      before h f (suc m) l d e = f.earlier m (omega (arith, l)) d e

      later : Holds c → FirstAt cs t p → FirstAt (c ∷ cs) t p
      later h f = record { number = suc f.number; condition = f.condition; at = f.at; breaks = f.breaks; earlier = before h f }
