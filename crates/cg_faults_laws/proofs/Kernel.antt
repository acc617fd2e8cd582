-- The first event that fails, in a lawful kernel, is the first condition that does.
use Rattle.std.proofs.Common.{◌≡◌, ◌⊎◌, ℕ, zero, suc, ◌<◌, Bool, true, false, Option, Some, None, List, [], ◌∷◌, ◌++◌, length, map, slice_get, ⊎_elim, refl, sym, ap, ◌∙◌, subst, arith, flat_map}
use Rattle.std.specs.List.{All}
use Rattle.std.proofs.lemmas.List.Elements.{All-head, All-tail}
use Rattle.cg_base.specs.declared.place.Place.{Place}
use Rattle.cg_core.specs.Kernels.{Function, Body}
use Rattle.cg_core.specs.Terms.{term, unit}
use Rattle.cg_faults.specs.declared.rule.Rule.{Rule}
use Rattle.cg_faults.specs.declared.rule.Rule.TheVariants.{T4, T14}
use Rattle.cg_core_def.specs.Lawful.{IsLawfulFunction, IsLawfulBody, IsLawfulKernel}
use Rattle.cg_typing.specs.Accepted.{IsAcceptedKernel, kinds_of_vars}
use Rattle.cg_faults.specs.Conditions.{Condition, typed, Breaks, scope_conditions}
use Rattle.cg_faults.specs.Events.{Event, event, Fault, RulesHold, first_failing, judged, nowhere, scope_end, events, body_events, function_events, kernel_events}
use Rattle.cg_faults.specs.Fails.{Moment, at_signature, at_node, at_end, MomentBefore, Judged, JudgedBefore, root_of, signature_conditions, site_conditions, FailsInSignature, FailsInBody, FailsInFunction, FailsAt, Fails, AreTypesWithin}
use Rattle.cg_check_laws.specs.Laws.{IsLawfulIn}
use Rattle.cg_typing.specs.Parts.{is_arrow, taken_by, given_by, has_word_arrays}
use Rattle.cg_faults.specs.Rule.{Test, rule, type_limit}
use Rattle.cg_faults.specs.Sites.{Path, argument, Site, down}
use Rattle.cg_check_laws.proofs.Limits.{within_limits}
use Rattle.cg_check_laws.proofs.Main.{kernels}
use Rattle.cg_check_laws.proofs.OneFault.{one_fault, some_is}
use Rattle.cg_faults_laws.specs.Laws.{KernelsAreAcceptedOrAtFault, TypesAreWithin}
use Rattle.cg_faults_laws.proofs.Moments.{ClearFrom, FirstFrom, Outcome, from_first}
use Rattle.cg_faults_laws.proofs.Sizes.{nothing_limits, types_within}
use Rattle.cg_faults_laws.proofs.Standing.{OccurrenceRows}
use Rattle.cg_faults_laws.proofs.Tells.{either_fault, fault_append, Clear, FirstOf, Result, Tells, FirstAt, first_at, clear_at, tells_one, tells_cons}
use Rattle.cg_faults_laws.proofs.Trees.{tells}

-- the rows of occurrences of the bodies among these functions
abbrev pub AllRows : List Function → Type 0
AllRows functions = (f : Function) (body : Body) (types_in : ℕ) → IsLawfulIn functions types_in body.term → OccurrenceRows functions f body types_in

module _ (functions : List Function) (all : AllRows functions) where
  abbrev In : Function → Moment → ℕ → Test → Place → Type 0
  In = FailsInFunction functions

  -- what comes before, in a function
  abbrev Earlier : Moment → ℕ → Moment → ℕ → Type 0
  Earlier m n moment number = MomentBefore m moment ⊎ ((m ≡ moment) × (n < number))

  abbrev ClearIn : Function → Type 0
  ClearIn f = (m : Moment) (n : ℕ) (t : Test) (p : Place) → In f m n t p → ⊥

  record FirstIn (f : Function) (fault : Fault) : Type 0 where
    moment : Moment
    number : ℕ
    fails : In f moment number fault.0 fault.1
    earlier : (m : Moment) (n : ℕ) → Earlier m n moment number → (t : Test) (p : Place) → In f m n t p → ⊥

  abbrev OutcomeIn : Function → Option Fault → Type 0
  OutcomeIn f None = ClearIn f
  OutcomeIn f (Some fault) = FirstIn f fault

  signature_events : Function → List Event
  signature_events f = judged T4 f.ty.place (is_arrow f.ty.ty) ∷ (judged T14 f.ty.place (has_word_arrays f.ty.ty) ∷ [])

  -- the signature's tests are of plain typing, so it is the same where there is no body
  module _ (root : Site) where
    signature_tells : (f : Function) → Tells functions root (signature_events f) (signature_conditions f)
    unfolding signature_events
    signature_tells f = tells_cons functions root (rule T4) f.ty.place _ _ _ (tells_one functions root (rule T14) f.ty.place _)

    typed_is : (tested t : Test) (at p : Place) (holds : Bool) (c : Condition) → typed tested at holds ≡ c → Breaks functions root c t p → c ≡ typed t p false
    typed_is tested t at p holds c e h =
        let b : Breaks functions root (typed tested at holds) t p = subst (λ c. Breaks functions root c t p) (sym e) h in
        let x = b.0 in let y = b.1 in let z = b.2 in cc

    in_signature : (f : Function) (n : ℕ) (t : Test) (p : Place) (c : Condition) → slice_get (signature_conditions f) n ≡ Some c → Breaks functions root c t p → FailsInSignature functions f n t p
    in_signature f zero t p c at h =
        let e : typed (rule T4) f.ty.place (is_arrow f.ty.ty) ≡ c = cc in record { is = at ∙ ap (λ c. Some c) (typed_is (rule T4) t f.ty.place p (is_arrow f.ty.ty) c e h) }
    in_signature f (suc zero) t p c at h =
        let e : typed (rule T14) f.ty.place (has_word_arrays f.ty.ty) ≡ c = cc in record { is = at ∙ ap (λ c. Some c) (typed_is (rule T14) t f.ty.place p (has_word_arrays f.ty.ty) c e h) }
    in_signature f (suc (suc n)) t p c at h = absurd (cc)

    clear_signature : (f : Function) → Clear functions root (signature_conditions f) → (n : ℕ) (t : Test) (p : Place) → FailsInSignature functions f n t p → ⊥
    clear_signature f h n t p b = clear_at functions root (signature_conditions f) n (typed t p false) h b.is t p (refl, refl, refl)

    signature_first : (f : Function) (fault : Fault) → FirstOf functions root (signature_conditions f) fault.0 fault.1 → FirstIn f fault
    signature_first f fault h =
        let at = first_at functions root (signature_conditions f) fault.0 fault.1 h in
        record { moment = at_signature; number = at.number; fails = in_signature f at.number fault.0 fault.1 at.condition at.at at.breaks; earlier = before at }
      where
        before : (a : FirstAt functions root (signature_conditions f) fault.0 fault.1) (m : Moment) (n : ℕ) → Earlier m n at_signature a.number → (t : Test) (p : Place) → In f m n t p → ⊥
        before a at_signature n l t p b =
            ⊎_elim (λ x. x) (λ r. a.earlier n r.1 (typed t p false) b.is t p (refl, refl, refl)) l
        before a (at_node q k) n l t p b = ⊎_elim (λ x. x) (λ r. absurd (let z = r.0 in cc)) l
        before a at_end n l t p b = ⊎_elim (λ x. x) (λ r. absurd (let z = r.0 in cc)) l

  module _ (f : Function) (body : Body) (has : f.body ≡ Some body) where
    abbrev root : Site
    root = root_of f body

    in_body : (m : Moment) (n : ℕ) (t : Test) (p : Place) → FailsInBody functions f f.body m n t p → FailsInBody functions f (Some body) m n t p
    in_body m n t p h = subst (λ o. FailsInBody functions f o m n t p) has h

    to_body : (m : Moment) (n : ℕ) (t : Test) (p : Place) → FailsInBody functions f (Some body) m n t p → FailsInBody functions f f.body m n t p
    to_body m n t p h = subst (λ o. FailsInBody functions f o m n t p) (sym has) h

    abbrev ends : List Condition
    ends = scope_conditions (kinds_of_vars f) body.param (taken_by f.ty.ty) argument

    clear_site : (o : Option Site) (k n : ℕ) (c : Condition) (t : Test) (p : Place) → ((s : Site) → o ≡ Some s → Clear functions root (site_conditions functions f (Some s) k))
        → slice_get (site_conditions functions f o k) n ≡ Some c → Breaks functions root c t p → ⊥
    clear_site None k n c t p h at b = absurd (cc)
    clear_site (Some s) k n c t p h at b = clear_at functions root (site_conditions functions f (Some s) k) n c (h s refl) at t p b

    clear_end : Clear functions root ends → (n : ℕ) (c : Condition) (t : Test) (p : Place) → slice_get ends n ≡ Some c → Breaks functions root c t p → ⊥
    clear_end h n c t p at b = clear_at functions root ends n c h at t p b

    clear_body : Clear functions root (signature_conditions f) → ClearFrom functions root (kinds_of_vars f) root 0 → Clear functions root ends → ClearIn f
    clear_body h k l at_signature n t p b = clear_signature root f h n t p b
    clear_body h k l (at_node q m) n t p b =
        let z = in_body (at_node q m) n t p b in clear_site (down functions (Some root) q) m n z.0 t p (k q m (from_first q m)) z.1 z.2
    clear_body h k l at_end n t p b = let z = in_body at_end n t p b in clear_end l n z.0 t p z.1 z.2

    first_end : (fault : Fault) → Clear functions root (signature_conditions f) → ClearFrom functions root (kinds_of_vars f) root 0 → FirstOf functions root ends fault.0 fault.1 → FirstIn f fault
    first_end fault h k l =
        let at = first_at functions root ends fault.0 fault.1 l in
        record { moment = at_end; number = at.number; fails = to_body at_end at.number fault.0 fault.1 (at.condition, at.at, at.breaks); earlier = before at }
      where
        before : (a : FirstAt functions root ends fault.0 fault.1) (m : Moment) (n : ℕ) → Earlier m n at_end a.number → (t : Test) (p : Place) → In f m n t p → ⊥
        before a at_signature n l t p b = clear_signature root f h n t p b
        before a (at_node q m) n l t p b =
            let z = in_body (at_node q m) n t p b in clear_site (down functions (Some root) q) m n z.0 t p (k q m (from_first q m)) z.1 z.2
        before a at_end n l t p b = ⊎_elim (λ x. x) (λ r. (let z = in_body at_end n t p b in a.earlier n r.1 z.0 z.1 t p z.2)) l

    first_body : (fault : Fault) → Clear functions root (signature_conditions f) → FirstFrom functions root (kinds_of_vars f) root 0 fault → FirstIn f fault
    first_body fault h k =
        let at = first_at functions root (site_conditions functions f (Some k.site) k.moment) fault.0 fault.1 k.fails in
        record {
          moment = at_node k.path k.moment;
          number = at.number;
          fails = to_body (at_node k.path k.moment) at.number fault.0 fault.1
              (at.condition, subst (λ o. slice_get (site_conditions functions f o k.moment) at.number ≡ Some at.condition) (sym k.stands) at.at, at.breaks);
          earlier = before at;
        }
      where
        same : (a : FirstAt functions root (site_conditions functions f (Some k.site) k.moment) fault.0 fault.1) (q : Path) (m n : ℕ) → at_node q m ≡ at_node k.path k.moment → n < a.number
            → (t : Test) (p : Place) → FailsInBody functions f (Some body) (at_node q m) n t p → ⊥
        same a q m n e l t p b =
            let z = subst (λ m. FailsInBody functions f (Some body) m n t p) e b in
            a.earlier n l z.0 (subst (λ o. slice_get (site_conditions functions f o k.moment) n ≡ Some z.0) k.stands z.1) t p z.2

        before : (a : FirstAt functions root (site_conditions functions f (Some k.site) k.moment) fault.0 fault.1) (m : Moment) (n : ℕ) → Earlier m n (at_node k.path k.moment) a.number
            → (t : Test) (p : Place) → In f m n t p → ⊥
        before a at_signature n l t p b = clear_signature root f h n t p b
        before a (at_node q m) n l t p b =
            let z = in_body (at_node q m) n t p b in
            ⊎_elim (λ x. clear_site (down functions (Some root) q) m n z.0 t p (k.earlier q m (from_first q m) x) z.1 z.2) (λ r. same a q m n r.0 r.1 t p z) l
        before a at_end n l t p b = ⊎_elim (λ x. x) (λ r. absurd (let z = r.0 in cc)) l

    body_outcome : (a b c : Option Fault) → Result functions root a (signature_conditions f) → Outcome functions root (kinds_of_vars f) root 0 b → Result functions root c ends
        → OutcomeIn f (either_fault a (either_fault b c))
    body_outcome (Some fault) b c h k l = signature_first root f fault h
    body_outcome None (Some fault) c h k l = first_body fault h k
    body_outcome None None (Some fault) h k l = first_end fault h k l
    body_outcome None None None h k l = clear_body h k l

  -- a site for a function without a body
  nowhere_at : Function → Site
  nowhere_at f = record { path = []; scope = []; direction = None; node = term f.ty.place unit }

  bodiless : (f : Function) (a : Option Fault) → f.body ≡ None → Result functions (nowhere_at f) a (signature_conditions f) → OutcomeIn f (either_fault a None)
  bodiless f (Some fault) has h = signature_first (nowhere_at f) f fault h
  bodiless f None has h = clear
    where
      nothing : (m : Moment) (n : ℕ) (t : Test) (p : Place) → FailsInBody functions f f.body m n t p → ⊥
      nothing m n t p b = subst (λ o. FailsInBody functions f o m n t p) has b

      clear : ClearIn f
      clear at_signature n t p b = clear_signature (nowhere_at f) f h n t p b
      clear (at_node q m) n t p b = nothing (at_node q m) n t p b
      clear at_end n t p b = nothing at_end n t p b

  abbrev Legal : Function → Type 0
  Legal f = IsLawfulFunction (map (λ f. length f.vars) functions) f

  function_outcome : (f : Function) → Legal f → OutcomeIn f (first_failing (function_events functions f))
  unfolding signature_events
  function_outcome f legal = go f.body refl
    where
      go : (o : Option Body) → f.body ≡ o → OutcomeIn f (first_failing (signature_events f ++ body_events functions (kinds_of_vars f) (taken_by f.ty.ty) (given_by f.ty.ty) f.body))
      go None has =
          subst (λ o. OutcomeIn f (first_failing (signature_events f ++ body_events functions (kinds_of_vars f) (taken_by f.ty.ty) (given_by f.ty.ty) o))) (sym has)
          (subst (λ o. OutcomeIn f o) (sym (fault_append (signature_events f) [])) (bodiless f (first_failing (signature_events f)) has (signature_tells (nowhere_at f) f).result))
      go (Some body) has =
          let lawful : IsLawfulIn functions (length f.vars) body.term = subst (λ o. IsLawfulBody (map (λ f. length f.vars) functions) (length f.vars) o) has legal.body in
          let rows = all f body (length f.vars) lawful in
          let es = events functions (kinds_of_vars f) (taken_by f.ty.ty ∷ []) nowhere (Some (given_by f.ty.ty)) body.term in
          let last = scope_end functions (kinds_of_vars f) 0 body.param (taken_by f.ty.ty) body.term in
          subst (λ o. OutcomeIn f (first_failing (signature_events f ++ body_events functions (kinds_of_vars f) (taken_by f.ty.ty) (given_by f.ty.ty) o))) (sym has)
          (subst (λ o. OutcomeIn f o)
          (sym (fault_append (signature_events f) (es ++ last) ∙ ap (λ o. either_fault (first_failing (signature_events f)) o) (fault_append es last)))
          (body_outcome f body has (first_failing (signature_events f)) (first_failing es) (first_failing last) (signature_tells (root_of f body) f).result
          (tells functions f body (length f.vars) rows body.term [] (root_of f body).scope (Some (given_by f.ty.ty)) nowhere rows.root_stands).outcome
          (rows.tells_argument body.param (taken_by f.ty.ty)).result))

  -- ---- the functions in order

  record FirstAmong (fs : List Function) (fault : Fault) : Type 0 where
    index : ℕ
    function : Function
    is : slice_get fs index ≡ Some function
    fails : FirstIn function fault
    earlier : (i : ℕ) (g : Function) → i < index → slice_get fs i ≡ Some g → ClearIn g

  abbrev ClearAmong : List Function → Type 0
  ClearAmong fs = (i : ℕ) (g : Function) → slice_get fs i ≡ Some g → ClearIn g

  abbrev OutcomeAmong : List Function → Option Fault → Type 0
  OutcomeAmong fs None = ClearAmong fs
  OutcomeAmong fs (Some fault) = FirstAmong fs fault

  with_first : (f : Function) (fs : List Function) (fault : Fault) → ClearIn f → FirstAmong fs fault → FirstAmong (f ∷ fs) fault
  with_first f fs fault h k = record { index = suc k.index; function = k.function; is = k.is; fails = k.fails; earlier = before }
    where
      before : (i : ℕ) (g : Function) → i < suc k.index → slice_get (f ∷ fs) i ≡ Some g → ClearIn g
      before zero g l e = let same : f ≡ g = cc in subst (λ f. ClearIn f) same h
      before (suc i) g l e = k.earlier i g (omega (arith, l)) e

  joined_functions : (f : Function) (fs : List Function) (a b : Option Fault) → OutcomeIn f a → OutcomeAmong fs b → OutcomeAmong (f ∷ fs) (either_fault a b)
  joined_functions f fs (Some fault) b h k = record { index = 0; function = f; is = refl; fails = h; earlier = λ i g l e. absurd (omega (arith, l)) }
  joined_functions f fs None (Some fault) h k = with_first f fs fault h k
  joined_functions f fs None None h k = clear
    where
      clear : ClearAmong (f ∷ fs)
      clear zero g e = let same : f ≡ g = cc in subst (λ f. ClearIn f) same h
      clear (suc i) g e = k i g e

  among_functions : (fs : List Function) → All Legal fs → OutcomeAmong fs (first_failing (flat_map (function_events functions) fs))
  among_functions [] legal = λ i g e. absurd (cc)
  among_functions (f ∷ fs) legal =
      subst (λ o. OutcomeAmong (f ∷ fs) o) (sym (fault_append (function_events functions f) (flat_map (function_events functions) fs)))
      (joined_functions f fs (first_failing (function_events functions f)) (first_failing (flat_map (function_events functions) fs)) (function_outcome f (All-head Legal f fs legal)) (among_functions fs (All-tail Legal f fs legal)))

  kernel_first : (fault : Fault) → FirstAmong functions fault → Fails functions fault.0 fault.1
  kernel_first fault h =
      record {
        judged = record { fun = h.index; moment = h.fails.moment; number = h.fails.number };
        fails = record { function = h.function; is = h.is; fails = h.fails.fails };
        first = before;
      }
    where
      before : (other : Judged) → JudgedBefore other (record { fun = h.index; moment = h.fails.moment; number = h.fails.number }) → (t : Test) (p : Place) → FailsAt functions other t p → ⊥
      before other l t p b =
          ⊎_elim (λ x. h.earlier other.fun b.function x b.is other.moment other.number t p b.fails)
          (λ r. (let same : b.function ≡ h.function = some_is (slice_get functions h.index) b.function h.function (subst (λ i. slice_get functions i ≡ Some b.function) r.0 b.is) h.is in
          h.fails.earlier other.moment other.number r.1 t p (subst (λ f. In f other.moment other.number t p) same b.fails))) l

  -- what fails first, if anything
  abbrev pub KernelOutcome : Option Fault → Type 0
  KernelOutcome None = (judged : Judged) (t : Test) (p : Place) → FailsAt functions judged t p → ⊥
  KernelOutcome (Some fault) = Fails functions fault.0 fault.1

  kernel_outcome : (o : Option Fault) → OutcomeAmong functions o → KernelOutcome o
  kernel_outcome None h = λ judged t p b. h judged.fun b.function b.is judged.moment judged.number t p b.fails
  kernel_outcome (Some fault) h = kernel_first fault h

  pub kernel_fault : IsLawfulKernel functions → KernelOutcome (first_failing (kernel_events functions))
  kernel_fault lawful = kernel_outcome (first_failing (kernel_events functions)) (among_functions functions lawful.functions_stand)

-- ---- the law

-- the test of a fault
test_of : Test → Option Fault → Test
test_of t None = t
test_of t (Some fault) = fault.0

-- where every rule holds that is judged, none fails
no_rule_fails : (xs : List Event) (r : Rule) (p : Place) → RulesHold xs → first_failing xs ≡ Some (rule r, p) → ⊥
unfolding test_of
no_rule_fails [] r p h e = absurd (cc)
no_rule_fails (event test q true ∷ xs) r p h e = no_rule_fails xs r p h.1 e
no_rule_fails (event (rule s) q false ∷ xs) r p h e = absurd (let z = h.0 in cc)
no_rule_fails (event type_limit q false ∷ xs) r p h e = absurd (let limit : type_limit ≡ rule r = ap (test_of type_limit) e in cc)

module _ (functions : List Function) (all : AllRows functions) (lawful : IsLawfulKernel functions) where
  outcome : (o : Option Fault) → first_failing (kernel_events functions) ≡ o → KernelOutcome functions all o
  outcome o e = subst (λ o. KernelOutcome functions all o) e (kernel_fault functions all lawful)

  named : (t : Test) (p : Place) → Fails functions t p → first_failing (kernel_events functions) ≡ Some (t, p)
  named t p h = go (first_failing (kernel_events functions)) refl
    where
      go : (o : Option Fault) → first_failing (kernel_events functions) ≡ o → first_failing (kernel_events functions) ≡ Some (t, p)
      go None e = absurd (outcome None e h.judged t p h.fails)
      go (Some (u, q)) e = let one = one_fault functions u t q p (outcome (Some (u, q)) e) h in e ∙ (ap (λ u. Some (u, q)) one.0 ∙ ap (λ q. Some (t, q)) one.1)

  no_event : ((judged : Judged) (t : Test) (p : Place) → FailsAt functions judged t p → ⊥) → first_failing (kernel_events functions) ≡ None
  no_event h = go (first_failing (kernel_events functions)) refl
    where
      go : (o : Option Fault) → first_failing (kernel_events functions) ≡ o → first_failing (kernel_events functions) ≡ None
      go None e = e
      go (Some (u, q)) e = let fault = outcome (Some (u, q)) e in absurd (h fault.judged u q fault.fails)

  accepted_within : first_failing (kernel_events functions) ≡ None → IsAcceptedKernel functions × AreTypesWithin functions
  accepted_within e = (((within_limits functions lawful).0 e).0, types_within functions (outcome None e))

  no_test : IsAcceptedKernel functions → AreTypesWithin functions → first_failing (kernel_events functions) ≡ None
  no_test accepted within = go (first_failing (kernel_events functions)) refl
    where
      go : (o : Option Fault) → first_failing (kernel_events functions) ≡ o → first_failing (kernel_events functions) ≡ None
      go None e = e
      go (Some (rule r, p)) e = absurd (no_rule_fails (kernel_events functions) r p ((kernels functions lawful).1 accepted) e)
      go (Some (type_limit, p)) e = let fault = outcome (Some (type_limit, p)) e in absurd (nothing_limits functions within fault.judged p fault.fails)

pub kernels_are_accepted_or_at_fault : ((functions : List Function) → AllRows functions) → KernelsAreAcceptedOrAtFault
kernels_are_accepted_or_at_fault all =
    record {
      accepted = λ functions lawful. (accepted_within functions (all functions) lawful, λ h. no_test functions (all functions) lawful h.0 h.1);
      fault = λ functions lawful t p. (λ e. outcome functions (all functions) lawful (Some (t, p)) e, λ h. named functions (all functions) lawful t p h);
      faultless = λ functions lawful. (λ e. outcome functions (all functions) lawful None e, λ h. no_event functions (all functions) lawful h);
    }

pub types_are_within : KernelsAreAcceptedOrAtFault → TypesAreWithin
types_are_within law functions lawful accepted =
    (λ h. ((law.accepted functions lawful).0 ((within_limits functions lawful).1 (accepted, h))).1, λ h. ((within_limits functions lawful).0 ((law.accepted functions lawful).1 (accepted, h))).1)
