-- Steps over the items of a program.
use Rattle.std.proofs.Common.{◌≡◌, ℕ, zero, suc, ◌+◌, ◌<◌, ◌≤◌, Bool, ◌||◌, not, Result, List, [], ◌∷◌, ◌++◌, length, get_or, take, drop, drop-cons, sym, ap, ◌∙◌, subst, refl, arith, add-one, append-nil, append_assoc, if◌then◌else◌}
use Rattle.std.proofs.lemmas.List.{map-append, take_more, take-append-drop}
use Rattle.std.specs.Str.{bytes_eq}
use Rattle.cg_base.specs.declared.kind.Bound.{Bound}
use Rattle.cg_base.specs.declared.place.Place.{Place}
use Rattle.cg_core.specs.declared.at.At.{At}
use Rattle.cg_surface.specs.declared.program.Item.{Item}
use Rattle.cg_surface.specs.Exprs.{Expr}
use Rattle.cg_surface.specs.Patterns.{Pattern}
use Rattle.cg_surface.specs.Programs.{Entry, entry_of}
use Rattle.cg_surface.specs.Written.{Written}
use Rattle.cg_resolve_def.specs.Declared.{is_among}
use Rattle.cg_resolve_def.specs.Faults.{NameFault, again, twins, names_of, ats_of, var_names, bound, pattern_faults, type_faults, expr_faults, Before, declared_with, entry_faults, faults_from}
use Rattle.cg_resolve_declared.specs.Views.{entries_in}
use Rattle.cg_resolve_declared.proofs.Firsts.{entries_more}
use Rattle.cg_resolve_names.specs.Behind.{declared_before}
use Rattle.cg_resolve_names.specs.Says.{Says, IsFirstFault}
use Rattle.cg_resolve_names.specs.Scopes.{SameNames}
use Rattle.cg_resolve_names.specs.declared.fault.NamingFault.{NamingFault}
use Rattle.cg_resolve_names.proofs.PatternSteps.{twins_append}
use Rattle.cg_resolve_names.proofs.Same.{expr_same, type_same}
use Rattle.cg_resolve_names.proofs.SaysSteps.{says_first, says_second}
use Rattle.cg_resolve_names.proofs.ScopeSteps.{entered}
use Rattle.cg_resolve_names.proofs.TypeSteps.{again_same, same_more}

-- ---- names that have to be apart

-- one behind others
twins_one : (ats : List At) (at : At) → twins [] ats ≡ [] → twins [] (ats ++ at ∷ []) ≡ again (names_of ats) at.place at.name
twins_one ats at none = twins_append [] ats (at ∷ []) ∙ ap (λ l. l ++ (again (names_of ats) at.place at.name ++ [])) none ∙ append-nil (again (names_of ats) at.place at.name)

module _ (ats : List At) (at : At) (later : List At) (none : twins [] ats ≡ []) (scope : List (List ℕ)) (scope_is : scope ≡ names_of ats) where
  pub apart_fault : (first : NamingFault) → IsFirstFault (again scope at.place at.name) first → IsFirstFault (twins [] ((ats ++ at ∷ []) ++ later)) first
  apart_fault first h =
      subst (λ l. IsFirstFault l first) (sym (twins_append [] (ats ++ at ∷ []) later))
      (says_first (twins [] (ats ++ at ∷ [])) (twins (names_of (ats ++ at ∷ [])) later) first
      (subst (λ l. IsFirstFault l first) (ap (λ names. again names at.place at.name) scope_is ∙ sym (twins_one ats at none)) h))

  pub apart_turn : again scope at.place at.name ≡ [] → twins [] (ats ++ at ∷ []) ≡ []
  apart_turn no_more = twins_one ats at none ∙ ap (λ names. again names at.place at.name) (sym scope_is) ∙ no_more

  pub apart_names : (new : List (List ℕ)) → new ≡ scope ++ at.name ∷ [] → new ≡ names_of (ats ++ at ∷ [])
  apart_names new new_is = new_is ∙ ap (λ l. l ++ at.name ∷ []) scope_is ∙ sym (map-append (λ x. x.name) ats (at ∷ []))

-- a turn of the loop over parameters
module _ (items : List At) (i : ℕ) (x : At) (within : i < length items) (is : x ≡ get_or items i x) (none : twins [] (take i items) ≡ []) (scope : List (List ℕ)) (scope_is : scope ≡ names_of (take i items)) where
  split : items ≡ (take i items ++ x ∷ []) ++ drop (i + 1) items
  split = sym (take-append-drop (i + 1) items) ∙ ap (λ l. l ++ drop (i + 1) items) (take_more items i x within ∙ ap (λ y. take i items ++ y ∷ []) (sym is))

  one_more : take (i + 1) items ≡ take i items ++ x ∷ []
  one_more = take_more items i x within ∙ ap (λ y. take i items ++ y ∷ []) (sym is)

  pub params_fault : (first : NamingFault) → IsFirstFault (again scope x.place x.name) first → IsFirstFault (twins [] items) first
  params_fault first h = subst (λ l. IsFirstFault (twins [] l) first) (sym split) (apart_fault (take i items) x (drop (i + 1) items) none scope scope_is first h)

  pub params_turn : again scope x.place x.name ≡ [] → twins [] (take (i + 1) items) ≡ []
  params_turn no_more = ap (twins []) one_more ∙ apart_turn (take i items) x [] none scope scope_is no_more

  pub params_names : (new : List (List ℕ)) → new ≡ scope ++ x.name ∷ [] → new ≡ names_of (take (i + 1) items)
  params_names new new_is = apart_names (take i items) x [] none scope scope_is new new_is ∙ ap names_of (sym one_more)

-- ---- type variables

-- an item of a list is one for itself as the default
pub own : {A : Type 0} (items : List A) (i : ℕ) (d : A) → i < length items → get_or items i d ≡ get_or items i (get_or items i d)
own [] i d within = absurd (omega arith)
own (x ∷ items) zero d within = refl
own (x ∷ items) (suc i) d within = own items i d (omega arith)

ats_more : (vars : List Bound) (places : List Place) (i : ℕ) (v : Bound) (p : Place) → i < length vars → v ≡ get_or vars i v → i < length places → p ≡ get_or places i p
    → ats_of (take (suc i) vars) (take (suc i) places) ≡ ats_of (take i vars) (take i places) ++ record { place = p; name = v.name } ∷ []
ats_more [] places i v p within is within' is' = absurd (omega arith)
ats_more (w ∷ vars) [] i v p within is within' is' = absurd (omega arith)
ats_more (w ∷ vars) (q ∷ places) zero v p within is within' is' = ap (λ x. record { place = q; name = x.name } ∷ []) (sym is) ∙ ap (λ x. record { place = x; name = v.name } ∷ []) (sym is')
ats_more (w ∷ vars) (q ∷ places) (suc i) v p within is within' is' = ap (λ l. record { place = q; name = w.name } ∷ l) (ats_more vars places i v p (omega arith) is (omega arith) is')

ats_over : (vars : List Bound) (places : List Place) (i : ℕ) → length places ≤ i → ats_of (take (suc i) vars) (take (suc i) places) ≡ ats_of (take i vars) (take i places)
ats_over [] places i over = nothing (take (suc i) places) (take i places) i
  where
    none : (places : List Place) (i : ℕ) → ats_of (take i []) places ≡ []
    none places zero = refl
    none places (suc i) = refl

    nothing : (some others : List Place) (i : ℕ) → ats_of (take (suc i) []) some ≡ ats_of (take i []) others
    nothing some others i = none some (suc i) ∙ sym (none others i)
ats_over (w ∷ vars) [] zero over = refl
ats_over (w ∷ vars) [] (suc i) over = refl
ats_over (w ∷ vars) (q ∷ places) zero over = absurd (omega arith)
ats_over (w ∷ vars) (q ∷ places) (suc i) over = ap (λ l. record { place = q; name = w.name } ∷ l) (ats_over vars places i (omega arith))

ats_prefix : (vars : List Bound) (places : List Place) (j : ℕ) → (later : List At) × (ats_of vars places ≡ ats_of (take j vars) (take j places) ++ later)
ats_prefix vars places zero = (ats_of vars places, refl)
ats_prefix [] places (suc j) = ([], refl)
ats_prefix (w ∷ vars) [] (suc j) = ([], refl)
ats_prefix (w ∷ vars) (q ∷ places) (suc j) = let more = ats_prefix vars places j in (more.0, ap (λ l. record { place = q; name = w.name } ∷ l) more.1)

pub ats_all : (vars : List Bound) (places : List Place) (j : ℕ) → length vars ≤ j → ats_of (take j vars) (take j places) ≡ ats_of vars places
ats_all [] places zero over = refl
ats_all [] places (suc j) over = refl
ats_all (w ∷ vars) places zero over = absurd (omega arith)
ats_all (w ∷ vars) [] (suc j) over = refl
ats_all (w ∷ vars) (q ∷ places) (suc j) over = ap (λ l. record { place = q; name = w.name } ∷ l) (ats_all vars places j (omega arith))

-- a turn of the loop over type variables at their places
module _ (vars : List Bound) (places : List Place) (i : ℕ) (none : twins [] (ats_of (take i vars) (take i places)) ≡ []) (scope : List (List ℕ)) (scope_is : scope ≡ names_of (ats_of (take i vars) (take i places))) where
  next_at : ats_of (take (i + 1) vars) (take (i + 1) places) ≡ ats_of (take (suc i) vars) (take (suc i) places)
  next_at = ap (λ n. ats_of (take n vars) (take n places)) (add-one i)

  one_more_at : (v : Bound) (p : Place) → i < length vars → v ≡ get_or vars i v → i < length places → p ≡ get_or places i p
      → ats_of (take (i + 1) vars) (take (i + 1) places) ≡ ats_of (take i vars) (take i places) ++ record { place = p; name = v.name } ∷ []
  one_more_at v p within is within' is' = next_at ∙ ats_more vars places i v p within is within' is'

  module _ (v : Bound) (p : Place) (within : i < length vars) (is : v ≡ get_or vars i v) (within' : i < length places) (is' : p ≡ get_or places i p) where
    pub placed_fault : (first : NamingFault) → IsFirstFault (again scope p v.name) first → IsFirstFault (twins [] (ats_of vars places)) first
    placed_fault first h =
        let rest = ats_prefix vars places (i + 1) in
        subst (λ l. IsFirstFault (twins [] l) first) (sym (rest.1 ∙ ap (λ l. l ++ rest.0) (one_more_at v p within is within' is')))
        (apart_fault (ats_of (take i vars) (take i places)) (record { place = p; name = v.name }) rest.0 none scope scope_is first h)

    pub placed_turn : (new : List (List ℕ)) → again scope p v.name ≡ [] → new ≡ scope ++ v.name ∷ []
        → (twins [] (ats_of (take (i + 1) vars) (take (i + 1) places)) ≡ []) × (new ≡ names_of (ats_of (take (i + 1) vars) (take (i + 1) places)))
    placed_turn new no_more new_is = (
      ap (twins []) (one_more_at v p within is within' is') ∙ apart_turn (ats_of (take i vars) (take i places)) (record { place = p; name = v.name }) [] none scope scope_is no_more,
      apart_names (ats_of (take i vars) (take i places)) (record { place = p; name = v.name }) [] none scope scope_is new new_is ∙ ap names_of (sym (one_more_at v p within is within' is')),
    )

  pub unplaced_turn : length places ≤ i → (twins [] (ats_of (take (i + 1) vars) (take (i + 1) places)) ≡ []) × (scope ≡ names_of (ats_of (take (i + 1) vars) (take (i + 1) places)))
  unplaced_turn over = (ap (twins []) (next_at ∙ ats_over vars places i over) ∙ none, scope_is ∙ ap names_of (sym (next_at ∙ ats_over vars places i over)))

-- a turn of the loop over type variables
pub vars_turn : (items : List Bound) (i : ℕ) (x : Bound) → i < length items → x ≡ get_or items i x → (scope new : List (List ℕ)) (b : Bool) → b ≡ not (is_among scope x.name)
    → new ≡ scope ++ (if b then x.name ∷ [] else []) → SameNames scope (var_names (take i items)) → SameNames new (var_names (take (i + 1) items))
vars_turn items i x within is scope new b b_is new_is same = λ n.
    entered scope new (record { ref_ptr = (0, 0); now = x.name }) b b_is new_is n
    ∙ ap (λ c. bytes_eq n x.name || c) (same n)
    ∙ sym (same_more (var_names (take i items)) (var_names (take i items)) x.name (λ m. refl) n)
    ∙ ap (λ l. is_among l n) (sym (ap var_names (take_more items i x within ∙ ap (λ y. take i items ++ y ∷ []) (sym is)) ∙ map-append (λ v. v.name) (take i items) (x ∷ [])))

-- a definition's body, among type variables of the same names
pub definition_says : (entries : List Entry) (vars others scope : List (List ℕ)) (x : Pattern) (e : Expr) (result : Result Unit NamingFault) → pattern_faults x ≡ [] → scope ≡ bound x → SameNames vars others
    → Says (expr_faults entries vars scope e) result → Says (pattern_faults x ++ expr_faults entries others (bound x) e) result
definition_says entries vars others scope x e result none is same says =
    says_second (pattern_faults x) (expr_faults entries others (bound x) e) result none
    (subst (λ l. Says l result) (ap (λ l. expr_faults entries vars l e) is ∙ expr_same entries vars others same (bound x) (bound x) (λ n. refl) e) says)

-- the type of a signature, among type variables of the same names
pub signature_says : (entries : List Entry) (vars others : List (List ℕ)) (front : List NameFault) (t : Written) (result : Result Unit NamingFault) → front ≡ [] → SameNames vars others
    → Says (type_faults entries vars t) result → Says (front ++ type_faults entries others t) result
signature_says entries vars others front t result none same says =
    says_second front (type_faults entries others t) result none (subst (λ l. Says l result) (type_same entries vars others same t) says)

-- ---- what is declared behind

-- one name more, behind others
pub behind_more : (front names new others : List (List ℕ)) (m : List ℕ) → new ≡ names ++ m ∷ [] → SameNames (front ++ names) others → SameNames (front ++ new) (m ∷ others)
behind_more front names new others m new_is same =
    subst (λ l. SameNames l (m ∷ others)) (append_assoc front names (m ∷ []) ∙ ap (λ l. front ++ l) (sym new_is)) (same_more (front ++ names) others m same)

-- ---- the loop over items

pub before_more : (before : Before) (front : List Entry) (e : Entry) → declared_before before (front ++ e ∷ []) ≡ declared_with (declared_before before front) e
before_more before [] e = refl
before_more before (first ∷ front) e = before_more (declared_with before first) front e

module _ (entries : List Entry) (start : Before) (items : List Item) (i : ℕ) (x : Item) (within : i < length items) (is : x ≡ get_or items i x) where
  abbrev before : Before
  before = declared_before start (entries_in (take i items))

  rest : entries_in (drop i items) ≡ entry_of x ∷ entries_in (drop (suc i) items)
  rest = ap entries_in (drop-cons items i x within) ∙ ap (λ y. entry_of y ∷ entries_in (drop (suc i) items)) (sym is)

  pub before_turn : declared_before start (entries_in (take (i + 1) items)) ≡ declared_with (declared_before start (entries_in (take i items))) (entry_of x)
  before_turn =
      ap (declared_before start) (entries_more items i x within ∙ ap (λ y. entries_in (take i items) ++ entry_of y ∷ []) (sym is))
      ∙ before_more start (entries_in (take i items)) (entry_of x)

  pub items_turn : (whole : List NameFault) → whole ≡ faults_from entries before (entries_in (drop i items)) → entry_faults entries before (entry_of x) ≡ []
      → whole ≡ faults_from entries (declared_before start (entries_in (take (i + 1) items))) (entries_in (drop (i + 1) items))
  items_turn whole so_far none =
      so_far
      ∙ ap (faults_from entries before) rest
      ∙ ap (λ l. l ++ faults_from entries (declared_with before (entry_of x)) (entries_in (drop (suc i) items))) none
      ∙ ap (λ b. faults_from entries b (entries_in (drop (suc i) items))) (sym before_turn)
      ∙ ap (λ n. faults_from entries (declared_before start (entries_in (take (i + 1) items))) (entries_in (drop n items))) (sym (add-one i))

  pub items_fault : (whole : List NameFault) (first : NamingFault) → whole ≡ faults_from entries before (entries_in (drop i items)) → IsFirstFault (entry_faults entries before (entry_of x)) first → IsFirstFault whole first
  items_fault whole first so_far h = subst (λ l. IsFirstFault l first) (sym (so_far ∙ ap (faults_from entries before) rest)) (says_first _ _ first h)

pub ruleset item_steps = (again_same)
