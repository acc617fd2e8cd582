-- Steps over the parts of expressions.
use Rattle.std.proofs.Common.{◌≡◌, ℕ, ◌+◌, ◌<◌, true, false, List, [], ◌∷◌, ◌++◌, map, length, get_or, take, drop, Result, Ok, Err, Bool, sym, ap, ◌∙◌, subst, refl, append_assoc, if◌then◌else◌}
use Rattle.std.specs.Prelude.{⊤, OnOk, OnErr}
use Rattle.std.proofs.lemmas.List.{take-append-drop, take_more}
use Rattle.cg_resolve_def.specs.Declared.{is_among}
use Rattle.cg_base.specs.declared.place.Place.{Place}
use Rattle.cg_base.specs.Places.{is_at}
use Rattle.cg_core.specs.declared.at.At.{At}
use Rattle.cg_surface.specs.declared.written.STy.{STy}
use Rattle.cg_surface.specs.Exprs as exprs
use Rattle.cg_surface.specs.Programs.{Entry}
use Rattle.cg_surface.specs.Written.{written_of, to_types}
use Rattle.cg_resolve_def.specs.Expand.{types_length}
use Rattle.cg_resolve_def.specs.Faults.{NameFault, unknown, twice, arguments, again, field_with, seen_faults, types_faults, mention_faults, expr_faults}
use Rattle.cg_resolve_def.proofs.TypesCounted.{types_counted}
use Rattle.cg_resolve_names.specs.Parts.{fault_again}
use Rattle.cg_resolve_names.specs.Says.{GoesOn, IsFirst, IsFirstFault, Says}
use Rattle.cg_resolve_names.specs.Scopes.{SameNames}
use Rattle.cg_resolve_names.specs.declared.fault.NamingFault.{NamingFault}
use Rattle.cg_resolve_names.specs.declared.fault.NamingFault.TheVariants.{N1, N2, N4, Memory}
use Rattle.cg_resolve_names.proofs.GoesOn.{goes_none}
use Rattle.cg_resolve_names.proofs.SaysSteps.{says_first}
use Rattle.cg_resolve_names.proofs.TypeSteps.{again_same}

-- observed variables, some behind others
seen_append : (names : List (List ℕ)) (ats later : List At) → seen_faults names (ats ++ later) ≡ seen_faults names ats ++ seen_faults names later
seen_append names [] later = refl
seen_append names (first ∷ ats) later =
    ap (λ l. (if is_among names first.name then [] else unknown first.place ∷ []) ++ l) (seen_append names ats later)
    ∙ sym (append_assoc (if is_among names first.name then [] else unknown first.place ∷ []) (seen_faults names ats) (seen_faults names later))

module _ (names : List (List ℕ)) (items : List At) (i : ℕ) (x : At) (within : i < length items) (is : x ≡ get_or items i x) (none : seen_faults names (take i items) ≡ []) where
  seen_so_far : seen_faults names (take (i + 1) items) ≡ seen_faults names (x ∷ [])
  seen_so_far =
      ap (seen_faults names) (take_more items i x within ∙ ap (λ y. take i items ++ y ∷ []) (sym is)) ∙ seen_append names (take i items) (x ∷ []) ∙ ap (λ l. l ++ seen_faults names (x ∷ [])) none

  pub seen_turn : is_among names x.name ≡ true → seen_faults names (take (i + 1) items) ≡ []
  seen_turn h = seen_so_far ∙ ap (λ b. (if b then [] else unknown x.place ∷ []) ++ []) h

  pub seen_fault : is_among names x.name ≡ false → IsFirstFault (seen_faults names items) (N1 x.place)
  seen_fault h =
      subst (λ l. IsFirstFault l (N1 x.place))
      (sym (ap (seen_faults names) (sym (take-append-drop (i + 1) items)) ∙ seen_append names (take (i + 1) items) (drop (i + 1) items)))
      (says_first (seen_faults names (take (i + 1) items)) (seen_faults names (drop (i + 1) items)) (N1 x.place)
      (subst (λ l. IsFirstFault l (N1 x.place)) (sym (seen_so_far ∙ ap (λ b. (if b then [] else unknown x.place ∷ []) ++ []) h)) refl))

-- a fault of a name comes before those of its type arguments
pub mention_first : (entries : List Entry) (vars names : List (List ℕ)) (p : Place) (n : List ℕ) (args : List STy) (first : NamingFault) → IsFirstFault (mention_faults entries names p n (length args)) first
    → IsFirstFault (expr_faults entries vars names (exprs.name p n (to_types (map written_of args)))) first
mention_first entries vars names p n args first h =
    says_first (mention_faults entries names p n (types_length (to_types (map written_of args)))) (types_faults entries vars (to_types (map written_of args))) first
    (subst (λ k. IsFirstFault (mention_faults entries names p n k) first) (sym (types_counted args)) h)

-- ---- a field of a record

-- behind the same names, in any order
pub field_same : (before others : List (List ℕ)) (at : At) (faults : List NameFault) → SameNames before others → field_with before at faults ≡ field_with others at faults
field_same before others at [] same = again_same before others at.place at.name same
field_same before others at (unknown p ∷ later) same =
    ap (λ l. if is_at p at.place then unknown p ∷ l ++ later else l ++ unknown p ∷ later) (again_same before others at.place at.name same)
field_same before others at (twice p ∷ later) same = ap (λ l. l ++ twice p ∷ later) (again_same before others at.place at.name same)
field_same before others at (arguments p ∷ later) same = ap (λ l. l ++ arguments p ∷ later) (again_same before others at.place at.name same)

-- one that is new has the faults of its value
pub field_new : (before : List (List ℕ)) (at : At) (faults : List NameFault) → is_among before at.name ≡ false → field_with before at faults ≡ faults
field_new before at faults new = at_fault faults (ap (λ b. if b then twice at.place ∷ [] else []) new)
  where
    either : (b : Bool) (l : List NameFault) → (if b then l else l) ≡ l
    either true l = refl
    either false l = refl

    at_fault : (faults : List NameFault) → again before at.place at.name ≡ [] → field_with before at faults ≡ faults
    at_fault [] none = none
    at_fault (unknown p ∷ later) none = ap (λ l. if is_at p at.place then unknown p ∷ l ++ later else l ++ unknown p ∷ later) none ∙ either (is_at p at.place) (unknown p ∷ later)
    at_fault (twice p ∷ later) none = ap (λ l. l ++ twice p ∷ later) none
    at_fault (arguments p ∷ later) none = ap (λ l. l ++ arguments p ∷ later) none

-- one that isn't has a fault, by what a search in its value answers
pub field_again : (before : List (List ℕ)) (at : At) (faults : List NameFault) (value : Result ⊤ NamingFault) → is_among before at.name ≡ true → Says faults value
    → IsFirstFault (field_with before at faults) (fault_again at.place value)
field_again before at faults value old says = first faults value says
  where
    second : (later : List NameFault) → IsFirst (twice at.place) (again before at.place at.name ++ later)
    second later = subst (λ b. IsFirst (twice at.place) ((if b then twice at.place ∷ [] else []) ++ later)) (sym old) refl

    alone : IsFirst (twice at.place) (again before at.place at.name)
    alone = subst (λ b. IsFirst (twice at.place) (if b then twice at.place ∷ [] else [])) (sym old) refl

    unknown_first : (p : Place) (later : List NameFault) (b : Bool) → is_at p at.place ≡ b → IsFirstFault (field_with before at (unknown p ∷ later)) (if b then N1 p else N2 at.place)
    unknown_first p later true is = subst (λ b. IsFirst (unknown p) (if b then unknown p ∷ again before at.place at.name ++ later else again before at.place at.name ++ unknown p ∷ later)) (sym is) refl
    unknown_first p later false is =
        subst (λ b. IsFirst (twice at.place) (if b then unknown p ∷ again before at.place at.name ++ later else again before at.place at.name ++ unknown p ∷ later)) (sym is) (second (unknown p ∷ later))

    place_in : NameFault → Place
    place_in (unknown p) = p
    place_in (twice p) = p
    place_in (arguments p) = p

    first : (faults : List NameFault) (value : Result ⊤ NamingFault) → Says faults value → IsFirstFault (field_with before at faults) (fault_again at.place value)
    first [] (Ok done) says = alone
    first [] (Err (N1 p)) says = absurd says
    first [] (Err (N2 p)) says = alone
    first [] (Err (N4 p)) says = alone
    first [] (Err Memory) says = tt
    first (unknown p ∷ later) (Ok done) says = absurd (cc)
    first (unknown p ∷ later) (Err (N1 q)) says =
        subst (λ r. IsFirstFault (field_with before at (unknown p ∷ later)) (if is_at r at.place then N1 r else N2 at.place)) (ap place_in says) (unknown_first p later (is_at p at.place) refl)
    first (unknown p ∷ later) (Err (N2 q)) says = absurd (cc)
    first (unknown p ∷ later) (Err (N4 q)) says = absurd (cc)
    first (unknown p ∷ later) (Err Memory) says = tt
    first (twice p ∷ later) (Ok done) says = absurd (cc)
    first (twice p ∷ later) (Err (N1 q)) says = absurd (cc)
    first (twice p ∷ later) (Err (N2 q)) says = second (twice p ∷ later)
    first (twice p ∷ later) (Err (N4 q)) says = second (twice p ∷ later)
    first (twice p ∷ later) (Err Memory) says = tt
    first (arguments p ∷ later) (Ok done) says = absurd (cc)
    first (arguments p ∷ later) (Err (N1 q)) says = absurd (cc)
    first (arguments p ∷ later) (Err (N2 q)) says = second (arguments p ∷ later)
    first (arguments p ∷ later) (Err (N4 q)) says = second (arguments p ∷ later)
    first (arguments p ∷ later) (Err Memory) says = tt

-- where a fault was found before, it stays
module _ (before : List (List ℕ)) (at : At) (again : Bool) (entered value : Result ⊤ NamingFault) where
  abbrev ended : Result ⊤ NamingFault
  ended = if again then Err (fault_again at.place value) else value

  kept : (fault : NamingFault) → entered ≡ Err fault → OnErr entered (again ≡ false) → (faults : List NameFault) → GoesOn entered faults value → ended ≡ Err fault
  kept fault is not_again faults goes =
      ap (λ b. if b then Err (fault_again at.place value) else value) (subst (λ r. OnErr r (again ≡ false)) is not_again) ∙ subst (λ r. GoesOn r faults value) is goes

  new_value : (faults : List NameFault) (b : Bool) → again ≡ b → again ≡ is_among before at.name → Says faults value → Says (field_with before at faults) ended
  new_value faults true is among says =
      subst (λ b. Says (field_with before at faults) (if b then Err (fault_again at.place value) else value)) (sym is) (field_again before at faults value (sym among ∙ is) says)
  new_value faults false is among says =
      subst (λ b. Says (field_with before at faults) (if b then Err (fault_again at.place value) else value)) (sym is) (subst (λ l. Says l value) (sym (field_new before at faults (sym among ∙ is))) says)

  memory : (fault : NamingFault) (xs : List NameFault) → IsFirstFault [] fault → IsFirstFault xs fault
  memory (N1 p) xs h = absurd h
  memory (N2 p) xs h = absurd h
  memory (N4 p) xs h = absurd h
  memory Memory xs h = tt

  pub value_goes : (so_far result : Result ⊤ NamingFault) (faults : List NameFault) → GoesOn so_far [] entered → OnOk entered (again ≡ is_among before at.name) → OnErr entered (again ≡ false)
      → GoesOn entered faults value → result ≡ ended → GoesOn so_far (field_with before at faults) result
  value_goes so_far result faults first among not_again goes is = subst (GoesOn so_far (field_with before at faults)) (sym is) (cases so_far entered refl first among not_again goes)
    where
      cases : (so_far r : Result ⊤ NamingFault) → entered ≡ r → GoesOn so_far [] r → OnOk r (again ≡ is_among before at.name) → OnErr r (again ≡ false) → GoesOn r faults value → GoesOn so_far (field_with before at faults) ended
      cases (Ok done) (Ok more) r_is first among not_again goes = new_value faults again refl among goes
      cases (Ok done) (Err fault) r_is first among not_again goes =
          subst (Says (field_with before at faults)) (sym (kept fault r_is (subst (λ r. OnErr r (again ≡ false)) (sym r_is) not_again) faults (subst (λ r. GoesOn r faults value) (sym r_is) goes))) (memory fault (field_with before at faults) first)
      cases (Err old) (Ok more) r_is first among not_again goes = absurd (cc)
      cases (Err old) (Err fault) r_is first among not_again goes =
          kept fault r_is (subst (λ r. OnErr r (again ≡ false)) (sym r_is) not_again) faults (subst (λ r. GoesOn r faults value) (sym r_is) goes) ∙ first

  pub value_named : (result : Result ⊤ NamingFault) (faults : List NameFault) (new : List (List ℕ)) → GoesOn entered faults value → OnOk entered (new ≡ before ++ (if again then [] else at.name ∷ [])) → result ≡ ended
      → OnOk result (new ≡ before ++ at.name ∷ [])
  value_named result faults new goes named is = subst (λ r. OnOk r (new ≡ before ++ at.name ∷ [])) (sym is) (cases again entered value goes named)
    where
      cases : (b : Bool) (r v : Result ⊤ NamingFault) → GoesOn r faults v → OnOk r (new ≡ before ++ (if b then [] else at.name ∷ [])) → OnOk (if b then Err (fault_again at.place v) else v) (new ≡ before ++ at.name ∷ [])
      cases true r v goes named = tt
      cases false r (Err fault) goes named = tt
      cases false (Ok done) (Ok more) goes named = named
      cases false (Err fault) (Ok more) goes named = absurd (cc)

pub ruleset part_steps = (types_counted, goes_none)
