-- What a part of a body does with each variable of its context: tables of uses, what was touched before a part, and the observers of a
-- `let!` (docs/LANGUAGE.md, "Typing").
use Rattle.std.specs.List.{zip}
use Rattle.std.specs.Prelude.{ℕ, zero, suc, Bool, true, false, ◌&&◌, ◌||◌, not, cond, nat_eq, Option, Some, None, List, [], ◌∷◌, map}
use Rattle.cg_base.specs.declared.place.Place.{Place}
use Rattle.cg_core.specs.declared.term.Seen.{Seen}
use Rattle.cg_check_uses.specs.declared.entry.Use.{Use}

-- it touches it, uses it, and the first observer of it behind which it isn't used
abbrev pub use_of : Bool → Bool → Option Place → Use
use_of touched used bad = record { touched = touched; used = used; bad = bad }

abbrev pub no_use : Use
no_use = use_of false false None

abbrev pub first_of : Option Place → Option Place → Option Place
first_of None b = b
first_of (Some a) b = Some a

-- one part and then another
abbrev pub both : Use → Use → Use
both u v = use_of (u.touched || v.touched) (u.used || v.used) (first_of u.bad v.bad)

-- one for each of n variables
abbrev pub table : {A : Type 0} → ℕ → (ℕ → A) → List A
table zero f = []
table (suc n) f = f zero ∷ table n (λ i. f (suc i))

abbrev pub no_uses : ℕ → List Use
no_uses n = table n (λ i. no_use)

abbrev pub var_uses : ℕ → ℕ → List Use
var_uses n i = table n (λ j. use_of (nat_eq j i) (nat_eq j i) None)

-- item by item
abbrev pub pairs : {A B C : Type 0} → (A → B → C) → List A → List B → List C
pairs f xs ys = map (λ x. f x.0 x.1) (zip xs ys)

abbrev pub triples : {A B C D : Type 0} → (A → B → C → D) → List A → List B → List C → List D
triples f xs ys zs = map (λ x. f x.0.0 x.0.1 x.1) (zip (zip xs ys) zs)

abbrev pub join : List Use → List Use → List Use
join us vs = pairs both us vs

-- the first observer of a variable, and those of each of n variables
abbrev pub seen_at : ℕ → List Seen → Option Place
seen_at i [] = None
seen_at i (o ∷ os) = cond (nat_eq i o.var) (Some o.place) (seen_at i os)

abbrev pub is_seen : Option Place → Bool
is_seen None = false
is_seen (Some place) = true

abbrev pub seen_places : ℕ → List Seen → List (Option Place)
seen_places n os = table n (λ i. seen_at i os)

-- what was touched before, and by one more part, and by a first part that observes some
abbrev pub mark : List Bool → List Use → List Bool
mark bs us = pairs (λ b u. b || u.touched) bs us

abbrev pub mark_but : List (Option Place) → List Bool → List Use → List Bool
mark_but seen bs us = triples (λ s b u. b || (not (is_seen s) && u.touched)) seen bs us

-- what becomes of a variable that is observed in a first part and then not
abbrev pub both_seen : Option Place → Use → Use → Use
both_seen None u v = both u v
both_seen (Some p) u v = use_of true v.used (cond v.used v.bad (Some p))

abbrev pub join_seen : List (Option Place) → List Use → List Use → List Use
join_seen seen us vs = triples both_seen seen us vs

abbrev pub flag_at : List Bool → ℕ → Bool
flag_at [] i = false
flag_at (b ∷ bs) zero = b
flag_at (b ∷ bs) (suc i) = flag_at bs i

abbrev pub last : List Use → Use
last [] = no_use
last (u ∷ []) = u
last (u ∷ v ∷ us) = last (v ∷ us)

abbrev pub front : List Use → List Use
front [] = []
front (u ∷ []) = []
front (u ∷ v ∷ us) = u ∷ front (v ∷ us)
