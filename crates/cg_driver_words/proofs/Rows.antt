-- The rows of what clap found, and what one more use of an argument does to them.
use Rattle.std.proofs.Common.{◌≡◌, ◌∙◌, Bool, cond, true, false, true≢false, refl, sym, ap, append-nil, List, [], ◌∷◌, ◌++◌, Option, Some, None, is_some, find, ◌||◌, option_and_then, slice_get, option_map, codes, ◌&&◌, not}
use Rattle.std.specs.Prelude.{⊤}
use Rattle.std.specs.Str.{bytes_eq}
use Rattle.std.proofs.lemmas.Slice.Eq.{bytes_eq-Decides}
use Rattle.clap.specs.Words.{Row, Rule, Text, first_of}
use Rattle.clap.specs.Simple.{filled}
use Rattle.clap.specs.Walk.{action_of, at_row, has_row, more_values, reading_by, used, without}
use Rattle.clap.specs.declared.builder.action.ArgAction.TheVariants.{Set}
use Rattle.clap.specs.declared.parser.matches.ValueSource.TheVariants.{CommandLine}
use Rattle.cg_driver_words.specs.Apps.{steps_rule}
use Rattle.cg_base.proofs.Truths.{both_true as and_left, and_right, not_true}

abbrev pub look : Text → List Row → Option Row
look id rows = find (λ r. bytes_eq r.id id) rows

-- the row of an argument that was given this value
abbrev pub row : Text → Text → Row
row id v = record { id = id; values = v ∷ []; count = None; source = Some CommandLine; reading = reading_by (filled steps_rule) }

-- what the rows have of an argument
abbrev pub Slot : List Row → Text → Option Text → Type 0
Slot rows id v = look id rows ≡ option_map (row id) v

pub has_is_look : (id : Text) (rows : List Row) → has_row id rows ≡ is_some (look id rows)
has_is_look id [] = refl
has_is_look id (r ∷ rs) = go (bytes_eq r.id id) (has_is_look id rs)
  where
    go : (b : Bool) → has_row id rs ≡ is_some (look id rs) → (b || has_row id rs) ≡ is_some (cond b (Some r) (look id rs))
    go true e = refl
    go false e = e

pub no_row : (id : Text) (rows : List Row) → look id rows ≡ None → has_row id rows ≡ false
no_row id rows e = has_is_look id rows ∙ ap is_some e

pub a_row : (id v : Text) (rows : List Row) → Slot rows id (Some v) → has_row id rows ≡ true
a_row id v rows e = has_is_look id rows ∙ ap is_some e

fresh : (id : Text) (change : Row → List Row) (missing rows : List Row) → has_row id rows ≡ false → at_row id change missing rows ≡ rows ++ missing
fresh id change missing [] e = refl
fresh id change missing (r ∷ rs) e = go (bytes_eq r.id id) e (fresh id change missing rs)
  where
    go : (b : Bool) → (b || has_row id rs) ≡ false → (has_row id rs ≡ false → at_row id change missing rs ≡ rs ++ missing)
        → cond b (change r ++ rs) (r ∷ at_row id change missing rs) ≡ r ∷ (rs ++ missing)
    go true f more = absurd (true≢false f)
    go false f more = ap (λ l. r ∷ l) (more f)

pub used_is : (a : Rule) (v : Text) (rows : List Row) → action_of a ≡ Set → reading_by a ≡ reading_by (filled steps_rule) → look a.id rows ≡ None
    → used a (v ∷ []) rows ≡ rows ++ row a.id v ∷ []
used_is a v rows set reads e =
    let no = no_row a.id rows e in
    let same : without a.id rows ≡ rows = fresh a.id (λ _. []) [] rows no ∙ append-nil rows in
    rw (set, reads, same) (fresh a.id (more_values CommandLine (v ∷ [])) (row a.id v ∷ []) rows no)

look_end : (id : Text) (rows : List Row) (r : Row) → look id rows ≡ None → look id (rows ++ r ∷ []) ≡ cond (bytes_eq r.id id) (Some r) None
look_end id [] r e = refl
look_end id (x ∷ xs) r e = go (bytes_eq x.id id) e (look_end id xs r)
  where
    go : (b : Bool) → cond b (Some x) (look id xs) ≡ None → (look id xs ≡ None → look id (xs ++ r ∷ []) ≡ cond (bytes_eq r.id id) (Some r) None)
        → cond b (Some x) (look id (xs ++ r ∷ [])) ≡ cond (bytes_eq r.id id) (Some r) None
    go true f more = absurd (true≢false (ap is_some f))
    go false f more = more f

look_other : (id : Text) (rows : List Row) (r : Row) → bytes_eq r.id id ≡ false → look id (rows ++ r ∷ []) ≡ look id rows
look_other id [] r e = rw e refl
look_other id (x ∷ xs) r e = ap (cond (bytes_eq x.id id) (Some x)) (look_other id xs r e)

look_found : (id : Text) (rows more : List Row) (r : Row) → look id rows ≡ Some r → look id (rows ++ more) ≡ Some r
look_found id [] more r e = absurd (true≢false (sym (ap is_some e)))
look_found id (x ∷ xs) more r e = go (bytes_eq x.id id) e (look_found id xs more r)
  where
    go : (b : Bool) → cond b (Some x) (look id xs) ≡ Some r → (look id xs ≡ Some r → look id (xs ++ more) ≡ Some r)
        → cond b (Some x) (look id (xs ++ more)) ≡ Some r
    go true f ih = f
    go false f ih = ih f

look_new : (id v : Text) (rows : List Row) → look id rows ≡ None → look id (rows ++ row id v ∷ []) ≡ Some (row id v)
look_new id v rows e = look_end id rows (row id v) e ∙ ap (λ b. cond b (Some (row id v)) None) ((bytes_eq-Decides id id).1 refl)

pub value_in : (id : Text) (v : Option Text) (rows : List Row) → Slot rows id v → first_of id rows ≡ v
value_in id None rows e = ap (option_and_then (λ r. slice_get r.values 0)) e
value_in id (Some v) rows e = ap (option_and_then (λ r. slice_get r.values 0)) e

-- ---- names that are given, and names that aren't

-- this id is none of those
abbrev pub differs : Text → List Text → Bool
differs id [] = true
differs id (x ∷ xs) = not (bytes_eq id x) && differs id xs

-- no id stands twice, and none is that of the option
abbrev pub are_apart : List Text → Bool
are_apart [] = true
are_apart (id ∷ ids) = differs id (codes "steps" ∷ ids) && are_apart ids

-- none of the ids has a row
abbrev pub Fresh : List Row → List Text → Type 0
Fresh rows [] = ⊤
Fresh rows (id ∷ ids) = (look id rows ≡ None) × Fresh rows ids

-- these ids have these values
abbrev pub Known : List Row → List (Text × Text) → Type 0
Known rows [] = ⊤
Known rows (q ∷ qs) = (look q.0 rows ≡ Some (row q.0 q.1)) × Known rows qs

pub fresh_nothing : (ids : List Text) → Fresh [] ids
fresh_nothing [] = tt
fresh_nothing (id ∷ ids) = (refl, fresh_nothing ids)

fresh_after : (id v : Text) (left : List Text) (rows : List Row) → differs id left ≡ true → Fresh rows left → Fresh (rows ++ row id v ∷ []) left
fresh_after id v [] rows e f = tt
fresh_after id v (x ∷ xs) rows e f = (
  look_other x rows (row id v) (not_true (bytes_eq id x) (and_left (not (bytes_eq id x)) (differs id xs) e)) ∙ f.0,
  fresh_after id v xs rows (and_right (not (bytes_eq id x)) (differs id xs) e) f.1,
)

known_after : (known : List (Text × Text)) (rows more : List Row) → Known rows known → Known (rows ++ more) known
known_after [] rows more k = tt
known_after (q ∷ qs) rows more k = (look_found q.0 rows more (row q.0 q.1) k.0, known_after qs rows more k.1)

-- what the rows have: nothing of the names that are left, the value of the option, and those of the names before
pub record HasRows (left : List Text) (n : Option Text) (known : List (Text × Text)) (rows : List Row) : Type 0 where
  pub fresh : Fresh rows left
  pub steps : Slot rows (codes "steps") n
  pub values : Known rows known

pub with_name_row : (id v : Text) (left : List Text) (n : Option Text) (known : List (Text × Text)) (rows : List Row)
    → differs id (codes "steps" ∷ left) ≡ true → HasRows (id ∷ left) n known rows → HasRows left n ((id, v) ∷ known) (rows ++ row id v ∷ [])
with_name_row id v left n known rows e has = record {
  fresh = fresh_after id v left rows (and_right (not (bytes_eq id (codes "steps"))) (differs id left) e) has.fresh.1;
  steps = look_other (codes "steps") rows (row id v)
      (not_true (bytes_eq id (codes "steps")) (and_left (not (bytes_eq id (codes "steps"))) (differs id left) e)) ∙ has.steps;
  values = (look_new id v rows has.fresh.0, known_after known rows (row id v ∷ []) has.values);
}

pub with_steps_row : (v : Text) (left : List Text) (known : List (Text × Text)) (rows : List Row)
    → differs (codes "steps") left ≡ true → HasRows left None known rows → HasRows left (Some v) known (rows ++ row (codes "steps") v ∷ [])
with_steps_row v left known rows e has = record {
  fresh = fresh_after (codes "steps") v left rows e has.fresh;
  steps = look_new (codes "steps") v rows has.steps;
  values = known_after known rows (row (codes "steps") v ∷ []) has.values;
}
