-- Occurrences of variables in a term, by their positions: where a variable is touched, used and observed. A position that an
-- inner binder takes again tells of that binder's variable too, so only positions below the context's length mean anything.
use Rattle.std.specs.Prelude.{ℕ, Bool, false, ◌&&◌, ◌||◌, not, cond, nat_eq, List, [], ◌∷◌, ◌++◌}
use Rattle.cg_base.specs.declared.place.Place.{Place}
use Rattle.cg_core.specs.declared.term.Seen.{Seen}
use Rattle.cg_core.specs.Terms.{Tree, term, Shape, var, op, app, lets, let_bang, if_else, con, case_of, esac, struct, member, take_field, put, cast, annot, Trees, none, more, Named, end, field}
use Rattle.cg_typing.specs.Contexts.{among}

abbrev mutual
  -- the variable occurs in the term, as a variable or as an observer
  pub touched : {A : Type 0} → ℕ → Tree A → Bool
  touched i (term note shape) = touched_shape i shape

  pub touched_shape : {A : Type 0} → ℕ → Shape A → Bool
  touched_shape i (var j) = nat_eq i j
  touched_shape i (op o ts) = touched_trees i ts
  touched_shape i (app f x) = touched i f || touched i x
  touched_shape i (lets binder e k) = touched i e || touched i k
  touched_shape i (let_bang observers binder e k) = among i observers || (touched i e || touched i k)
  touched_shape i (if_else c x y) = touched i c || (touched i x || touched i y)
  touched_shape i (con name e) = touched i e
  touched_shape i (case_of e at binder x y) = touched i e || (touched i x || touched i y)
  touched_shape i (esac at e) = touched i e
  touched_shape i (struct fs) = touched_fields i fs
  touched_shape i (member e at) = touched i e
  touched_shape i (take_field e at rest binder k) = touched i e || touched i k
  touched_shape i (put e at x) = touched i e || touched i x
  touched_shape i (cast e) = touched i e
  touched_shape i (annot e a) = touched i e
  touched_shape i _ = false

  pub touched_trees : {A : Type 0} → ℕ → Trees A → Bool
  touched_trees i none = false
  touched_trees i (more t ts) = touched i t || touched_trees i ts

  pub touched_fields : {A : Type 0} → ℕ → Named A → Bool
  touched_fields i end = false
  touched_fields i (field name e fs) = touched i e || touched_fields i fs

abbrev mutual
  -- the variable is used in the term: it occurs as a variable, in no first part that observes it
  pub used : {A : Type 0} → ℕ → Tree A → Bool
  used i (term note shape) = used_shape i shape

  pub used_shape : {A : Type 0} → ℕ → Shape A → Bool
  used_shape i (var j) = nat_eq i j
  used_shape i (op o ts) = used_trees i ts
  used_shape i (app f x) = used i f || used i x
  used_shape i (lets binder e k) = used i e || used i k
  used_shape i (let_bang observers binder e k) = (not (among i observers) && used i e) || used i k
  used_shape i (if_else c x y) = used i c || (used i x || used i y)
  used_shape i (con name e) = used i e
  used_shape i (case_of e at binder x y) = used i e || (used i x || used i y)
  used_shape i (esac at e) = used i e
  used_shape i (struct fs) = used_fields i fs
  used_shape i (member e at) = used i e
  used_shape i (take_field e at rest binder k) = used i e || used i k
  used_shape i (put e at x) = used i e || used i x
  used_shape i (cast e) = used i e
  used_shape i (annot e a) = used i e
  used_shape i _ = false

  pub used_trees : {A : Type 0} → ℕ → Trees A → Bool
  used_trees i none = false
  used_trees i (more t ts) = used i t || used_trees i ts

  pub used_fields : {A : Type 0} → ℕ → Named A → Bool
  used_fields i end = false
  used_fields i (field name e fs) = used i e || used_fields i fs

-- an observer: its place, and whether the second part of its `let!` uses the variable
pub record Sighting : Type 0 where
  pub place : Place
  pub used_later : Bool

-- those of a variable among the observers of one `let!`
abbrev pub sightings_among : ℕ → Bool → List Seen → List Sighting
sightings_among i later [] = []
sightings_among i later (o ∷ os) = cond (nat_eq i o.var) (record { place = o.place; used_later = later } ∷ []) [] ++ sightings_among i later os

abbrev mutual
  -- the sightings of a variable in the term, in reading order: none stands in a first part that observes it
  pub sightings : {A : Type 0} → ℕ → Tree A → List Sighting
  sightings i (term note shape) = sightings_shape i shape

  pub sightings_shape : {A : Type 0} → ℕ → Shape A → List Sighting
  sightings_shape i (op o ts) = sightings_trees i ts
  sightings_shape i (app f x) = sightings i f ++ sightings i x
  sightings_shape i (lets binder e k) = sightings i e ++ sightings i k
  sightings_shape i (let_bang observers binder e k) =
      sightings_among i (used i k) observers ++ (cond (among i observers) [] (sightings i e) ++ sightings i k)
  sightings_shape i (if_else c x y) = sightings i c ++ (sightings i x ++ sightings i y)
  sightings_shape i (con name e) = sightings i e
  sightings_shape i (case_of e at binder x y) = sightings i e ++ (sightings i x ++ sightings i y)
  sightings_shape i (esac at e) = sightings i e
  sightings_shape i (struct fs) = sightings_fields i fs
  sightings_shape i (member e at) = sightings i e
  sightings_shape i (take_field e at rest binder k) = sightings i e ++ sightings i k
  sightings_shape i (put e at x) = sightings i e ++ sightings i x
  sightings_shape i (cast e) = sightings i e
  sightings_shape i (annot e a) = sightings i e
  sightings_shape i _ = []

  pub sightings_trees : {A : Type 0} → ℕ → Trees A → List Sighting
  sightings_trees i none = []
  sightings_trees i (more t ts) = sightings i t ++ sightings_trees i ts

  pub sightings_fields : {A : Type 0} → ℕ → Named A → List Sighting
  sightings_fields i end = []
  sightings_fields i (field name e fs) = sightings i e ++ sightings_fields i fs
