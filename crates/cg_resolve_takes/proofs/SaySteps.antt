-- The first place of two parts, and of lists.
use Rattle.std.proofs.Common.{◌≡◌, ℕ, suc, ◌+◌, ◌<◌, ◌≤◌, List, [], ◌∷◌, ◌++◌, length, map, get_or, take, drop, zero, cond, arith, Option, Some, None, Result, refl, sym, ap, ◌∙◌, subst, append_assoc, append-nil}
use Rattle.std.proofs.lemmas.Bool.{ne_eqb}
use Rattle.std.proofs.lemmas.Bool.Decides.{nat_tests}
use Rattle.std.proofs.lemmas.List.{at_drop_more, at_drop_all, length-map, length-take-le, map-append, map_more}
use Rattle.std.specs.Prelude.{◌==◌, slice_get}
use Rattle.std.proofs.lemmas.List.Folds.{flat_map-map}
use Rattle.std.specs.List.{flat_map}
use Rattle.cg_base.specs.declared.place.Place.{Place}
use Rattle.cg_surface.specs.declared.written.STy.{STy, the_lemmas}
use Rattle.cg_surface.specs.declared.written.SPart.{SPart}
use Rattle.cg_surface.specs.declared.written.SAlt.{SAlt}
use Rattle.cg_surface.specs.Written.{Written, Writtens, WrittenFields, WrittenAlts, OneAlt, OneField, written_of, field_of, alt_of, to_types, to_fields, to_alts, types_behind, fields_behind, alts_behind}
use Rattle.cg_surface.specs.Written as types
use Rattle.cg_resolve_takes.specs.Heads.{Head, Heads, or_other, fields_in, head_of, heads_of, shape_of, shape_at, chosen}
use Rattle.cg_resolve_takes.proofs.HeadSteps.{heads_list}
use Rattle.cg_resolve_takes.specs.Missing.{absent, absent_all, absent_fields, absent_alts}
use Rattle.cg_resolve_takes.specs.Says.{IsFirst, IsFirstFault, TakesSay}
use Rattle.cg_resolve_takes.specs.declared.fault.TakeFault.{TakeFault}
use Rattle.cg_resolve_takes.specs.declared.fault.TakeFault.TheVariants.{N5, Memory}

-- ---- two parts

first_stays : (p : Place) (xs ys : List Place) → IsFirst p xs → IsFirst p (xs ++ ys)
first_stays p [] ys h = absurd h
first_stays p (x ∷ xs) ys h = h

-- a fault of the first part
pub says_first : (xs ys : List Place) (fault : TakeFault) → IsFirstFault xs fault → IsFirstFault (xs ++ ys) fault
says_first xs ys (N5 p) h = first_stays p xs ys h
says_first xs ys Memory h = h

-- no fault of the first part
pub says_second : {T : Type 0} (xs ys : List Place) (result : Result T TakeFault) → xs ≡ [] → TakesSay ys result → TakesSay (xs ++ ys) result
says_second xs ys result none h = subst (λ l. TakesSay (l ++ ys) result) (sym none) h

-- ---- lists

-- a turn of a loop over a list, of which the items up to here have no place
module _ {X : Type 0} (f : X → List Place) (xs : List X) (i : ℕ) (x : X) (within : i < length xs) (is : x ≡ get_or xs i x) where
  split : flat_map f (drop i xs) ≡ f x ++ flat_map f (drop (i + 1) xs)
  split = at_drop_more (flat_map f) xs i x within ∙ ap (λ y. f y ++ flat_map f (drop (i + 1) xs)) (sym is)

  pub loop_turn : (whole : List Place) → whole ≡ flat_map f (drop i xs) → f x ≡ [] → whole ≡ flat_map f (drop (i + 1) xs)
  loop_turn whole so_far none = so_far ∙ split ∙ ap (λ l. l ++ flat_map f (drop (i + 1) xs)) none

  pub loop_fault : (whole : List Place) (fault : TakeFault) → whole ≡ flat_map f (drop i xs) → IsFirstFault (f x) fault → IsFirstFault whole fault
  loop_fault whole fault so_far h = subst (λ l. IsFirstFault l fault) (sym (so_far ∙ split)) (says_first (f x) _ fault h)

pub loop_end : {X : Type 0} (f : X → List Place) (xs : List X) (i : ℕ) → length xs ≤ i → flat_map f (drop i xs) ≡ []
loop_end f xs i past = at_drop_all (flat_map f) xs i past

-- ---- the trees' own lists

module _ (heads : Heads) where
  types_split : (before : Writtens) (ts : List Written) → absent_all heads (types_behind before ts) ≡ absent_all heads before ++ flat_map (absent heads) ts
  types_split before [] = sym (append-nil (absent_all heads before))
  types_split before (t ∷ ts) = types_split (types.and_type before t) ts ∙ append_assoc (absent_all heads before) (absent heads t) (flat_map (absent heads) ts)

  pub absent_types : (ts : List STy) → absent_all heads (to_types (map written_of ts)) ≡ flat_map (λ t. absent heads (written_of t)) ts
  unfolding to_types
  absent_types ts = types_split types.no_types (map written_of ts) ∙ flat_map-map (absent heads) written_of ts

  fields_split : (before : WrittenFields) (fs : List OneField) → absent_fields heads (fields_behind before fs) ≡ absent_fields heads before ++ flat_map (λ f. absent heads f.ty) fs
  fields_split before [] = sym (append-nil (absent_fields heads before))
  fields_split before (f ∷ fs) = fields_split (types.and_field before f.at f.ty) fs ∙ append_assoc (absent_fields heads before) (absent heads f.ty) (flat_map (λ f. absent heads f.ty) fs)

  pub absent_parts : (parts : List SPart) → absent_fields heads (to_fields (map field_of parts)) ≡ flat_map (λ p. absent heads (field_of p).ty) parts
  unfolding to_fields
  absent_parts parts = fields_split types.no_fields (map field_of parts) ∙ flat_map-map (λ f. absent heads f.ty) field_of parts

  -- those of an alternative
  abbrev pub absent_one : Option Written → List Place
  absent_one None = []
  absent_one (Some t) = absent heads t

  alts_split : (before : WrittenAlts) (choices : List OneAlt) → absent_alts heads (alts_behind before choices) ≡ absent_alts heads before ++ flat_map (λ a. absent_one a.ty) choices
  alts_split before [] = sym (append-nil (absent_alts heads before))
  alts_split before (a ∷ choices) = alts_split (types.and_one before a.at a.ty) choices ∙ ap (λ l. l ++ flat_map (λ a. absent_one a.ty) choices) (one a.ty) ∙ append_assoc (absent_alts heads before) (absent_one a.ty) (flat_map (λ a. absent_one a.ty) choices)
    where
      one : (t : Option Written) → absent_alts heads (types.and_one before a.at t) ≡ absent_alts heads before ++ absent_one t
      one None = sym (append-nil (absent_alts heads before))
      one (Some t) = refl

  pub absent_choices_of : (choices : List SAlt) → absent_alts heads (to_alts (map alt_of choices)) ≡ flat_map (λ a. absent_one (alt_of a).ty) choices
  unfolding to_alts
  absent_choices_of choices = alts_split types.no_alts (map alt_of choices) ∙ flat_map-map (λ a. absent_one a.ty) alt_of choices

-- ---- the fields of one of a list of types

-- a test of positions, one further
same_next : (a b : ℕ) → (suc a == suc b) ≡ (a == b)
same_next a b = grind (arith, nat_tests)

shape_push : (hs : List Head) (h : Head) (w : ℕ) → fields_in (or_other (slice_get (hs ++ h ∷ []) w)) ≡ cond (w == length hs) (fields_in h) (fields_in (or_other (slice_get hs w)))
shape_push [] h zero = refl
shape_push [] h (suc w) = sym (ap (λ b. cond b (fields_in h) None) (ne_eqb (suc w) 0 (λ e. omega arith)))
shape_push (g ∷ hs) h zero = sym (ap (λ b. cond b (fields_in h) (fields_in g)) (ne_eqb 0 (suc (length hs)) (λ e. omega arith)))
shape_push (g ∷ hs) h (suc w) = shape_push hs h w ∙ ap (λ b. cond b (fields_in h) (fields_in (or_other (slice_get hs w)))) (sym (same_next w (length hs)))

module _ (heads : Heads) where
  pub shape_start : (wanted : Option ℕ) → shape_at (heads_of heads [] (to_types (map written_of []))) wanted ≡ None
  unfolding to_types
  shape_start None = refl
  shape_start (Some i) = refl

  pub shape_turn : (ts : List STy) (i : ℕ) (x : STy) (wanted : Option ℕ) → i < length ts → x ≡ get_or ts i x
      → shape_at (heads_of heads [] (to_types (map written_of (take (i + 1) ts)))) wanted ≡ chosen wanted i (shape_at (heads_of heads [] (to_types (map written_of (take i ts)))) wanted) (shape_of heads (written_of x))
  shape_turn ts i x None within is = refl
  shape_turn ts i x (Some w) within is =
      ap (λ l. fields_in (or_other (slice_get l w)))
      (heads_list heads [] (map written_of (take (i + 1) ts))
      ∙ ap (map (head_of heads [])) (map_more written_of ts i x within) ∙ map-append (head_of heads []) (map written_of (take i ts)) (written_of (get_or ts i x) ∷ [])
      ∙ ap (λ l. l ++ head_of heads [] (written_of (get_or ts i x)) ∷ []) (sym (heads_list heads [] (map written_of (take i ts)))))
      ∙ shape_push (heads_of heads [] (to_types (map written_of (take i ts)))) (head_of heads [] (written_of (get_or ts i x))) w
      ∙ ap (λ n. cond (w == n) (shape_of heads (written_of (get_or ts i x))) (fields_in (or_other (slice_get (heads_of heads [] (to_types (map written_of (take i ts)))) w)))) many
      ∙ ap (λ y. cond (w == i) (shape_of heads (written_of y)) (fields_in (or_other (slice_get (heads_of heads [] (to_types (map written_of (take i ts)))) w)))) (sym is)
    where
      many : length (heads_of heads [] (to_types (map written_of (take i ts)))) ≡ i
      many = ap length (heads_list heads [] (map written_of (take i ts))) ∙ length-map (map written_of (take i ts)) (head_of heads []) ∙ length-map (take i ts) written_of ∙ length-take-le i ts (omega arith)

pub ruleset say_steps = (absent_types, absent_parts, absent_choices_of, loop_end, the_lemmas)
