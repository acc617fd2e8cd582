-- The fields of a record, at what is left of two lists.
use Rattle.std.proofs.Common.{◌≡◌, ◌≢◌, ℕ, ◌<◌, ◌≤◌, List, [], ◌∷◌, map, length, drop, get_or, ◌+◌, Bool, true, false, not, ◌&&◌, suc, refl, ap, ◌∙◌}
use Rattle.std.specs.Str.{bytes_eq}
use Rattle.std.proofs.lemmas.List.{at_drop_more, at_drop_all}
use Rattle.cg_base.proofs.Views.{piece_of}
use Rattle.cg_base.specs.declared.place.Place.{Place}
use Rattle.cg_base.specs.declared.ty.Part.{Part}
use Rattle.cg_base.specs.Types.{Piece, to_parts, part_of}
use Rattle.cg_core.proofs.Views.{field_is}
use Rattle.cg_core.specs.Kernels.{the_field}
use Rattle.cg_core.specs.Terms.{OneField, to_named}
use Rattle.cg_core.specs.declared.term.FieldTerm.{FieldTerm}
use Rattle.cg_faults.specs.Plain.{are_fields}
use Rattle.cg_base.proofs.Truths.{and_false}

-- what the fields are, of lists of parts and of fields
fields_are : List Part → List (FieldTerm Place) → Bool
fields_are ps fs = are_fields (to_parts (map part_of ps)) (to_named (map the_field fs))

pub and_assoc : (a b c : Bool) → (a && (b && c)) ≡ ((a && b) && c)
and_assoc true b c = refl
and_assoc false b c = refl

piece-more : (p : Piece) (ps : List Piece) (f : OneField Place) (fs : List (OneField Place))
    → are_fields (to_parts (p ∷ ps)) (to_named (f ∷ fs)) ≡ ((bytes_eq p.name f.name && not p.taken) && are_fields (to_parts ps) (to_named fs))
unfolding to_parts to_named
piece-more p ps f fs = and_assoc (bytes_eq p.name f.name) (not p.taken) _

fields-more : (p : Part) (ps : List Part) (f : FieldTerm Place) (fs : List (FieldTerm Place))
    → fields_are (p ∷ ps) (f ∷ fs) ≡ ((bytes_eq p.name f.name && not p.taken) && fields_are ps fs)
unfolding fields_are
fields-more p ps f fs =
    piece-more (part_of p) (map part_of ps) (the_field f) (map the_field fs)
    ∙ ap (λ q. (bytes_eq q.name (the_field f).name && not q.taken) && fields_are ps fs) (piece_of p)
    ∙ ap (λ g. (bytes_eq p.name g.name && not p.taken) && fields_are ps fs) (field_is Place Place (λ x. x) f)

fields_step : (ps : List Part) (fs : List (FieldTerm Place)) (i : ℕ) (p : Part) (f : FieldTerm Place) (b : Bool) → i < length ps → i < length fs
    → (bytes_eq (get_or ps i p).name (get_or fs i f).name && not (get_or ps i p).taken) ≡ b
    → fields_are (drop i ps) (drop i fs) ≡ (b && fields_are (drop (i + 1) ps) (drop (i + 1) fs))
fields_step ps fs i p f b hp hf e =
    at_drop_more (λ l. fields_are l (drop i fs)) ps i p hp
    ∙ at_drop_more (λ l. fields_are (get_or ps i p ∷ drop (i + 1) ps) l) fs i f hf
    ∙ fields-more _ _ _ _
    ∙ ap (λ c. c && fields_are (drop (i + 1) ps) (drop (i + 1) fs)) e

-- one field more
pub fields_later : (ps : List Part) (fs : List (FieldTerm Place)) (i : ℕ) (p : Part) (f : FieldTerm Place) → i < length ps → i < length fs
    → (bytes_eq (get_or ps i p).name (get_or fs i f).name && not (get_or ps i p).taken) ≡ true
    → are_fields (to_parts (map part_of (drop i ps))) (to_named (map the_field (drop i fs)))
    ≡ are_fields (to_parts (map part_of (drop (i + 1) ps))) (to_named (map the_field (drop (i + 1) fs)))
unfolding fields_are
fields_later ps fs i p f hp hf e = fields_step ps fs i p f true hp hf e

pub fields_other : (ps : List Part) (fs : List (FieldTerm Place)) (i : ℕ) (p : Part) (f : FieldTerm Place) → i < length ps → i < length fs
    → (bytes_eq (get_or ps i p).name (get_or fs i f).name && not (get_or ps i p).taken) ≡ false
    → are_fields (to_parts (map part_of (drop i ps))) (to_named (map the_field (drop i fs))) ≡ false
unfolding fields_are
fields_other ps fs i p f hp hf e = fields_step ps fs i p f false hp hf e

pub fields_past : (ps : List Part) (fs : List (FieldTerm Place)) (i : ℕ) → length ps ≤ i → length fs ≤ i
    → are_fields (to_parts (map part_of (drop i ps))) (to_named (map the_field (drop i fs))) ≡ true
unfolding to_parts to_named
fields_past ps fs i hp hf =
    at_drop_all (λ l. are_fields (to_parts (map part_of l)) (to_named (map the_field (drop i fs)))) ps i hp
    ∙ at_drop_all (λ l. are_fields (to_parts []) (to_named (map the_field l))) fs i hf

-- lists of two lengths
pub fields_apart : (ps : List Part) (fs : List (FieldTerm Place)) → length ps ≢ length fs
    → are_fields (to_parts (map part_of ps)) (to_named (map the_field fs)) ≡ false
unfolding to_parts to_named fields_are
fields_apart [] [] n = absurd (n refl)
fields_apart [] (f ∷ fs) n = refl
fields_apart (p ∷ ps) [] n = refl
fields_apart (p ∷ ps) (f ∷ fs) n = fields-more p ps f fs ∙ ap (λ b. (bytes_eq p.name f.name && not p.taken) && b) (fields_apart ps fs (λ e. n (ap suc e))) ∙ and_false _

pub ruleset record_steps = (fields_later, fields_other, fields_past, fields_apart)
