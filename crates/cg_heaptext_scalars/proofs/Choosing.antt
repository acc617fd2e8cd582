-- The alternative of a name, and the scalars of a variant that is this one.
use Rattle.std.proofs.Common.{◌≡◌, ℕ, zero, suc, ◌+◌, ◌-◌, ◌<◌, ◌≤◌, Bool, true, false, List, [], ◌∷◌, ◌++◌, length, take, drop, get_or, Some, None, if◌then◌else◌, refl, sym, ap, ◌∙◌, subst, append_assoc, arith, Bor}
use Rattle.std.proofs.lemmas.List.{get_or_default, length-drop, length-take, replicate-append-replicate}
use Rattle.std.proofs.Math.Seq.{take-length}
use Rattle.std.specs.Str.{bytes_eq}
use Rattle.cg_base.proofs.Counts.{one_more}
use Rattle.cg_base.proofs.Options.{some_is}
use Rattle.cg_base.proofs.Views.{piece_of}
use Rattle.cg_base.specs.declared.ty.Part.{Part}
use Rattle.cg_base.specs.Types.{Parts, Piece, to_parts, type_of, variant}
use Rattle.cg_heap.specs.declared.cell.Scalar.{Scalar}
use Rattle.cg_heap.specs.declared.cell.Scalar.TheVariants.{Unset, Word}
use Rattle.cg_heap.specs.Reps.{slots}
use Rattle.cg_heaptext_def.specs.Reading.{scalars, scalars_applied, scalars_bare, skipped}
use Rattle.cg_heaptext_def.specs.Trees.{Written, applied, bare}
use Rattle.cg_heaptext_lexer.specs.Next.{Cursor}
use Rattle.cg_heaptext_values.specs.Values.{IsHead, StandsAt}
use Rattle.cg_heaptext_values.specs.declared.head.Head.TheVariants as head
use Rattle.cg_heaptext_scalars.specs.Alternatives.{place_from}
use Rattle.cg_heaptext_scalars.specs.Given.{Adds, pieces, unset, width}
use Rattle.cg_heaptext_scalars.proofs.Adding.{no_width, two_added, width_more}

-- a place that is counted from a number on is no less than that
place_by : (b : Bool) (x : List ℕ) (ps : List Part) (i k : ℕ) → (if b then Some i else place_from (suc i) x ps) ≡ Some k → (place_from (suc i) x ps ≡ Some k → suc i ≤ k) → i ≤ k
place_by true x ps i k e later = omega (arith, some_is i k e)
place_by false x ps i k e later = omega (arith, later e)

place_grows : (x : List ℕ) (ps : List Part) (i k : ℕ) → place_from i x ps ≡ Some k → i ≤ k
place_grows x [] i k e = absurd (cc)
place_grows x (p ∷ ps) i k e = place_by (bytes_eq x p.name) x ps i k e (place_grows x ps (suc i) k)

-- the parts from a place on, as a slice has them
abbrev pub from : List Part → ℕ → List Part
from ps n = take (length ps - n) (drop n ps)

from_is : (ps : List Part) (n : ℕ) → from ps n ≡ drop n ps
from_is ps n = ap (λ k. take k (drop n ps)) (sym (length-drop n ps)) ∙ take-length (drop n ps)

-- `all` has the scalars of a variant of these alternatives, counted from a number on, and `one` those of the payload of the one of this name
module _ (x : List ℕ) (one : Part → List Scalar) (all : ℕ → List Part → List Scalar) (none_left : (i : ℕ) → all i [] ≡ [])
    (splits : (i : ℕ) (p : Part) (ps : List Part) → all i (p ∷ ps) ≡ (if bytes_eq x p.name then Word i ∷ (one p ++ unset (width ps)) else skipped (all (suc i) ps) (slots (type_of p.ty)))) where
  none_by : (b : Bool) (p : Part) (ps : List Part) (i : ℕ) → (if b then Some i else place_from (suc i) x ps) ≡ None → (place_from (suc i) x ps ≡ None → all (suc i) ps ≡ [])
      → (if b then Word i ∷ (one p ++ unset (width ps)) else skipped (all (suc i) ps) (slots (type_of p.ty))) ≡ []
  none_by true p ps i e later = absurd (cc)
  none_by false p ps i e later = ap (λ us. skipped us (slots (type_of p.ty))) (later e)

  none_chosen : (ps : List Part) (i : ℕ) → place_from i x ps ≡ None → all i ps ≡ []
  none_chosen [] i e = none_left i
  none_chosen (p ∷ ps) i e = splits i p ps ∙ none_by (bytes_eq x p.name) p ps i e (none_chosen ps (suc i))

  -- those of the alternative at a place, whose number is this and whose payload has these
  abbrev around : ℕ → List Part → ℕ → List Scalar → List Scalar
  around k ps j us = Word k ∷ (unset (width (take j ps)) ++ (us ++ unset (width (drop (suc j) ps))))

  abbrev IsPayload : List Part → ℕ → List Scalar → Type 0
  IsPayload ps j us = (d : Part) → j < length ps → one (get_or ps j d) ≡ us

  one_by : (b : Bool) (p : Part) (ps : List Part) (i j k : ℕ) (us : List Scalar) → (if b then Some i else place_from (suc i) x ps) ≡ Some k → k ≡ i + j → IsPayload (p ∷ ps) j us
      → ((h : ℕ) → place_from (suc i) x ps ≡ Some k → k ≡ suc i + h → IsPayload ps h us → all (suc i) ps ≡ around k ps h us)
      → (if b then Word i ∷ (one p ++ unset (width ps)) else skipped (all (suc i) ps) (slots (type_of p.ty))) ≡ around k (p ∷ ps) j us
  one_by true p ps i zero k us e is payload later =
      ap (λ n. Word n ∷ (one p ++ unset (width ps))) (some_is i k e)
      ∙ ap (λ vs. Word k ∷ (vs ++ unset (width ps))) (payload p (omega arith))
      ∙ ap (λ n. Word k ∷ (unset n ++ (us ++ unset (width ps)))) (sym no_width)
  one_by true p ps i (suc j) k us e is payload later = absurd (omega (arith, some_is i k e))
  one_by false p ps i zero k us e is payload later = absurd (omega (arith, place_grows x ps (suc i) k e))
  one_by false p ps i (suc j) k us e is payload later =
      let behind = us ++ unset (width (drop (suc j) ps)) in
      ap (λ vs. skipped vs (slots (type_of p.ty))) (later j e (omega arith) (λ d within. payload d (omega arith)))
      ∙ ap (λ vs. Word k ∷ vs) (sym (append_assoc (unset (slots (type_of p.ty))) (unset (width (take j ps))) behind))
      ∙ ap (λ vs. Word k ∷ (vs ++ behind)) (replicate-append-replicate (slots (type_of p.ty)) (width (take j ps)) Unset)
      ∙ ap (λ n. Word k ∷ (unset n ++ behind)) (sym (width_more p (take j ps)))

  one_chosen : (ps : List Part) (i j k : ℕ) (us : List Scalar) → place_from i x ps ≡ Some k → k ≡ i + j → IsPayload ps j us → all i ps ≡ around k ps j us
  one_chosen [] i j k us e is payload = absurd (cc)
  one_chosen (p ∷ ps) i j k us e is payload = splits i p ps ∙ one_by (bytes_eq x p.name) p ps i j k us e is payload (λ h. one_chosen ps (suc i) h k us)

  -- its number with the slots before it, its payload, and the slots behind it
  one_added : (ps : List Part) (at : ℕ) (us a b c e : List Scalar) → place_from zero x ps ≡ Some at → at < length ps → IsPayload ps at us
      → Adds a (Word (length (take at ps)) ∷ unset (width (take at ps))) b → Adds b us c → Adds c (unset (width (from ps (at + 1)))) e → Adds a (all zero ps) e
  one_added ps at us a b c e place within payload first second third =
      let many : at ≡ length (take at ps) = grind (arith, length-take) in
      let tag = Word (length (take at ps)) ∷ unset (width (take at ps)) in
      let behind = unset (width (from ps (at + 1))) in
      let last : drop (suc at) ps ≡ from ps (at + 1) = ap (λ n. drop n ps) (one_more at) ∙ sym (from_is ps (at + 1)) in
      let same : around at ps at us ≡ tag ++ (us ++ behind) = λ k. Word (many k) ∷ (unset (width (take at ps)) ++ (us ++ unset (width (last k)))) in
      subst (λ vs. Adds a vs e) (sym (one_chosen ps zero at at us place (omega arith) payload ∙ same)) (two_added tag (us ++ behind) a b e first (two_added us behind b c e second third))

-- without a payload
constant_splits : (x : List ℕ) (i : ℕ) (p : Part) (ps : List Part)
    → scalars_bare (pieces (p ∷ ps)) i x ≡ (if bytes_eq x p.name then Word i ∷ ((Word 0 ∷ []) ++ unset (width ps)) else skipped (scalars_bare (pieces ps) (suc i) x) (slots (type_of p.ty)))
unfolding scalars to_parts
constant_splits x i p ps =
    ap (λ (q : Piece). if bytes_eq x q.name then Word i ∷ ((Word 0 ∷ []) ++ unset (width ps)) else skipped (scalars_bare (pieces ps) (suc i) x) (slots q.ty)) (piece_of p)

no_constant : (x : List ℕ) (i : ℕ) → scalars_bare (pieces []) i x ≡ []
unfolding scalars to_parts
no_constant x i = refl

module _ (x : List ℕ) (ps : List Part) where
  pub constant_none : place_from zero x ps ≡ None → scalars_bare (pieces ps) zero x ≡ []
  constant_none = none_chosen x (λ p. Word 0 ∷ []) (λ i ps. scalars_bare (pieces ps) i x) (no_constant x) (constant_splits x) ps zero

  pub constant_added : (at : ℕ) (a b c e : List Scalar) → place_from zero x ps ≡ Some at → at < length ps
      → Adds a (Word (length (take at ps)) ∷ unset (width (take at ps))) b → Adds b (Word 0 ∷ []) c → Adds c (unset (width (from ps (at + 1)))) e → Adds a (scalars_bare (pieces ps) zero x) e
  constant_added at a b c e place within =
      one_added x (λ p. Word 0 ∷ []) (λ i ps. scalars_bare (pieces ps) i x) (no_constant x) (constant_splits x) ps at (Word 0 ∷ []) a b c e place within (λ d k. refl)

-- with one
payload_splits : (x : List ℕ) (v : Written) (i : ℕ) (p : Part) (ps : List Part)
    → scalars_applied (pieces (p ∷ ps)) i x v ≡ (if bytes_eq x p.name then Word i ∷ (scalars (type_of p.ty) (bare v) ++ unset (width ps)) else skipped (scalars_applied (pieces ps) (suc i) x v) (slots (type_of p.ty)))
unfolding scalars to_parts
payload_splits x v i p ps =
    ap (λ (q : Piece). if bytes_eq x q.name then Word i ∷ (scalars q.ty (bare v) ++ unset (width ps)) else skipped (scalars_applied (pieces ps) (suc i) x v) (slots q.ty)) (piece_of p)

no_payload : (x : List ℕ) (v : Written) (i : ℕ) → scalars_applied (pieces []) i x v ≡ []
unfolding scalars to_parts
no_payload x v i = refl

module _ (x : List ℕ) (v : Written) (ps : List Part) where
  pub payload_none : place_from zero x ps ≡ None → scalars_applied (pieces ps) zero x v ≡ []
  payload_none = none_chosen x (λ p. scalars (type_of p.ty) (bare v)) (λ i ps. scalars_applied (pieces ps) i x v) (no_payload x v) (payload_splits x v) ps zero

  pub payload_added : (at : ℕ) (d : Part) (a b c e : List Scalar) → place_from zero x ps ≡ Some at → at < length ps
      → Adds a (Word (length (take at ps)) ∷ unset (width (take at ps))) b → Adds b (scalars (type_of (get_or ps at d).ty) (bare v)) c → Adds c (unset (width (from ps (at + 1)))) e → Adds a (scalars_applied (pieces ps) zero x v) e
  payload_added at d a b c e place within =
      one_added x (λ p. scalars (type_of p.ty) (bare v)) (λ i ps. scalars_applied (pieces ps) i x v) (no_payload x v) (payload_splits x v) ps at (scalars (type_of (get_or ps at d).ty) (bare v)) a b c e place within
      (λ k h. ap (λ (q : Part). scalars (type_of q.ty) (bare v)) (get_or_default ps at k d h))

-- of a value that is one with a payload
pub applied_told : (ps : Parts) (x : Bor (List ℕ)) (at : Cursor) (w : Written) (Q : List Scalar → Type 0) → IsHead (head.Applied x at) w → ((v : Written) → StandsAt at v → Q (scalars_applied ps zero x.now v)) → Q (scalars (variant ps) w)
unfolding scalars
applied_told ps x at (applied p y v) Q h given = subst (λ z. Q (scalars_applied ps zero z v)) h.0 (given v h.1)
applied_told ps x at w Q h given = absurd h
