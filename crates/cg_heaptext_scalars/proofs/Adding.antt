-- Scalars that are added one behind the other.
use Rattle.std.proofs.Common.{◌≡◌, ℕ, ◌+◌, ◌<◌, ◌≤◌, List, [], ◌∷◌, ◌++◌, length, drop, get_or, map, sym, ap, ◌∙◌, append_assoc, refl}
use Rattle.std.proofs.lemmas.List.{at_drop_all, at_drop_more, map-append, replicate-append-replicate}
use Rattle.cg_base.proofs.Sequences.{append_none}
use Rattle.cg_base.proofs.Views.{piece_of}
use Rattle.cg_base.specs.declared.ty.Part.{Part}
use Rattle.cg_base.specs.Types.{Piece, to_parts, type_of}
use Rattle.cg_heap.specs.declared.cell.Scalar.{Scalar}
use Rattle.cg_heap.specs.declared.cell.Scalar.TheVariants.{Unset}
use Rattle.cg_heap.specs.Reps.{slots}
use Rattle.cg_heaptext_def.specs.Small.{capped}
use Rattle.cg_heaptext_scalars.specs.Given.{Adds, unset, width}

pub none_added : (us xs : List Scalar) → us ≡ [] → Adds xs us xs
none_added us xs e = sym (append_none xs) ∙ ap (λ l. xs ++ map capped l) (sym e)

pub two_added : (us vs a b c : List Scalar) → Adds a us b → Adds b vs c → Adds a (us ++ vs) c
two_added us vs a b c first second =
    second ∙ ap (λ l. l ++ map capped vs) first ∙ append_assoc a (map capped us) (map capped vs) ∙ ap (λ l. a ++ l) (sym (map-append capped us vs))

-- ---- in a loop: behind those that were there all are to be added, and these are left
abbrev pub Goes : List Scalar → List Scalar → List Scalar → List Scalar → Type 0
Goes old all now left = now ++ map capped left ≡ old ++ map capped all

pub goes_on : (old all now new us left rest : List Scalar) → Goes old all now left → Adds now us new → left ≡ us ++ rest → Goes old all new rest
goes_on old all now new us left rest going added splits =
    ap (λ l. l ++ map capped rest) added
    ∙ append_assoc now (map capped us) (map capped rest)
    ∙ ap (λ l. now ++ l) (sym (map-append capped us rest))
    ∙ ap (λ l. now ++ map capped l) (sym splits)
    ∙ going

pub goes_no_more : (old all now left : List Scalar) → Goes old all now left → left ≡ [] → Adds old all now
goes_no_more old all now left going none = sym (append_none now) ∙ ap (λ l. now ++ map capped l) (sym none) ∙ going

-- ---- those that are unset
pub no_width : width [] ≡ 0
unfolding slots to_parts
no_width = refl

pub width_more : (p : Part) (ps : List Part) → width (p ∷ ps) ≡ slots (type_of p.ty) + width ps
unfolding slots to_parts
width_more p ps = ap (λ (q : Piece). slots q.ty + width ps) (piece_of p)

pub unset_next : (ps : List Part) (i : ℕ) (p : Part) → i < length ps → p ≡ get_or ps i p → unset (width (drop i ps)) ≡ unset (slots (type_of p.ty)) ++ unset (width (drop (i + 1) ps))
unset_next ps i p within is =
    at_drop_more (λ l. unset (width l)) ps i p within
    ∙ ap (λ q. unset (width (q ∷ drop (i + 1) ps))) (sym is)
    ∙ ap unset (width_more p (drop (i + 1) ps))
    ∙ sym (replicate-append-replicate (slots (type_of p.ty)) (width (drop (i + 1) ps)) Unset)

pub unset_past : (ps : List Part) (i : ℕ) → length ps ≤ i → unset (width (drop i ps)) ≡ []
unset_past ps i over = at_drop_all (λ l. unset (width l)) ps i over ∙ ap unset no_width
