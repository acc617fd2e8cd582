-- Parts that are marked, at what is left of a list.
use Rattle.std.proofs.Common.{◌≡◌, ℕ, ◌<◌, ◌≤◌, List, [], ◌∷◌, ◌++◌, map, length, drop, get_or, ◌+◌, append_assoc, Bool, true, false, not, ◌&&◌, ◌||◌, refl, ap, sym, ◌∙◌, if◌then◌else◌}
use Rattle.std.specs.Str.{bytes_eq}
use Rattle.std.proofs.lemmas.List.{at_drop_more, at_drop_all}
use Rattle.cg_base.proofs.Views.{piece_of}
use Rattle.cg_base.specs.declared.ty.Part.{Part}
use Rattle.cg_base.specs.Types.{Piece, part, to_parts, part_of}
use Rattle.cg_typing.specs.Parts.{parts_with, all_parts_taken}
use Rattle.cg_typing_parts.specs.Views.{marked}

-- the pieces, of which the first of this name was marked, or is still to be
unfoldable pub left_to_mark : Bool → List ℕ → Bool → List Piece → List Piece
left_to_mark true n now ps = ps
left_to_mark false n now [] = []
left_to_mark false n now (p ∷ ps) = if bytes_eq n p.name then marked now p ∷ ps else p ∷ left_to_mark false n now ps

-- the definition's own list
pub marked_pieces : (n : List ℕ) (now : Bool) (ps : List Piece) → parts_with n now (to_parts ps) ≡ to_parts (left_to_mark false n now ps)
unfolding to_parts left_to_mark
marked_pieces n now [] = refl
marked_pieces n now (p ∷ ps) = at (bytes_eq n p.name) (marked_pieces n now ps)
  where
    at : (b : Bool) → parts_with n now (to_parts ps) ≡ to_parts (left_to_mark false n now ps)
        → (if b then part p.name p.ty now (to_parts ps) else part p.name p.ty p.taken (parts_with n now (to_parts ps)))
        ≡ to_parts (if b then marked now p ∷ ps else p ∷ left_to_mark false n now ps)
    at true e = refl
    at false e = ap (part p.name p.ty p.taken) e

pub taken_pieces : (ps : List Piece) → all_parts_taken (to_parts ps) ≡ to_parts (map (marked true) ps)
unfolding to_parts
taken_pieces [] = refl
taken_pieces (p ∷ ps) = ap (part p.name p.ty true) (taken_pieces ps)

-- one piece more, and none
mark-more : (found : Bool) (n : List ℕ) (now : Bool) (p : Piece) (ps : List Piece) (here : Bool) → (not found && bytes_eq n p.name) ≡ here
    → left_to_mark found n now (p ∷ ps) ≡ (marked (if here then now else p.taken) p ∷ left_to_mark (found || here) n now ps)
unfolding left_to_mark
mark-more true n now p ps here e = ap (λ b. marked (if b then now else p.taken) p ∷ ps) e
mark-more false n now p ps here e = at (bytes_eq n p.name) ∙ ap (λ b. marked (if b then now else p.taken) p ∷ left_to_mark b n now ps) e
  where
    at : (b : Bool) → (if b then marked now p ∷ ps else p ∷ left_to_mark false n now ps) ≡ (marked (if b then now else p.taken) p ∷ left_to_mark b n now ps)
    at true = refl
    at false = refl

pub mark_rest : (found : Bool) (n : List ℕ) (now : Bool) (ps : List Part) (i : ℕ) (d : Part) (here : Bool) → i < length ps
    → here ≡ (not found && bytes_eq n (get_or ps i d).name)
    → left_to_mark found n now (map part_of (drop i ps))
    ≡ (marked (if here then now else (get_or ps i d).taken) (part_of (get_or ps i d)) ∷ left_to_mark (found || here) n now (map part_of (drop (i + 1) ps)))
mark_rest found n now ps i d here h e =
    at_drop_more (λ l. left_to_mark found n now (map part_of l)) ps i d h
    ∙ mark-more found n now (part_of (get_or ps i d)) (map part_of (drop (i + 1) ps)) here
    (ap (λ q. not found && bytes_eq n q.name) (piece_of (get_or ps i d)) ∙ sym e)
    ∙ ap (λ q. marked (if here then now else q.taken) (part_of (get_or ps i d)) ∷ left_to_mark (found || here) n now (map part_of (drop (i + 1) ps)))
    (piece_of (get_or ps i d))

pub marked_more : (olds news : List Piece) (found : Bool) (n : List ℕ) (now : Bool) (ps : List Part) (i : ℕ) (d : Part) (here : Bool) → i < length ps
    → d ≡ get_or ps i d → here ≡ (not found && bytes_eq n d.name) → news ≡ olds ++ marked (if here then now else d.taken) (part_of d) ∷ []
    → news ++ left_to_mark (found || here) n now (map part_of (drop (i + 1) ps)) ≡ olds ++ left_to_mark found n now (map part_of (drop i ps))
marked_more olds news found n now ps i d here h at e m =
    ap (λ l. l ++ left_to_mark (found || here) n now (map part_of (drop (i + 1) ps))) m
    ∙ append_assoc olds (marked (if here then now else d.taken) (part_of d) ∷ []) _
    ∙ ap (λ q. olds ++ marked (if here then now else q.taken) (part_of q) ∷ left_to_mark (found || here) n now (map part_of (drop (i + 1) ps))) at
    ∙ ap (λ l. olds ++ l) (sym (mark_rest found n now ps i d here h (e ∙ ap (λ q. not found && bytes_eq n q.name) at)))

pub mark_past : (found : Bool) (n : List ℕ) (now : Bool) (ps : List Part) (i : ℕ) → length ps ≤ i → left_to_mark found n now (map part_of (drop i ps)) ≡ []
unfolding left_to_mark
mark_past found n now ps i h = at_drop_all (λ l. left_to_mark found n now (map part_of l)) ps i h ∙ none found
  where
    none : (b : Bool) → left_to_mark b n now [] ≡ []
    none true = refl
    none false = refl
