-- The tree's own lists, made of lists, and back.
use Rattle.std.proofs.Common.{◌≡◌, ℕ, ◌<◌, List, [], ◌∷◌, length, get_or, map, refl, sym, ap, ◌∙◌}
use Rattle.std.proofs.lemmas.List.{get_or-map}
use Rattle.cg_base.specs.declared.ty.Part.{Part, fold_out-Part}
use Rattle.cg_base.specs.Types.{layer, piece, type_of, part_of, Tau, Piece, to_taus, to_parts, tau_list, piece_list}

-- a part, field by field
pub piece_of : (p : Part) → part_of p ≡ record { name = p.name; ty = type_of p.ty; taken = p.taken }
piece_of p = fold_out-Part Tau Piece layer piece p

pub list_taus : (ts : List Tau) → tau_list (to_taus ts) ≡ ts
unfolding to_taus tau_list
list_taus [] = refl
list_taus (t ∷ ts) = ap (λ l. t ∷ l) (list_taus ts)

pub list_parts : (ps : List Piece) → piece_list (to_parts ps) ≡ ps
unfolding to_parts piece_list
list_parts [] = refl
list_parts (p ∷ ps) = ap (λ l. p ∷ l) (list_parts ps)

pub taus_same : (xs ys : List Tau) → to_taus xs ≡ to_taus ys → xs ≡ ys
taus_same xs ys e = sym (list_taus xs) ∙ ap tau_list e ∙ list_taus ys

pub parts_same : (xs ys : List Piece) → to_parts xs ≡ to_parts ys → xs ≡ ys
parts_same xs ys e = sym (list_parts xs) ∙ ap piece_list e ∙ list_parts ys

-- equal lists at one place
pub map_at : {X Y : Type 0} (f : X → Y) (xs ys : List X) (i : ℕ) (x y : X) → i < length xs → i < length ys → x ≡ get_or xs i x → y ≡ get_or ys i y → map f xs ≡ map f ys → f x ≡ f y
map_at f xs ys i x y hx hy ex ey e =
    ap f ex ∙ sym (get_or-map f xs i x (f x) hx) ∙ ap (λ l. get_or l i (f x)) e ∙ get_or-map f ys i y (f x) hy ∙ ap f (sym ey)
