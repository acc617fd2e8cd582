-- What entering a type's parts one after the other makes.
use Rattle.std.proofs.Common.{◌≡◌, ℕ, ◌<◌, ◌≤◌, ◌+◌, ◌-◌, List, ◌∷◌, length, map, drop, take, slice_get, get_or, Some, sym, ap, ◌∙◌, arith}
use Rattle.std.specs.Prelude.{Result, Ok, Err, IfOk}
use Rattle.std.proofs.lemmas.List.{drop_more}
use Rattle.cg_base.specs.declared.kind.Sigil.{Sigil}
use Rattle.cg_base.specs.declared.ty.Ty.{Ty}
use Rattle.cg_base.specs.declared.ty.Part.{Part}
use Rattle.cg_base.specs.Types.{Tau, Piece, abs, arrow, variant, fields, none, end, to_taus, to_parts, type_of, part_of}
use Rattle.cg_base.proofs.Views.{piece_of}
use Rattle.cg_kinds.specs.Kinds.{subst as subst_of, subst_piece}
use Rattle.cg_kinds.proofs.SubstSteps.{subst_list, subst_pieces}
use Rattle.cg_inst_types.specs.Forms.{with_argument, with_arguments, with_part, with_parts}
use Rattle.cg_inst_types.specs.Places.{Keeps, type_at}
use Rattle.cg_inst_types.specs.Layers.{types_at}
use Rattle.cg_inst_types.proofs.Fronts.{arguments_abs, parts_variant, parts_fields}
use Rattle.cg_inst_types.proofs.Growth.{keeps_take, keeps_length, keeps_get, at_type}

pub entered_as : {E : Type 0} (r : Result ℕ E) (new : List Tau) (t u : Tau) → IfOk r (λ at. slice_get new at ≡ Some t) → t ≡ u → IfOk r (λ at. slice_get new at ≡ Some u)
entered_as (Ok at) new t u p e = p ∙ ap Some e
entered_as (Err x) new t u p e = tt

-- the arguments stay as the table grows
pub args_kept : (old mid : List Tau) → Keeps old mid → (held : ℕ) → held ≤ length old → (args : List ℕ) → types_at (take held mid) args ≡ types_at (take held old) args
args_kept old mid kept held within args = ap (λ ts. types_at ts args) (keeps_take old mid kept held within)

pub held_kept : (old mid : List Tau) → Keeps old mid → (held : ℕ) → held ≤ length old → held ≤ length mid
held_kept old mid kept held within = let more = keeps_length old mid kept in omega arith

-- ---- whole lists

pub arguments_entered : (known known' : List Tau) → known' ≡ known → (r : Tau) (name : List ℕ) (sigil : Sigil) → r ≡ abs name none sigil → (ts : List Tau) →
    with_arguments (map (subst_of known') ts) r ≡ subst_of known (abs name (to_taus ts) sigil)
unfolding subst_of
arguments_entered known known' e r name sigil f ts =
    (λ i. with_arguments (map (subst_of (e i)) ts) (f i)) ∙ arguments_abs (map (subst_of known) ts) name sigil ∙ ap (λ us. abs name us sigil) (sym (subst_list known ts))

pub alternatives_entered : (known known' : List Tau) → known' ≡ known → (r : Tau) → r ≡ variant end → (ps : List Piece) →
    with_parts (map (subst_piece known') ps) r ≡ subst_of known (variant (to_parts ps))
unfolding subst_of
alternatives_entered known known' e r f ps =
    (λ i. with_parts (map (subst_piece (e i)) ps) (f i)) ∙ parts_variant (map (subst_piece known) ps) ∙ ap variant (sym (subst_pieces known ps))

pub fields_entered : (known known' : List Tau) → known' ≡ known → (r : Tau) (sigil : Sigil) → r ≡ fields end sigil → (ps : List Piece) →
    with_parts (map (subst_piece known') ps) r ≡ subst_of known (fields (to_parts ps) sigil)
unfolding subst_of
fields_entered known known' e r sigil f ps =
    (λ i. with_parts (map (subst_piece (e i)) ps) (f i)) ∙ parts_fields (map (subst_piece known) ps) sigil ∙ ap (λ us. fields us sigil) (sym (subst_pieces known ps))

-- ---- one more

pub drop_before : {X : Type 0} (xs : List X) (i : ℕ) (x : X) → 0 < i → i ≤ length xs → x ≡ get_or xs (i - 1) x → x ∷ drop i xs ≡ drop (i - 1) xs
drop_before xs i x some within e =
    let n : i - 1 + 1 ≡ i = omega arith in
    let next = drop_more xs (i - 1) x (omega arith) in
    sym (next ∙ (λ k. sym e k ∷ drop (n k) xs))

pub argument_more : (known known' : List Tau) → known' ≡ known → (items : List Ty) (i : ℕ) (item : Ty) → item ∷ drop i items ≡ drop (i - 1) items →
    (base r : Tau) → r ≡ with_arguments (map (subst_of known) (map type_of (drop i items))) base →
    with_argument r (subst_of known' (type_of item)) ≡ with_arguments (map (subst_of known) (map type_of (drop (i - 1) items))) base
argument_more known known' e items i item d base r f =
    (λ k. with_argument (f k) (subst_of (e k) (type_of item))) ∙ ap (λ ys. with_arguments (map (subst_of known) (map type_of ys)) base) d

pub part_more : (known known' : List Tau) → known' ≡ known → (items : List Part) (i : ℕ) (item : Part) → item ∷ drop i items ≡ drop (i - 1) items →
    (base r : Tau) → r ≡ with_parts (map (subst_piece known) (map part_of (drop i items))) base →
    with_part r item.name (subst_of known' (type_of item.ty)) item.taken ≡ with_parts (map (subst_piece known) (map part_of (drop (i - 1) items))) base
part_more known known' e items i item d base r f =
    (λ k. with_part (f k) item.name (subst_of (e k) (type_of item.ty)) item.taken)
    ∙ ap (λ p. with_part (with_parts (map (subst_piece known) (map part_of (drop i items))) base) p.name (subst_of known p.ty) p.taken) (sym (piece_of item))
    ∙ ap (λ ys. with_parts (map (subst_piece known) (map part_of ys)) base) d

-- an arrow between two types that were entered one after the other
pub arrow_entered : (old mid new : List Tau) → Keeps old mid → Keeps mid new → (held : ℕ) → held ≤ length old → (args : List ℕ) (i j : ℕ) (a b : Tau) →
    slice_get mid i ≡ Some (subst_of (types_at (take held old) args) a) → slice_get new j ≡ Some (subst_of (types_at (take held mid) args) b) →
    arrow (type_at new i) (type_at new j) ≡ subst_of (types_at (take held old) args) (arrow a b)
unfolding subst_of
arrow_entered old mid new first second held within args i j a b p q =
    let from = at_type new i _ (keeps_get mid new second i _ p) in
    let to = at_type new j _ q ∙ ap (λ known. subst_of known b) (args_kept old mid first held within args) in
    (λ k. arrow (from k) (to k))
