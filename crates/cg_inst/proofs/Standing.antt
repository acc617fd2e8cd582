-- Type arguments in a table that grows.
use Rattle.std.proofs.Common.{◌≡◌, ℕ, zero, suc, ◌<◌, ◌≤◌, ◌+◌, ◌-◌, List, [], ◌∷◌, drop, get_or, length, map, slice_get, Some, refl, sym, ap, ◌∙◌, arith}
use Rattle.std.proofs.lemmas.List.{drop_more}
use Rattle.cg_base.specs.Types.{Tau, type_of}
use Rattle.cg_base.proofs.Views.{list_taus}
use Rattle.cg_core.specs.declared.at.TyArg.{TyArg}
use Rattle.cg_core.specs.Terms.{arg_of}
use Rattle.cg_kinds.specs.Kinds.{or_unit, subst as subst_of}
use Rattle.cg_inst_types.specs.Layers.{types_at}
use Rattle.cg_inst_types.specs.Listings.{IsListing, list_at, list_of, listing}
use Rattle.cg_inst_types.specs.Places.{Each, Keeps, type_at}
use Rattle.cg_typing.specs.Functions.{arg_types}
use Rattle.cg_inst_types.proofs.Growth.{type_kept as type_stays}

-- ---- what stays

pub stays_at : {A : Type 0} (old new : List A) → Keeps old new → (i : ℕ) (x : A) → slice_get old i ≡ Some x → slice_get new i ≡ Some x
stays_at [] new k i x e = absurd (cc)
stays_at (y ∷ old) [] k i x e = absurd (cc)
stays_at (y ∷ old) (z ∷ new) k zero x e = let q : z ≡ y = cc in ap Some q ∙ e
stays_at (y ∷ old) (z ∷ new) k (suc i) x e = stays_at old new (cc) i x e

pub keeps_on : {A : Type 0} (old mid new : List A) → Keeps old mid → Keeps mid new → Keeps old new
keeps_on [] mid new k l = refl
keeps_on (x ∷ old) [] new k l = absurd (cc)
keeps_on (x ∷ old) (y ∷ mid) [] k l = absurd (cc)
keeps_on (x ∷ old) (y ∷ mid) (z ∷ new) k l =
    let first : y ≡ x = cc in let second : z ≡ y = cc in let rest = keeps_on old mid new (cc) (cc) in cc

pub keeps_through : {A : Type 0} (a b c d : List A) → Keeps a b → Keeps b c → Keeps c d → Keeps a d
keeps_through a b c d p q r = keeps_on a c d (keeps_on a b c p q) r

pub there : {A : Type 0} (xs : List A) (i : ℕ) → i < length xs → (x : A) × (slice_get xs i ≡ Some x)
there [] i h = absurd (omega arith)
there (x ∷ xs) zero h = (x, refl)
there (x ∷ xs) (suc i) h = there xs i (omega (arith, h))

pub types_stay : (old new : List Tau) → Keeps old new → (places : List ℕ) → Each (λ i. i < length old) places → types_at new places ≡ types_at old places
types_stay old new k [] h = refl
types_stay old new k (i ∷ is) h =
    ap (λ t. t ∷ types_at new is) (type_stays old new k i h.0) ∙ ap (λ ts. type_at old i ∷ ts) (types_stay old new k is h.1)

longer : {A : Type 0} (old new : List A) → Keeps old new → length old ≤ length new
longer [] new k = omega arith
longer (x ∷ old) [] k = absurd (cc)
longer (x ∷ old) (y ∷ new) k = omega (arith, longer old new (cc))

within_stays : (old new : List Tau) → Keeps old new → (places : List ℕ) → Each (λ i. i < length old) places → Each (λ i. i < length new) places
within_stays old new k [] h = tt
within_stays old new k (i ∷ is) h = (omega (arith, h.0, longer old new k), within_stays old new k is h.1)

-- ---- lists

-- where a list is known to stand, it is that list
pub listed : (types : List Tau) (at : ℕ) (ts : List Tau) → slice_get types at ≡ Some (listing ts) → list_at types at ≡ ts
listed types at ts e = ap list_of e ∙ list_taus ts

pub is_listing : (types : List Tau) (at : ℕ) (ts : List Tau) → slice_get types at ≡ Some (listing ts) → IsListing types at
is_listing types at ts e = e ∙ ap (λ us. Some (listing us)) (sym (listed types at ts e))

pub listing_on : (old new : List Tau) → Keeps old new → (at : ℕ) (ts : List Tau) → slice_get old at ≡ Some (listing ts) → IsListing new at
listing_on old new k at ts e = is_listing new at ts (stays_at old new k at (listing ts) e)

pub within : {A : Type 0} (xs : List A) (i : ℕ) (x : A) → slice_get xs i ≡ Some x → i < length xs
within [] i x e = absurd (cc)
within (y ∷ xs) zero x e = omega arith
within (y ∷ xs) (suc i) x e = omega (arith, within xs i x e)

-- ---- one argument more

pub before : {X : Type 0} (xs : List X) (i : ℕ) (x : X) → 0 < i → i ≤ length xs → x ≡ get_or xs (i - 1) x → drop (i - 1) xs ≡ x ∷ drop i xs
before xs i x some h e =
    let n : i - 1 + 1 ≡ i = omega arith in
    drop_more xs (i - 1) x (omega (arith, some, h)) ∙ ap (λ y. y ∷ drop (i - 1 + 1) xs) (sym e) ∙ ap (λ m. x ∷ drop m xs) n

-- the list with the argument before a position in front: the table was `first`, then `now`, then `mid`, in which the argument stands, and
-- then `new`
pub argument_more : (first now mid new : List Tau) (places : List ℕ) (items : List TyArg) (i list ty next : ℕ) (x : TyArg)
    → Each (λ at. at < length first) places → Keeps first now → Keeps now mid
    → 0 < i → i ≤ length items → x ≡ get_or items (i - 1) x
    → slice_get now list ≡ Some (listing (map (subst_of (types_at first places)) (arg_types (map arg_of (drop i items)))))
    → slice_get mid ty ≡ Some (subst_of (types_at now places) (type_of x.ty))
    → slice_get new next ≡ Some (listing (type_at mid ty ∷ list_at mid list))
    → slice_get new next ≡ Some (listing (map (subst_of (types_at first places)) (arg_types (map arg_of (drop (i - 1) items)))))
argument_more first now mid new places items i list ty next x h k l some bound e at_list at_ty at_next =
    let given = types_at first places in
    let rest = map (subst_of given) (arg_types (map arg_of (drop i items))) in
    let tail : list_at mid list ≡ rest = listed mid list rest (stays_at now mid l list (listing rest) at_list) in
    let head : type_at mid ty ≡ subst_of given (type_of x.ty) = ap or_unit at_ty ∙ ap (λ ts. subst_of ts (type_of x.ty)) (types_stay first now k places h) in
    at_next ∙ ap (λ t. Some (listing (t ∷ list_at mid list))) head ∙ ap (λ ts. Some (listing (subst_of given (type_of x.ty) ∷ ts))) tail
    ∙ ap (λ ys. Some (listing (map (subst_of given) (arg_types (map arg_of ys))))) (sym (before items i x some bound e))
