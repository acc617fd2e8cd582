-- Keys of instances and of types, and tables of types that grow.
use Rattle.std.proofs.Common.{◌≡◌, ℕ, ◌-◌, ◌<◌, ◌≤◌, Bool, true, false, List, [], ◌∷◌, Some, cond, drop, get_or, length, map, slice_get, refl, sym, ap, ◌∙◌, arith, eqb-true, eq-eqb, rules}
use Rattle.std.specs.Map.{lookup}
use Rattle.std.proofs.lemmas.Bool.{and_parts, and_from}
use Rattle.cg_base.specs.declared.ty.Ty.{Ty}
use Rattle.cg_base.specs.Types.{Tau, type_of}
use Rattle.cg_inst.proofs.SameInstance.{function_is, function_same}
use Rattle.cg_inst.proofs.Standing.{listed, stays_at, before}
use Rattle.cg_inst.specs.Lists.{same_function}
use Rattle.cg_kinds.specs.Kinds.{or_unit, subst as subst_of}
use Rattle.cg_inst_types.specs.Listings.{listing, list_at}
use Rattle.cg_inst_types.specs.Places.{IsOnce, Keeps, type_at}
use Rattle.cg_typing.specs.Instances.{Instance}
use Rattle.cg_lower_tables.specs.contracts.keys.KeyPartialEq.TheImpl.{ghosts}
use Rattle.cg_lower_tables.specs.declared.keys.Key.{Key}
use Rattle.cg_lower_tables.specs.Hints.{IsKeyOf, IsPlaceOf, same_key}

-- ---- the derived test says that keys are equal, and so does that of the definition

eq_sound : (a b : Key) → ghosts.eq a b ≡ true → a ≡ b
eq_sound a b e = grind (rules, arith)

eq_complete : (a b : Key) → a ≡ b → ghosts.eq a b ≡ true
eq_complete a b e = grind (rules, arith)

same_key_is : (a b : Key) → same_key a b ≡ true → a ≡ b
same_key_is a b h =
    let p = and_parts (same_function a.fun b.fun) _ h in let q = function_is a.fun b.fun p.0 in let r = eqb-true a.types b.types p.1 in
    ap (λ f. record { fun = f; types = a.types }) q ∙ ap (λ t. record { fun = b.fun; types = t }) r

pub same_key_self : (a : Key) → same_key a a ≡ true
same_key_self a = and_from (same_function a.fun a.fun) _ (function_same a.fun) (eq-eqb a.types a.types refl)

same_tests : (a b : Key) (x y : Bool) → (x ≡ true → a ≡ b) → (a ≡ b → x ≡ true) → (y ≡ true → a ≡ b) → (a ≡ b → y ≡ true) → x ≡ y
same_tests a b true y p q r s = sym (s (p refl))
same_tests a b false true p q r s = q (r refl)
same_tests a b false false p q r s = refl

eq_is_same : (a b : Key) → ghosts.eq a b ≡ same_key a b
eq_is_same a b =
    same_tests a b (ghosts.eq a b) (same_key a b) (eq_sound a b) (eq_complete a b) (same_key_is a b) (λ e. ap (same_key a) (sym e) ∙ same_key_self a)

pub lookup_same : (k : Key) (es : List (Key × ℕ)) → lookup (ghosts.eq k) es ≡ lookup (same_key k) es
lookup_same k [] = refl
lookup_same k (e ∷ es) =
    ap (λ b. cond b (Some e.1) (lookup (ghosts.eq k) es)) (eq_is_same k e.0) ∙ ap (λ o. cond (same_key k e.0) (Some e.1) o) (lookup_same k es)

-- ---- keys over a table

module _ (types : List Tau) (once : IsOnce types) where
  -- an instance has one key, and so has a type
  pub one_key : (k l : Key) (x : Instance) → IsKeyOf types k x → IsKeyOf types l x → k ≡ l
  one_key k l x p q =
      let f : k.fun ≡ l.fun = p.0 ∙ sym q.0 in
      let t : k.types ≡ l.types = once k.types l.types (listing (map (subst_of []) x.types)) p.1 q.1 in
      ap (λ f. record { fun = f; types = k.types }) f ∙ ap (λ t. record { fun = l.fun; types = t }) t

  pub one_place : (k l : ℕ) (t : Tau) → IsPlaceOf types k t → IsPlaceOf types l t → k ≡ l
  one_place k l t p q = once k l (subst_of [] t) p q

module _ (old new : List Tau) (kept : Keeps old new) where
  pub key_stays : (k : Key) (x : Instance) → IsKeyOf old k x → IsKeyOf new k x
  key_stays k x p = (p.0, stays_at old new kept k.types (listing (map (subst_of []) x.types)) p.1)

  pub place_stays : (k : ℕ) (t : Tau) → IsPlaceOf old k t → IsPlaceOf new k t
  place_stays k t p = stays_at old new kept k (subst_of [] t) p

-- ---- the types of an instance, one after the other from the last on

pub key_more : (now mid new : List Tau) (items : List Ty) (i list ty next : ℕ) (x : Ty)
    → Keeps now mid → 0 < i → i ≤ length items → x ≡ get_or items (i - 1) x
    → slice_get now list ≡ Some (listing (map (subst_of []) (map type_of (drop i items))))
    → slice_get mid ty ≡ Some (subst_of [] (type_of x))
    → slice_get new next ≡ Some (listing (type_at mid ty ∷ list_at mid list))
    → slice_get new next ≡ Some (listing (map (subst_of []) (map type_of (drop (i - 1) items))))
key_more now mid new items i list ty next x kept some bound e at_list at_ty at_next =
    let rest = map (subst_of []) (map type_of (drop i items)) in
    let tail : list_at mid list ≡ rest = listed mid list rest (stays_at now mid kept list (listing rest) at_list) in
    let head : type_at mid ty ≡ subst_of [] (type_of x) = ap or_unit at_ty in
    at_next ∙ ap (λ t. Some (listing (t ∷ list_at mid list))) head ∙ ap (λ ts. Some (listing (subst_of [] (type_of x) ∷ ts))) tail
    ∙ ap (λ ys. Some (listing (map (subst_of []) (map type_of ys)))) (sym (before items i x some bound e))

pub ruleset key_steps = (same_key_self, lookup_same)
