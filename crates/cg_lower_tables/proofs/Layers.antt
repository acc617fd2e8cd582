-- Layers of types with the types below by their places.
use Rattle.std.proofs.Common.{◌≡◌, ℕ, zero, suc, ◌+◌, ◌<◌, List, [], ◌∷◌, ◌++◌, length, map, take, slice_get, Some, false, refl, sym, ap, ◌∙◌, arith, append_assoc}
use Rattle.std.specs.Prelude.{Result, Ok, Err, IfOk}
use Rattle.cg_base.specs.declared.ty.Part.{the_lemmas}
use Rattle.cg_base.specs.Types.{Tau, var, part, to_parts}
use Rattle.cg_kinds.specs.Kinds.{or_unit, subst as subst_of, subst_parts}
use Rattle.cg_inst_types.specs.Places.{type_at}
use Rattle.cg_lower_tables.specs.declared.members.Kind.{Kind}
use Rattle.cg_lower_tables.specs.declared.members.Kind.TheVariants as kind
use Rattle.cg_lower_tables.specs.declared.members.Member.{Member}
use Rattle.cg_lower_tables.specs.Tables.{made, parts_at, unnamed, variables_from}

-- what stands behind others
get_behind : (pre : List Tau) (t : Tau) (rest : List Tau) → slice_get (pre ++ t ∷ rest) (length pre) ≡ Some t
get_behind [] t rest = refl
get_behind (u ∷ pre) t rest = get_behind pre t rest

length_more : (pre : List Tau) (t : Tau) → length (pre ++ t ∷ []) ≡ suc (length pre)
length_more [] t = refl
length_more (u ∷ pre) t = ap suc (length_more pre t)

module _ (types : List Tau) where
  -- type variables stand for the types at the places
  instead : (pre : List Tau) (ms : List Member) → subst_parts (pre ++ map (λ m. type_at types m.at) ms) (to_parts (variables_from (length pre) ms)) ≡ parts_at types ms
  unfolding subst_of to_parts
  instead pre [] = refl
  instead pre (m ∷ ms) =
      let t = type_at types m.at in
      let rest = map (λ n. type_at types n.at) ms in
      let behind = to_parts (variables_from (suc (length pre)) ms) in
      ap (λ o. part [] (or_unit o) false (subst_parts (pre ++ t ∷ rest) behind)) (get_behind pre t rest)
      ∙ ap (λ ts. part [] t false (subst_parts ts behind)) (sym (append_assoc pre (t ∷ []) rest))
      ∙ ap (λ k. part [] t false (subst_parts ((pre ++ t ∷ []) ++ rest) (to_parts (variables_from k ms)))) (sym (length_more pre t))
      ∙ ap (part [] t false) (instead (pre ++ t ∷ []) ms)

  map_places : (ms : List Member) → map (type_at types) (map (λ m. m.at) ms) ≡ map (λ m. type_at types m.at) ms
  map_places [] = refl
  map_places (m ∷ ms) = ap (λ ts. type_at types m.at ∷ ts) (map_places ms)

  pub layer_is : (k : Kind) (ms : List Member) → subst_of (map (type_at types) (map (λ m. m.at) ms)) (made k (to_parts (variables_from zero ms))) ≡ made k (parts_at types ms)
  unfolding subst_of
  layer_is kind.Variant ms = ap (λ ps. made kind.Variant ps) (ap (λ ts. subst_parts ts (to_parts (variables_from zero ms))) (map_places ms) ∙ instead [] ms)
  layer_is kind.Unboxed ms = ap (λ ps. made kind.Unboxed ps) (ap (λ ts. subst_parts ts (to_parts (variables_from zero ms))) (map_places ms) ∙ instead [] ms)
  layer_is kind.Boxed ms = ap (λ ps. made kind.Boxed ps) (ap (λ ts. subst_parts ts (to_parts (variables_from zero ms))) (map_places ms) ∙ instead [] ms)

-- one type variable more
next_from : (j i : ℕ) (ms : List Member) → i < length ms → variables_from j (take (suc i) ms) ≡ variables_from j (take i ms) ++ unnamed (var (j + i)) ∷ []
next_from j i [] h = absurd (omega (arith, h))
next_from j zero (m ∷ ms) h = let same : j ≡ j + 0 = omega arith in ap (λ k. unnamed (var k) ∷ []) same
next_from j (suc i) (m ∷ ms) h =
    let next : suc j + i ≡ j + suc i = omega arith in
    ap (λ ps. unnamed (var j) ∷ ps) (next_from (suc j) i ms (omega (arith, h)) ∙ ap (λ k. variables_from (suc j) (take i ms) ++ unnamed (var k) ∷ []) next)

pub variables_next : (ms : List Member) (i : ℕ) → i < length ms → variables_from zero (take (i + 1) ms) ≡ variables_from zero (take i ms) ++ unnamed (var i) ∷ []
variables_next ms i h =
    let next : i + 1 ≡ suc i = omega arith in let same : 0 + i ≡ i = omega arith in
    ap (λ k. variables_from zero (take k ms)) next ∙ next_from zero i ms h ∙ ap (λ k. variables_from zero (take i ms) ++ unnamed (var k) ∷ []) same

-- what is entered for a layer
pub layer_placed : {E : Type 0} (r : Result ℕ E) (old new : List Tau) (k : Kind) (ms : List Member) (places : List ℕ) (t : Tau)
    → IfOk r (λ at. slice_get new at ≡ Some (subst_of (map (type_at old) places) t)) → places ≡ map (λ m. m.at) ms → t ≡ made k (to_parts (variables_from zero ms))
    → IfOk r (λ at. slice_get new at ≡ Some (made k (parts_at old ms)))
layer_placed (Ok at) old new k ms places t e p q =
    e ∙ ap (λ ps. Some (subst_of (map (type_at old) ps) t)) p ∙ ap (λ u. Some (subst_of (map (type_at old) (map (λ m. m.at) ms)) u)) q ∙ ap Some (layer_is old k ms)
layer_placed (Err x) old new k ms places t e p q = tt

pub ruleset layer_steps = (variables_next, the_lemmas)
