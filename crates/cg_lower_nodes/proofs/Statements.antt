-- What the code that grows statements goes by.
use Rattle.std.proofs.Common.{◌≡◌, ℕ, suc, ◌+◌, ◌<◌, List, [], ◌∷◌, ◌++◌, get_or, length, map, take, sym, ap, ◌∙◌, arith}
use Rattle.std.proofs.lemmas.List.{append_assoc, length-map, length-take, map-append, take_more}
use Rattle.cg_ctree.specs.declared.tree.COpnd.{COpnd}
use Rattle.cg_ctree.specs.declared.tree.CRhs.TheVariants.{Opnd}
use Rattle.cg_ctree.specs.declared.tree.CStmt as statement
use Rattle.cg_ctree.specs.declared.tree.CStmt.{CStmt}
use Rattle.cg_ctree.specs.Trees.{Stmt, assign, stmt_of}
use Rattle.cg_lower_def.specs.Lowered.{filling}
use Rattle.cg_cgen_def.specs.Places as places
use Rattle.cg_lower_nodes.specs.declared.place.Place.{Place}
use Rattle.cg_lower_nodes.specs.Views.{place_of}

-- what sets a field
fills : ℕ → places.Place → ℕ → Stmt
fills i v to = assign (places.path (places.local to) (places.field i ∷ [])) (Opnd (places.operand v))

-- fields with one more
filling_more : (i to : ℕ) (vs : List places.Place) (v : places.Place) → filling i (vs ++ v ∷ []) to ≡ filling i vs to ++ fills (i + length vs) v to ∷ []
unfolding fills
filling_more i to [] v = ap (λ k. fills k v to ∷ []) (none_more i)
  where
    none_more : (i : ℕ) → i ≡ i + 0
    none_more i = omega arith
filling_more i to (w ∷ vs) v = ap (λ z. fills i w to ∷ z) (filling_more (suc i) to vs v ∙ ap (λ k. filling (suc i) vs to ++ fills k v to ∷ []) (next i (length vs)))
  where
    next : (i n : ℕ) → suc i + n ≡ i + suc n
    next i n = omega arith

-- the next field is filled
pub fill_more : (old now new : List CStmt) (all : List Place) (i at to : ℕ) (v : Place) (o : COpnd) → i < length all → v ≡ get_or all i v → at ≡ i → o ≡ places.operand (place_of v)
    → map stmt_of now ≡ map stmt_of old ++ filling 0 (map place_of (take i all)) to
    → map stmt_of new ≡ map stmt_of now ++ assign (places.path (places.local to) (places.field at ∷ [])) (Opnd o) ∷ []
    → map stmt_of new ≡ map stmt_of old ++ filling 0 (map place_of (take (i + 1) all)) to
unfolding fills
fill_more old now new all i at to v o h s p w e f =
    f ∙ ap (λ z. map stmt_of now ++ assign (places.path (places.local to) (places.field at ∷ [])) (Opnd z) ∷ []) w ∙ ap (λ z. z ++ fills at (place_of v) to ∷ []) e ∙ append_assoc (map stmt_of old) (filling 0 vs to) (fills at (place_of v) to ∷ [])
    ∙ ap (λ z. map stmt_of old ++ z) (ap (λ k. filling 0 vs to ++ fills k (place_of v) to ∷ []) many ∙ sym (filling_more 0 to vs (place_of v)) ∙ ap (λ ws. filling 0 ws to) all_of)
  where
    vs : List places.Place
    vs = map place_of (take i all)

    many : at ≡ 0 + length vs
    many = omega (arith, length-map (take i all) place_of, length-take i all)

    all_of : vs ++ place_of v ∷ [] ≡ map place_of (take (i + 1) all)
    all_of = sym (ap (map place_of) (take_more all i v h ∙ ap (λ z. take i all ++ z ∷ []) (sym s)) ∙ map-append place_of (take i all) (v ∷ []))

pub ruleset statement_steps = (statement.the_lemmas, map-append)
