-- Widths of types: what they tell is how many nodes a type has with types for its type variables.
use Rattle.std.specs.List.{All}
use Rattle.std.specs.Prelude.{IsTrue, nat_le}
use Rattle.std.proofs.lemmas.Bool.{le-leb, leb-true}
use Rattle.cg_core.specs.declared.term.Form.{the_lemmas as the_term_lemmas}
use Rattle.cg_core.specs.declared.term.Term.{Term}
use Rattle.cg_core.specs.declared.term.Typed.{Typed}
use Rattle.cg_core.specs.Kernels.{the_core}
use Rattle.cg_core.specs.Terms.{Note, Tree}
use Rattle.cg_inst.specs.Lists.{HasSmallTypes}
use Rattle.cg_typing.specs.Rules.{type_at}
use Rattle.cg_inst.proofs.LimitSteps.{IsSmallAt}
use Rattle.std.proofs.Common.{◌≡◌, ℕ, zero, suc, subst, ◌<◌, ◌≤◌, ◌+◌, min, List, [], ◌∷◌, ◌++◌, drop, get_or, length, map, refl, sym, ap, ◌∙◌, arith, slice_get}
use Rattle.std.proofs.lemmas.List.{drop_all, drop_more}
use Rattle.std.proofs.lemmas.Option.{slice_get-map}
use Rattle.cg_base.specs.declared.ty.Part.{Part, the_lemmas}
use Rattle.cg_base.specs.declared.ty.Ty.{Ty}
use Rattle.cg_base.proofs.Views.{piece_of}
use Rattle.cg_base.specs.Types.{Tau, var, seen, unit, word, bool, arrow, abs, variant, fields, Taus, none, more, Parts, end, part, to_taus, to_parts, type_of, part_of}
use Rattle.cg_inst.specs.Measured.{AreSmallBy, IsSmallBy, nodes_by, nodes_for, own_nodes, own_nodes_all, own_nodes_parts, variables_in, variables_in_all, variables_in_parts, width_of}
use Rattle.cg_kinds.specs.Kinds.{or_unit, subst as subst_of, subst_all, subst_parts, bang, bang_all, bang_parts}
use Rattle.cg_inst_types.specs.Layers.{capped}
use Rattle.cg_typing.specs.Parts.{is_small_enough, nodes, nodes_all, nodes_parts}

-- ---- a type has as many nodes as its bang

mutual
  unfolding bang

  nodes_bang : (t : Tau) → nodes (bang t) ≡ nodes t
  nodes_bang (var n) = refl
  nodes_bang (seen n) = refl
  nodes_bang unit = refl
  nodes_bang (word w) = refl
  nodes_bang bool = refl
  nodes_bang (arrow a b) = refl
  nodes_bang (abs name ts sigil) = ap (λ n. n + 1) (nodes_bang_all ts)
  nodes_bang (variant ps) = ap (λ n. n + 1) (nodes_bang_parts ps)
  nodes_bang (fields ps sigil) = ap (λ n. n + 1) (nodes_bang_parts ps)

  nodes_bang_all : (ts : Taus) → nodes_all (bang_all ts) ≡ nodes_all ts
  nodes_bang_all none = refl
  nodes_bang_all (more t ts) = (λ k. nodes_bang t k + nodes_bang_all ts k)

  nodes_bang_parts : (ps : Parts) → nodes_parts (bang_parts ps) ≡ nodes_parts ps
  nodes_bang_parts end = refl
  nodes_bang_parts (part name t taken ps) = (λ k. nodes_bang t k + nodes_bang_parts ps k)

-- ---- what a width tells

nodes_for_both : (args : List Tau) (vs ws : List ℕ) → nodes_for args (vs ++ ws) ≡ nodes_for args vs + nodes_for args ws
unfolding nodes_for
nodes_for_both args [] ws = omega arith
nodes_for_both args (v ∷ vs) ws = let rest = nodes_for_both args vs ws in omega (arith, rest)

nodes_for_one : (args : List Tau) (v : ℕ) → nodes_for args (v ∷ []) ≡ nodes (or_unit (slice_get args v))
unfolding nodes_for
nodes_for_one args v = omega arith

nodes_for_none : (args : List Tau) → nodes_for args [] ≡ 0
unfolding nodes_for
nodes_for_none args = refl

-- the sums of two that stand side by side
side_by_side : (args : List Tau) (vs ws : List ℕ) (a b n m : ℕ) → n ≡ a + nodes_for args vs → m ≡ b + nodes_for args ws → n + m ≡ (a + b) + nodes_for args (vs ++ ws)
side_by_side args vs ws a b n m e f = let g = nodes_for_both args vs ws in omega (arith, e, f, g)

one_above : (a n m : ℕ) → n ≡ a + m → n + 1 ≡ (a + 1) + m
one_above a n m e = omega (arith, e)

module _ (args : List Tau) where
  mutual
    unfolding subst_of own_nodes variables_in

    pub tells : (t : Tau) → nodes (subst_of args t) ≡ own_nodes t + nodes_for args (variables_in t)
    tells (var n) = let e = nodes_for_one args n in omega (arith, e)
    tells (seen n) = let e = nodes_bang (or_unit (slice_get args n)) ∙ sym (nodes_for_one args n) in omega (arith, e)
    tells unit = let e = nodes_for_none args in omega (arith, e)
    tells (word w) = let e = nodes_for_none args in omega (arith, e)
    tells bool = let e = nodes_for_none args in omega (arith, e)
    tells (arrow a b) = one_above _ _ _ (side_by_side args (variables_in a) (variables_in b) _ _ _ _ (tells a) (tells b))
    tells (abs name ts sigil) = one_above _ _ _ (tells_all ts)
    tells (variant ps) = one_above _ _ _ (tells_parts ps)
    tells (fields ps sigil) = one_above _ _ _ (tells_parts ps)

    tells_all : (ts : Taus) → nodes_all (subst_all args ts) ≡ own_nodes_all ts + nodes_for args (variables_in_all ts)
    tells_all none = let e = nodes_for_none args in omega (arith, e)
    tells_all (more t ts) = side_by_side args (variables_in t) (variables_in_all ts) _ _ _ _ (tells t) (tells_all ts)

    tells_parts : (ps : Parts) → nodes_parts (subst_parts args ps) ≡ own_nodes_parts ps + nodes_for args (variables_in_parts ps)
    tells_parts end = let e = nodes_for_none args in omega (arith, e)
    tells_parts (part name t taken ps) = side_by_side args (variables_in t) (variables_in_parts ps) _ _ _ _ (tells t) (tells_parts ps)

capped_below : (a b n : ℕ) → n ≡ a + b → capped (capped a + b) ≡ capped n
capped_below a b n e = omega (arith, e)

pub width_tells : (args : List Tau) (t : Tau) → nodes_by args (width_of t) ≡ capped (nodes (subst_of args t))
width_tells args t = capped_below (own_nodes t) (nodes_for args (variables_in t)) _ (tells args t)

-- ---- the first of those from a position on, and then the others; none, where there is none

pub first_type : (ts : List Ty) (i : ℕ) (t : Ty) → i < length ts → t ≡ get_or ts i t
    → own_nodes_all (to_taus (map type_of (drop i ts))) ≡ own_nodes (type_of t) + own_nodes_all (to_taus (map type_of (drop (i + 1) ts)))
unfolding to_taus own_nodes
first_type ts i t h e =
    ap (λ us. own_nodes_all (to_taus (map type_of us))) (drop_more ts i t h)
    ∙ ap (λ u. own_nodes (type_of u) + own_nodes_all (to_taus (map type_of (drop (i + 1) ts)))) (sym e)

pub first_type_variables : (ts : List Ty) (i : ℕ) (t : Ty) → i < length ts → t ≡ get_or ts i t
    → variables_in_all (to_taus (map type_of (drop i ts))) ≡ variables_in (type_of t) ++ variables_in_all (to_taus (map type_of (drop (i + 1) ts)))
unfolding to_taus variables_in
first_type_variables ts i t h e =
    ap (λ us. variables_in_all (to_taus (map type_of us))) (drop_more ts i t h)
    ∙ ap (λ u. variables_in (type_of u) ++ variables_in_all (to_taus (map type_of (drop (i + 1) ts)))) (sym e)

pub no_type : (ts : List Ty) (i : ℕ) → length ts ≤ i → own_nodes_all (to_taus (map type_of (drop i ts))) ≡ 0
unfolding to_taus own_nodes
no_type ts i h = ap (λ us. own_nodes_all (to_taus (map type_of us))) (drop_all i ts h)

pub no_type_variables : (ts : List Ty) (i : ℕ) → length ts ≤ i → variables_in_all (to_taus (map type_of (drop i ts))) ≡ []
unfolding to_taus variables_in
no_type_variables ts i h = ap (λ us. variables_in_all (to_taus (map type_of us))) (drop_all i ts h)

part_type : (p : Part) → (part_of p).ty ≡ type_of p.ty
part_type p = ap (λ piece. piece.ty) (piece_of p)

pub first_part : (ps : List Part) (i : ℕ) (p : Part) → i < length ps → p ≡ get_or ps i p
    → own_nodes_parts (to_parts (map part_of (drop i ps))) ≡ own_nodes (type_of p.ty) + own_nodes_parts (to_parts (map part_of (drop (i + 1) ps)))
unfolding to_parts own_nodes
first_part ps i p h e =
    ap (λ qs. own_nodes_parts (to_parts (map part_of qs))) (drop_more ps i p h)
    ∙ ap (λ q. own_nodes (part_of q).ty + own_nodes_parts (to_parts (map part_of (drop (i + 1) ps)))) (sym e)
    ∙ ap (λ t. own_nodes t + own_nodes_parts (to_parts (map part_of (drop (i + 1) ps)))) (part_type p)

pub first_part_variables : (ps : List Part) (i : ℕ) (p : Part) → i < length ps → p ≡ get_or ps i p
    → variables_in_parts (to_parts (map part_of (drop i ps))) ≡ variables_in (type_of p.ty) ++ variables_in_parts (to_parts (map part_of (drop (i + 1) ps)))
unfolding to_parts variables_in
first_part_variables ps i p h e =
    ap (λ qs. variables_in_parts (to_parts (map part_of qs))) (drop_more ps i p h)
    ∙ ap (λ q. variables_in (part_of q).ty ++ variables_in_parts (to_parts (map part_of (drop (i + 1) ps)))) (sym e)
    ∙ ap (λ t. variables_in t ++ variables_in_parts (to_parts (map part_of (drop (i + 1) ps)))) (part_type p)

pub no_part : (ps : List Part) (i : ℕ) → length ps ≤ i → own_nodes_parts (to_parts (map part_of (drop i ps))) ≡ 0
unfolding to_parts own_nodes
no_part ps i h = ap (λ qs. own_nodes_parts (to_parts (map part_of qs))) (drop_all i ps h)

pub no_part_variables : (ps : List Part) (i : ℕ) → length ps ≤ i → variables_in_parts (to_parts (map part_of (drop i ps))) ≡ []
unfolding to_parts variables_in
no_part_variables ps i h = ap (λ qs. variables_in_parts (to_parts (map part_of qs))) (drop_all i ps h)

pub first_variable : (args : List Tau) (vs : List ℕ) (i d : ℕ) → i < length vs
    → nodes_for args (drop i vs) ≡ nodes (or_unit (slice_get args (get_or vs i d))) + nodes_for args (drop (i + 1) vs)
unfolding nodes_for
first_variable args vs i d h = ap (nodes_for args) (drop_more vs i d h)

pub no_variable : (args : List Tau) (vs : List ℕ) (i : ℕ) → length vs ≤ i → nodes_for args (drop i vs) ≡ 0
unfolding nodes_for
no_variable args vs i h = ap (nodes_for args) (drop_all i vs h)

-- ---- a sum that grows, up to the largest u32

pub sum_on : (total n m next there rest w : ℕ) → n ≡ capped m → next ≡ min (total + n) 4294967295 → there ≡ m + rest → capped (total + there) ≡ w → capped (next + rest) ≡ w
sum_on total n m next there rest w e f g h = omega (arith, e, f, g, h)

pub sum_within : (total n next : ℕ) → next ≡ min (total + n) 4294967295 → next ≤ 4294967295
sum_within total n next e = omega (arith, e)

pub sum_whole : (total left w : ℕ) → total ≤ 4294967295 → left ≡ 0 → capped (total + left) ≡ w → total ≡ w
sum_whole total left w h e f = omega (arith, h, e, f)

-- ---- few enough

pub few_by : (args : List Tau) (w : ℕ × List ℕ) (n : ℕ) → n ≡ nodes_by args w → n ≤ 1024 → IsSmallBy args w
few_by args w n e h = le-leb (nodes_by args w) 1024 (omega (arith, e, h))

pub many_by : (args : List Tau) (w : ℕ × List ℕ) (n : ℕ) → n ≡ nodes_by args w → 1024 < n → IsSmallBy args w → ⊥
many_by args w n e h small = omega (arith, e, h, leb-true (nodes_by args w) 1024 small)

capped_few : (n : ℕ) → IsTrue (nat_le (capped n) 1024) → IsTrue (nat_le n 1024)
capped_few n h = le-leb n 1024 (omega (arith, leb-true (capped n) 1024 h))

few_capped : (n : ℕ) → IsTrue (nat_le n 1024) → IsTrue (nat_le (capped n) 1024)
few_capped n h = le-leb (capped n) 1024 (omega (arith, leb-true n 1024 h))

-- the width of a node's type
abbrev pub width_at : Term Typed → ℕ × List ℕ
width_at node = width_of (type_of node.note.ty)

pub type_of_node : (node : Term Typed) → type_of node.note.ty ≡ type_at (the_core node)
type_of_node node = grind (arith, the_term_lemmas)

width_small : (types : List Tau) (node : Term Typed) → IsSmallBy types (width_at node) → IsSmallAt types (the_core node)
width_small types node h =
    subst (λ t. IsTrue (is_small_enough (subst_of types t))) (type_of_node node)
    (capped_few (nodes (subst_of types (type_of node.note.ty))) (subst (λ n. IsTrue (nat_le n 1024)) (width_tells types (type_of node.note.ty)) h))

small_width : (types : List Tau) (node : Term Typed) → IsSmallAt types (the_core node) → IsSmallBy types (width_at node)
small_width types node h =
    subst (λ n. IsTrue (nat_le n 1024)) (sym (width_tells types (type_of node.note.ty)))
    (few_capped (nodes (subst_of types (type_of node.note.ty))) (subst (λ t. IsTrue (is_small_enough (subst_of types t))) (sym (type_of_node node)) h))

-- what holds of all of a list seen in one way holds of all of it seen in another
all_through : {A B C : Type 0} (P : B → Type 0) (Q : C → Type 0) (f : A → B) (g : A → C) → ((x : A) → P (f x) → Q (g x)) → (xs : List A) → All P (map f xs) → All Q (map g xs)
all_through P Q f g h [] all k d l = absurd (omega (arith, l))
all_through P Q f g h (x ∷ xs) all zero d l = h x (all zero (f x) (omega arith))
all_through P Q f g h (x ∷ xs) all (suc k) d l = all_through P Q f g h xs (λ j e m. all (suc j) e (omega (arith, m))) k d (omega (arith, l))

-- the widths of the nodes of a body tell that its types are small enough, and only where they are
module _ {A : Type 0} (at : A → Term Typed) (nodes : List A) (widths : List (ℕ × List ℕ)) (body : List (Tree Note))
    (are_widths : widths ≡ map (λ x. width_at (at x)) nodes)
    (are_nodes : map (λ x. the_core (at x)) nodes ≡ body) where
  pub small_as_told : (types : List Tau) → AreSmallBy types widths → HasSmallTypes types body
  small_as_told types h =
      subst (HasSmallTypes types) are_nodes
      (all_through (IsSmallBy types) (IsSmallAt types) (λ x. width_at (at x)) (λ x. the_core (at x)) (λ x. width_small types (at x)) nodes (subst (AreSmallBy types) are_widths h))

  pub told_as_small : (types : List Tau) → HasSmallTypes types body → AreSmallBy types widths
  told_as_small types h =
      subst (AreSmallBy types) (sym are_widths)
      (all_through (IsSmallAt types) (IsSmallBy types) (λ x. the_core (at x)) (λ x. width_at (at x)) (λ x. small_width types (at x)) nodes (subst (HasSmallTypes types) (sym are_nodes) h))

pub ruleset width_steps = (slice_get-map, the_lemmas)
