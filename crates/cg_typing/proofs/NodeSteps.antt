-- Nodes of cores, part by part.
use Rattle.std.proofs.Common.{◌≡◌, ◌<◌, ◌≤◌, ◌+◌, ℕ, List, [], ◌++◌, drop, get_or, length, map, sym, ap, ◌∙◌, arith}
use Rattle.std.proofs.lemmas.List.{append_assoc, append-nil, drop_all, drop_more}
use Rattle.cg_core.specs.declared.term.FieldTerm.{FieldTerm}
use Rattle.cg_core.specs.declared.term.Form.{the_lemmas}
use Rattle.cg_core.specs.declared.term.Term.{Term}
use Rattle.cg_core.specs.declared.term.Typed.{Typed}
use Rattle.cg_core.specs.Kernels.{the_core, the_core_field}
use Rattle.cg_core.specs.Terms.{to_named, to_trees}
use Rattle.cg_typing.specs.Instances.{nodes_of, nodes_of_all, nodes_of_fields}

-- the first of the terms from a position on, and then the others; none, where there is no such term
pub first_term : (ts : List (Term Typed)) (i : ℕ) (t : Term Typed) → i < length ts → t ≡ get_or ts i t
    → nodes_of_all (to_trees (map the_core (drop i ts))) ≡ nodes_of (the_core t) ++ nodes_of_all (to_trees (map the_core (drop (i + 1) ts)))
unfolding to_trees
first_term ts i t h e =
    ap (λ us. nodes_of_all (to_trees (map the_core us))) (drop_more ts i t h)
    ∙ ap (λ u. nodes_of (the_core u) ++ nodes_of_all (to_trees (map the_core (drop (i + 1) ts)))) (sym e)

pub no_term : (ts : List (Term Typed)) (i : ℕ) → length ts ≤ i → nodes_of_all (to_trees (map the_core (drop i ts))) ≡ []
unfolding to_trees
no_term ts i h = ap (λ us. nodes_of_all (to_trees (map the_core us))) (drop_all i ts h)

-- the same of fields
field_term : (f : FieldTerm Typed) → (the_core_field f).term ≡ the_core f.term
field_term f = grind (arith, the_lemmas)

pub first_field : (fs : List (FieldTerm Typed)) (i : ℕ) (f : FieldTerm Typed) → i < length fs → f ≡ get_or fs i f
    → nodes_of_fields (to_named (map the_core_field (drop i fs))) ≡ nodes_of (the_core f.term) ++ nodes_of_fields (to_named (map the_core_field (drop (i + 1) fs)))
unfolding to_named
first_field fs i f h e =
    ap (λ gs. nodes_of_fields (to_named (map the_core_field gs))) (drop_more fs i f h)
    ∙ ap (λ g. nodes_of (the_core_field g).term ++ nodes_of_fields (to_named (map the_core_field (drop (i + 1) fs)))) (sym e)
    ∙ ap (λ t. nodes_of t ++ nodes_of_fields (to_named (map the_core_field (drop (i + 1) fs)))) (field_term f)

pub no_field : (fs : List (FieldTerm Typed)) (i : ℕ) → length fs ≤ i → nodes_of_fields (to_named (map the_core_field (drop i fs))) ≡ []
unfolding to_named
no_field fs i h = ap (λ gs. nodes_of_fields (to_named (map the_core_field gs))) (drop_all i fs h)

-- what is walked through, where one is next, and at the end
pub walked_on : {A : Type 0} (old new one rest there whole : List A) → new ≡ old ++ one → there ≡ one ++ rest → old ++ there ≡ whole → new ++ rest ≡ whole
walked_on old new one rest there whole n t w = ap (λ xs. xs ++ rest) n ∙ append_assoc old one rest ∙ ap (λ xs. old ++ xs) (sym t) ∙ w

pub walked_all : {A : Type 0} (old none whole : List A) → none ≡ [] → old ++ none ≡ whole → old ≡ whole
walked_all old none whole e w = sym (append-nil old) ∙ ap (λ xs. old ++ xs) (sym e) ∙ w

pub ruleset node_steps = (the_lemmas)
