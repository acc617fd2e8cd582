-- The trees' own lists, made of lists, and back, and each view at one layer.
use Rattle.std.proofs.Common.{◌≡◌, List, [], ◌∷◌, map, refl, sym, ap, ◌∙◌}
use Rattle.cg_core.specs.declared.term.Term.{Term, fold_out-Term}
use Rattle.cg_core.specs.declared.term.FieldTerm.{FieldTerm, fold_out-FieldTerm}
use Rattle.cg_core.specs.declared.derivation.Deriv.{Deriv, out-Deriv, fold_out-Deriv}
use Rattle.cg_core.specs.Terms.{Tree, Shape, OneField, term, to_trees, to_named, tree_list, field_list, shape_layer, field_layer, term_layer, tree_of, shape_of, field_of}
use Rattle.cg_core.specs.Derivations.{Derivation, derivation, to_derivations, derivation_list, derivation_layer, derivation_of}

module _ (A B : Type 0) (note : A → B) where
  -- a term, note and form
  pub term_is : (t : Term A) → tree_of A B note t ≡ term (note t.note) (shape_of A B note t.form)
  term_is t = fold_out-Term A (Shape B) (OneField B) (Tree B) (shape_layer A B note) (field_layer A B note) (term_layer A B note) t

  -- a field, name and term
  pub field_is : (f : FieldTerm A) → field_of A B note f ≡ record { name = f.name; term = tree_of A B note f.term }
  field_is f = fold_out-FieldTerm A (Shape B) (OneField B) (Tree B) (shape_layer A B note) (field_layer A B note) (term_layer A B note) f

-- a derivation, part by part
pub derivation_is : (d : Deriv) → derivation_of d ≡ derivation (out-Deriv d).node (out-Deriv d).marks (to_derivations (map derivation_of (out-Deriv d).parts))
derivation_is d = fold_out-Deriv Derivation derivation_layer d

-- a list that was made the tree's own comes back
pub list_trees : {A : Type 0} (ts : List (Tree A)) → tree_list (to_trees ts) ≡ ts
unfolding to_trees tree_list
list_trees [] = refl
list_trees (t ∷ ts) = ap (λ l. t ∷ l) (list_trees ts)

pub list_named : {A : Type 0} (fs : List (OneField A)) → field_list (to_named fs) ≡ fs
unfolding to_named field_list
list_named [] = refl
list_named (f ∷ fs) = ap (λ l. f ∷ l) (list_named fs)

pub list_derivations : (ds : List Derivation) → derivation_list (to_derivations ds) ≡ ds
unfolding to_derivations derivation_list
list_derivations [] = refl
list_derivations (d ∷ ds) = ap (λ l. d ∷ l) (list_derivations ds)

-- so lists are equal where the tree's own are
pub trees_same : {A : Type 0} (xs ys : List (Tree A)) → to_trees xs ≡ to_trees ys → xs ≡ ys
trees_same xs ys e = sym (list_trees xs) ∙ ap tree_list e ∙ list_trees ys

pub named_same : {A : Type 0} (xs ys : List (OneField A)) → to_named xs ≡ to_named ys → xs ≡ ys
named_same xs ys e = sym (list_named xs) ∙ ap field_list e ∙ list_named ys

pub derivations_same : (xs ys : List Derivation) → to_derivations xs ≡ to_derivations ys → xs ≡ ys
derivations_same xs ys e = sym (list_derivations xs) ∙ ap derivation_list e ∙ list_derivations ys
