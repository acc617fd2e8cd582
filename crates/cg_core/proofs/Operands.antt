-- Operands of terms and cores, one and two, and a core by its note and its form.
use Rattle.std.proofs.Common.{◌≡◌, ◌<◌, ◌≤◌, List, [], ◌∷◌, length, map, get_or, sym, ap, arith, ◌∙◌}
use Rattle.cg_base.specs.declared.place.Place.{Place}
use Rattle.cg_core.specs.declared.term.Term.{Term, fold_out-Term}
use Rattle.cg_core.specs.Kernels.{the_term, the_core, the_core_form}
use Rattle.cg_core.specs.Terms.{none, more, to_trees, Note, Tree, term, Shape, OneField, note_of, shape_layer, field_layer, term_layer}
use Rattle.cg_core.specs.declared.term.Typed.{Typed}

pub one_operand : (ts : List (Term Place)) (x : Term Place) → 1 ≤ length ts → length ts < 2 → x ≡ get_or ts 0 x → to_trees (map the_term ts) ≡ more (the_term x) none
unfolding to_trees
one_operand [] x h w e = absurd (omega arith)
one_operand (y ∷ []) x h w e = ap (λ t. more (the_term t) none) (sym e)
one_operand (y ∷ z ∷ ts) x h w e = absurd (omega arith)

pub two_operands : (ts : List (Term Place)) (a b : Term Place) → 2 ≤ length ts → length ts < 3 → a ≡ get_or ts 0 a → b ≡ get_or ts 1 b
    → to_trees (map the_term ts) ≡ more (the_term a) (more (the_term b) none)
unfolding to_trees
two_operands [] a b h w e k = absurd (omega arith)
two_operands (x ∷ []) a b h w e k = absurd (omega arith)
two_operands (x ∷ y ∷ []) a b h w e k = ap (λ t. more (the_term t) (more (the_term y) none)) (sym e) ∙ ap (λ t. more (the_term a) (more (the_term t) none)) (sym k)
two_operands (x ∷ y ∷ z ∷ ts) a b h w e k = absurd (omega arith)

pub core_is : (t : Term Typed) → the_core t ≡ term (note_of t.note) (the_core_form t.form)
core_is t = fold_out-Term Typed (Shape Note) (OneField Note) (Tree Note) (shape_layer Typed Note note_of) (field_layer Typed Note note_of) (term_layer Typed Note note_of) t
