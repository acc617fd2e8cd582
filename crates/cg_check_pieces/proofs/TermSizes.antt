-- Sizes of terms, which the passes over them go by.
use Rattle.std.proofs.Common.{◌≡◌, ◌<◌, ◌≤◌, ◌+◌, ◌-◌, ℕ, List, length, map, take, drop, get_or, ap, ◌∙◌, arith}
use Rattle.cg_base.specs.declared.place.Place.{Place}
use Rattle.cg_check_pieces.proofs.FieldSteps.{more_named}
use Rattle.cg_core.proofs.Operands.{one_operand, two_operands}
use Rattle.cg_core.specs.declared.term.FieldTerm.{FieldTerm}
use Rattle.cg_core.specs.declared.term.Term.{Term}
use Rattle.cg_core.specs.Kernels.{the_field, the_term}
use Rattle.cg_core.specs.Terms.{Tree, term, Shape, var, unit, bool, lit, fun, op, app, lets, let_bang, if_else, con, case_of, esac, struct, member, take_field, put, cast, annot, Trees, none, more, Named, end, field, to_named, to_trees}

-- the size of a term
unfoldable mutual
  pub size : Tree Place → ℕ
  size (term place shape) = size_shape shape

  pub size_shape : Shape Place → ℕ
  size_shape (var i) = 1
  size_shape unit = 1
  size_shape (bool b) = 1
  size_shape (lit n) = 1
  size_shape (fun f args) = 1
  size_shape (op o ts) = sizes ts + 1
  size_shape (app f x) = size f + size x + 1
  size_shape (lets binder e k) = size e + size k + 1
  size_shape (let_bang os binder e k) = size e + size k + 1
  size_shape (if_else c x y) = size c + size x + size y + 1
  size_shape (con name e) = size e + 1
  size_shape (case_of e at binder x y) = size e + size x + size y + 1
  size_shape (esac at e) = size e + 1
  size_shape (struct fs) = size_fields fs + 1
  size_shape (member e at) = size e + 1
  size_shape (take_field e at rest binder k) = size e + size k + 1
  size_shape (put e at x) = size e + size x + 1
  size_shape (cast e) = size e + 1
  size_shape (annot e a) = size e + 1

  pub sizes : Trees Place → ℕ
  sizes none = 0
  sizes (more t ts) = size t + sizes ts + 1

  pub size_fields : Named Place → ℕ
  size_fields end = 0
  size_fields (field name e fs) = size e + size_fields fs + 1

-- operands in their list
pub size_one : (ts : List (Term Place)) (x : Term Place) → 1 ≤ length ts → length ts < 2 → x ≡ get_or ts 0 x → sizes (to_trees (map the_term ts)) ≡ size (the_term x) + 1
unfolding size
size_one ts x h w e = ap sizes (one_operand ts x h w e) ∙ omega arith

pub size_two : (ts : List (Term Place)) (a b : Term Place) → 2 ≤ length ts → length ts < 3 → a ≡ get_or ts 0 a → b ≡ get_or ts 1 b
    → sizes (to_trees (map the_term ts)) ≡ size (the_term a) + (size (the_term b) + 1) + 1
unfolding size
size_two ts a b h w e k = ap sizes (two_operands ts a b h w e k) ∙ omega arith

-- fields in their list
pub size_more : (fs : List (FieldTerm Place)) (f : FieldTerm Place) → 1 ≤ length fs → f ≡ get_or fs 0 f
    → size_fields (to_named (map the_field fs)) ≡ size (the_term f.term) + size_fields (to_named (map the_field (take (length fs - 1) (drop 1 fs)))) + 1
unfolding size
size_more fs f h e = ap size_fields (more_named fs f h e)
