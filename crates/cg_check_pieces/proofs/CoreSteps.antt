-- Forms of cores whose parts are known.
use Rattle.std.proofs.Common.{◌≡◌, List, [], ◌∷◌, map, ap, ◌∙◌}
use Rattle.cg_core.specs.declared.op.Op.{Op}
use Rattle.cg_core.specs.declared.term.Form.TheVariants as form
use Rattle.cg_core.specs.declared.term.Form.{the_lemmas}
use Rattle.cg_core.specs.declared.term.Term.{Term}
use Rattle.cg_core.specs.declared.term.Typed.{Typed}
use Rattle.cg_core.specs.Kernels.{the_core, the_core_form}
use Rattle.cg_core.specs.Terms.{op, none, more, to_trees}
use Rattle.cg_core.proofs.Forms.{op_is}

-- operators with one operand, and with two
pub one_operand : (o : Op) (ts : List (Term Typed)) (a : Term Typed) → ts ≡ a ∷ [] → the_core_form (form.Op o ts) ≡ op o (more (the_core a) none)
unfolding to_trees
one_operand o ts a h = op_is o ts ∙ ap (λ ts. op o (to_trees (map the_core ts))) h

pub two_operands : (o : Op) (ts : List (Term Typed)) (a b : Term Typed) → ts ≡ a ∷ b ∷ [] → the_core_form (form.Op o ts) ≡ op o (more (the_core a) (more (the_core b) none))
unfolding to_trees
two_operands o ts a b h = op_is o ts ∙ ap (λ ts. op o (to_trees (map the_core ts))) h

pub ruleset core_steps = (one_operand, two_operands, the_lemmas)
