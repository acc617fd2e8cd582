-- An operator without operands.
use Rattle.std.proofs.Common.{◌≡◌, List, [], map, ap, ◌∙◌}
use Rattle.cg_check_context.proofs.SourceSteps.{types_long}
use Rattle.cg_core.specs.declared.op.Op.{Op}
use Rattle.cg_core.specs.declared.term.Form.{the_lemmas}
use Rattle.cg_core.specs.declared.term.Form.TheVariants.{Op as OpForm}
use Rattle.cg_core.specs.declared.term.Term.{Term}
use Rattle.cg_core.specs.declared.term.Typed.{Typed}
use Rattle.cg_core.specs.Kernels.{the_core, the_core_form}
use Rattle.cg_core.specs.Terms.{none, op, to_trees}

-- the form of an operator without any
pub bare_form : (o : Op) (ts : List (Term Typed)) → ts ≡ [] → the_core_form (OpForm o ts) ≡ op o none
unfolding to_trees
bare_form o ts e =
    let form : the_core_form (OpForm o ts) ≡ op o (to_trees (map the_core ts)) = search the_lemmas in
    form ∙ ap (λ us. op o (to_trees (map the_core us))) e

pub ruleset bare_steps = (types_long, bare_form)
