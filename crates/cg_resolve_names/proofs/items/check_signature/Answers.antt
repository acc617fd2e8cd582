use Rattle.cg_surface.specs.Written.{written_of}
use Rattle.cg_resolve_declared.specs.Declarations.{entries_of}
use Rattle.cg_resolve_names.proofs.ItemSteps.{signature_says}
use Rattle.cg_resolve_names.proofs.items.check_signature.Goals as goal

pub returns : goal.returns
returns c = signature_says (entries_of c.args.declared.now) c.in_ok-vars.vars _ _ (written_of c.args.ty.now) c.check_type.result c.in_ok-check_apart.ensures c.in_ok-vars.ensures c.check_type.ensures
