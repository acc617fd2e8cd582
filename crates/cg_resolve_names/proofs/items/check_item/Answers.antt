use Rattle.cg_resolve_def.specs.Faults.{beforehand}
use Rattle.cg_resolve_names.proofs.ItemSteps.{behind_more}
use Rattle.cg_resolve_names.proofs.items.check_item.Goals as goal

pub returns-in_ok-params_scope-in-Abstract-clause-grown : goal.returns-in_ok-params_scope-in-Abstract-clause-grown
returns-in_ok-params_scope-in-Abstract-clause-grown c = λ before is.
    let types = behind_more beforehand.types c.args.behind.now.types c.enter_type-in-Abstract.new.scope before.types c.in-Abstract.at.name c.in_ok-enter_type-in-Abstract.ensures.names is.types in
    rw c.in-Abstract.is (record { types = types; signatures = is.signatures; definitions = is.definitions })
