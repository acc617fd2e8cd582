use Rattle.std.proofs.Common.{refl}
use Rattle.std.proofs.lemmas.Result.{on_ok_weaker}
use Rattle.cg_resolve_declared.proofs.DefinitionSteps.{definitions_define}
use Rattle.cg_resolve_declared.proofs.declarations.keep_definition.Goals as goal

pub returns-in-Define : goal.returns-in-Define
returns-in-Define c =
    rw c.in-Define.is
    (on_ok_weaker c.keep_first.result (λ added front are. definitions_define front c.in-Define.at _ _ _ c.args.table.now c.keep_first.new.table are refl added) (rw c.bytes.ensures at c.keep_first.ensures.kept))
