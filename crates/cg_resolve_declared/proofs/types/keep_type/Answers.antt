use Rattle.std.proofs.Common.{ap, Some, None}
use Rattle.std.proofs.lemmas.Result.{on_ok_weaker}
use Rattle.cg_surface.specs.Written.{written_of}
use Rattle.cg_resolve_declared.proofs.TypeSteps.{types_synonym, types_abstract}
use Rattle.cg_resolve_declared.proofs.types.keep_type.Goals as goal

pub returns-in-Synonym : goal.returns-in-Synonym
returns-in-Synonym c =
    rw c.in-Synonym.is
    (on_ok_weaker c.keep_first.result (λ added front are. types_synonym front c.in-Synonym.at _ _ _ c.args.table.now c.keep_first.new.table are added (ap (λ l. record { params = l; body = Some (written_of c.in-Synonym.body) }) c.as_slice-params.ensures))
    (rw c.bytes.ensures at c.keep_first.ensures.kept))

pub returns-in-Abstract : goal.returns-in-Abstract
returns-in-Abstract c =
    rw c.in-Abstract.is
    (on_ok_weaker c.keep_first-in-Abstract.result
    (λ added front are. types_abstract front c.in-Abstract.at _ _ c.args.table.now c.keep_first-in-Abstract.new.table are added (ap (λ l. record { params = l; body = None }) c.as_slice-params-in-Abstract.ensures))
    (rw c.bytes-in-Abstract.ensures at c.keep_first-in-Abstract.ensures.kept))
