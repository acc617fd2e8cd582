use Rattle.std.proofs.Common.{ap, arith}
use Rattle.std.proofs.lemmas.Grind.{common_steps}
use Rattle.cg_resolve_declared.proofs.FunctionSteps.{functions_signature, functions_synonym, functions_abstract, functions_define}
use Rattle.cg_resolve_declared.proofs.functions.keep_function.Goals as goal

pub returns-in_ok-keep_first-in-Signature : goal.returns-in_ok-keep_first-in-Signature
returns-in_ok-keep_first-in-Signature c = rw c.in-Signature.is
    (λ front is are. functions_signature front c.in-Signature.at c.args.position is c.args.table.now are _ _ _ _ c.keep_first.new.table _ (rw c.bytes.ensures at c.in_ok-keep_first-in-Signature.ensures.kept) (ap (λ l. record { position = c.args.position; vars = l }) c.as_slice-vars.ensures)
    (grind (arith, common_steps)))

pub returns-in-Synonym : goal.returns-in-Synonym
returns-in-Synonym c = rw c.in-Synonym.is (λ front is are. functions_synonym front c.in-Synonym.at c.args.position is c.args.table.now are _ _)

pub returns-in-Abstract : goal.returns-in-Abstract
returns-in-Abstract c = rw c.in-Abstract.is (λ front is are. functions_abstract front c.in-Abstract.at c.args.position is c.args.table.now are _)

pub returns-in-Define : goal.returns-in-Define
returns-in-Define c = rw c.in-Define.is (λ front is are. functions_define front c.in-Define.at c.args.position is c.args.table.now are _ _)
