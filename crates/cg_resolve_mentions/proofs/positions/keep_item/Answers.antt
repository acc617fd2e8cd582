use Rattle.std.proofs.lemmas.Result.{on_ok_weaker}
use Rattle.cg_resolve_mentions.proofs.PositionSteps.{firsts_synonym, firsts_signature}
use Rattle.cg_resolve_mentions.proofs.positions.keep_item.Goals as goal

pub returns-in-Synonym : goal.returns-in-Synonym
returns-in-Synonym c =
    rw c.in-Synonym.is
    (on_ok_weaker c.keep_first.result (λ kept front is are. firsts_synonym front c.in-Synonym.at c.args.position is c.args.firsts.now are _ _ c.keep_first.new.table kept) (rw c.bytes.ensures at c.keep_first.ensures.kept))

pub returns-in-Signature : goal.returns-in-Signature
returns-in-Signature c =
    rw c.in-Signature.is
    (on_ok_weaker c.keep_first-in-Signature.result (λ kept front is are. firsts_signature front c.in-Signature.at c.args.position is c.args.firsts.now are _ _ _ c.keep_first-in-Signature.new.table kept)
    (rw c.bytes-in-Signature.ensures at c.keep_first-in-Signature.ensures.kept))
