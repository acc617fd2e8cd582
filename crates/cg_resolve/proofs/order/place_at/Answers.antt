use Rattle.cg_resolve.proofs.OrderSteps.{place_is}
use Rattle.cg_resolve.proofs.order.place_at.Goals as goal

pub returns-in-Synonym : goal.returns-in-Synonym
returns-in-Synonym c = place_is c.args.items.now c.args.at _ c.requires c.index-items-at.is _ c.in-Synonym.is

pub returns-in-Abstract : goal.returns-in-Abstract
returns-in-Abstract c = place_is c.args.items.now c.args.at _ c.requires c.index-items-at.is _ c.in-Abstract.is

pub returns-in-Signature : goal.returns-in-Signature
returns-in-Signature c = place_is c.args.items.now c.args.at _ c.requires c.index-items-at.is _ c.in-Signature.is

pub returns-in-Define : goal.returns-in-Define
returns-in-Define c = place_is c.args.items.now c.args.at _ c.requires c.index-items-at.is _ c.in-Define.is
