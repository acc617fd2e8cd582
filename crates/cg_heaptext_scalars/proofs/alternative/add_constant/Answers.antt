use Rattle.std.proofs.Common.{sym}
use Rattle.std.proofs.lemmas.Result.{on_ok_weaker}
use Rattle.cg_heaptext_scalars.proofs.Adding.{none_added}
use Rattle.cg_heaptext_scalars.proofs.Choosing.{constant_added, constant_none}
use Rattle.cg_heaptext_scalars.proofs.alternative.add_constant.Goals as goal

pub returns-in_ok-push-in-Some : goal.returns-in_ok-push-in-Some
returns-in_ok-push-in-Some c =
    on_ok_weaker c.pad_parts.result (constant_added c.args.name.now c.args.parts.now c.in-Some.at _ _ _ _ (sym c.in-Some.ensures.exact) c.in-Some.ensures.within c.in_ok-add_tag-in-Some.ensures c.in_ok-push-in-Some.ensures.ok) c.pad_parts.ensures

pub returns-in-None : goal.returns-in-None
returns-in-None c = none_added _ _ (constant_none c.args.name.now c.args.parts.now (sym c.in-None.ensures.exact))
