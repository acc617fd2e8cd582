use Rattle.std.proofs.Common.{◌≡◌, ◌+◌, ◌++◌, ◌∷◌, [], ap, sym, subst, take, ◌∙◌, take_all}
use Rattle.std.proofs.lemmas.List.{take_more}
use Rattle.cg_cmachine_resolve.specs.Lines.{MeanAll}
use Rattle.cg_cmachine_resolve.specs.Variables.{scope_at, structs_at}
use Rattle.cg_cmachine_resolve.proofs.Meanings.{mean_push}
use Rattle.cg_cmachine_resolve.proofs.setting.Setting.operands.Goals as goal

pub loop-item-preserved : goal.loop-item-preserved
loop-item-preserved c =
    let taken : take (c.loop-item.item-index + 1) c.args.list.now ≡ take c.loop-item.item-index c.args.list.now ++ c.item-item.result ∷ [] =
    take_more c.args.list.now c.loop-item.item-index c.item-item.result c.loop-item-test.true ∙ ap (λ y. take c.loop-item.item-index c.args.list.now ++ y ∷ []) (sym c.item-item.is) in
    rw (taken, c.in_ok-push.ensures.items)
    (mean_push (structs_at c.args.self.now) (scope_at c.args.self.now) (take c.loop-item.item-index c.args.list.now) c.loop-item.operands.items c.item-item.result c.operand.result c.loop-item.invariant c.operand.ensures)

pub returns : goal.returns
returns c =
    subst (λ os. MeanAll (structs_at c.args.self.now) (scope_at c.args.self.now) os c.loop-item.operands.items) (take_all c.loop-item.item-index c.args.list.now c.loop-item-test.false) c.loop-item.invariant
