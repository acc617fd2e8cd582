use Rattle.std.proofs.Common.{◌∷◌, [], ◌+◌, Some, sym, ap, ◌∙◌, arith}
use Rattle.cg_cmachine_def.specs.Layouts.{pointer}
use Rattle.cg_cmachine_def.specs.Operands.{typed}
use Rattle.cg_heap.specs.declared.cell.Scalar.TheVariants.{Address}
use Rattle.cg_cmachine_builtins.proofs.Creating.{afforded, denied}
use Rattle.cg_cmachine_builtins.proofs.create.create.Goals as goal

pub returns-then-not-is_granted : goal.returns-then-not-is_granted
returns-then-not-is_granted g c =
    (Some (typed (pointer c.args.request.name.now) (Address 0 ∷ [])), denied _ _ _ _ _ _ _ _ (sym c.is_granted.ensures ∙ c.if-not-is_granted.true) c.pop.ensures.store)

pub returns : goal.returns
returns g c = (
  Some (typed (pointer c.args.request.name.now) (Address ((g.S.Store.stored c.args.store.now).top + 1) ∷ [])),
  afforded _ _ _ _ _ _ _ _ _ _ (sym c.is_granted.ensures ∙ c.if-not-is_granted.false) (omega (arith, c.if-left-request.false)) c.in_ok-make.ensures.store c.in_ok-make.ensures.made
      (ap (λ v. v.items) c.in_ok-make.ensures.freed),
)
