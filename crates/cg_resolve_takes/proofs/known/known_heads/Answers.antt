use Rattle.std.proofs.Common.{add-one, get_or, sym, subst, take}
use Rattle.std.proofs.lemmas.List.{take_all}
use Rattle.std.proofs.lemmas.Option.{slice_get-get_or}
use Rattle.cg_resolve_declared.specs.Declarations.{entries_of}
use Rattle.cg_resolve_takes.proofs.Ordered.{keeps_turn, knows_all}
use Rattle.cg_resolve_takes.specs.Known.{Knows}
use Rattle.cg_resolve_takes.specs.Views.{heads_in}
use Rattle.cg_resolve_takes.proofs.known.known_heads.Goals as goal

pub loop-position-preserved : goal.loop-position-preserved
loop-position-preserved c =
    subst (λ k. Knows (entries_of c.args.declared.now) (take k c.args.order.now) (heads_in c.keep_head.new.table)) (sym (add-one c.loop-position.position-index))
    (keeps_turn (entries_of c.args.declared.now) c.args.order.now c.requires.order c.loop-position.position-index (heads_in c.loop-position.table) c.loop-position.invariant
    (get_or c.args.order.now c.loop-position.position-index 0) (slice_get-get_or c.args.order.now c.loop-position.position-index 0 c.loop-position-test.true) (heads_in c.keep_head.new.table) c.in_ok-keep_head.ensures)

pub returns : goal.returns
returns c =
    knows_all (entries_of c.args.declared.now) c.args.order.now c.requires.order (heads_in c.loop-position.table)
    (subst (λ l. Knows (entries_of c.args.declared.now) l (heads_in c.loop-position.table)) (take_all c.loop-position.position-index c.args.order.now c.loop-position-test.false) c.loop-position.invariant)
