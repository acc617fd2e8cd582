use Rattle.std.proofs.Common.{◌≡◌, ◌∙◌, Err, arith, ap, map, sym, subst}
use Rattle.cg_core.specs.Kernels.{the_core}
use Rattle.cg_inst.specs.Founds.{Comes, found_in}
use Rattle.cg_inst.specs.Lists.{with_instances}
use Rattle.cg_inst_types.specs.Layers.{types_at}
use Rattle.cg_typing.specs.Instances.{mentioned_at}
use Rattle.cg_inst.proofs.FoundSteps.{all_gone, gone_on, length_end, length_nodes, node_at, stopped}
use Rattle.cg_inst.proofs.Standing.{keeps_on}
use Rattle.cg_inst.proofs.found.Found.go_through.Goals as goal

pub returns-in_err-mention-clause-found : goal.returns-in_err-mention-clause-found
returns-in_err-mention-clause-found c =
    let nodes = map (λ node. the_core node.now) c.args.nodes.now in
    let bound = length_nodes (λ node. the_core node.now) c.args.nodes.now c.loop-node.node-index c.loop-node-test.true in
    let here = node_at (λ node. the_core node.now) c.args.nodes.now c.loop-node.node-index c.node-item.result c.loop-node-test.true c.node-item.is in
    let same : c.from_residual.result ≡ Err c.in_err-mention.field-0.0 = grind arith in
    let found = subst (λ t. Comes c.mention.new.self (with_instances (found_in c.loop-node.self) (mentioned_at (types_at c.loop-node.self.types c.args.types.now) t)) (Err c.in_err-mention.field-0.0)) here c.in_err-mention.ensures.found in
    subst (Comes c.mention.new.self _) (sym same)
    (stopped c.args.self.now c.loop-node.self c.args.types.now nodes c.loop-node.node-index (the_core c.node-item.result.now) bound c.loop-node.invariant.0 c.requires _ c.loop-node.invariant.1
    c.mention.new.self c.in_err-mention.field-0.0 found)

pub loop-node-preserved : goal.loop-node-preserved
loop-node-preserved c =
    let nodes = map (λ node. the_core node.now) c.args.nodes.now in
    let bound = length_nodes (λ node. the_core node.now) c.args.nodes.now c.loop-node.node-index c.loop-node-test.true in
    let here = node_at (λ node. the_core node.now) c.args.nodes.now c.loop-node.node-index c.node-item.result c.loop-node-test.true c.node-item.is in (
      keeps_on c.args.self.now.types c.loop-node.self.types c.mention.new.self.types c.loop-node.invariant.0 c.in_ok-mention.ensures.kept,
      gone_on c.args.self.now c.loop-node.self c.args.types.now nodes c.loop-node.node-index (the_core c.node-item.result.now) bound c.loop-node.invariant.0 c.requires _ c.loop-node.invariant.1 c.mention.new.self
          (c.in_ok-mention.ensures.found ∙ ap (λ t. with_instances (found_in c.loop-node.self) (mentioned_at (types_at c.loop-node.self.types c.args.types.now) t)) here),
    )

pub returns-clause-found : goal.returns-clause-found
returns-clause-found c =
    all_gone c.loop-node.self (types_at c.args.self.now.types c.args.types.now) (map (λ node. the_core node.now) c.args.nodes.now) c.loop-node.node-index _
    (length_end (λ node. the_core node.now) c.args.nodes.now c.loop-node.node-index (omega (arith, c.loop-node-test.false))) c.loop-node.invariant.1
