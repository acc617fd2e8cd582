use Rattle.std.proofs.Common.{◌≡◌, ◌+◌, ◌≤◌, ◌∙◌, arith, drop, sym, subst}
use Rattle.cg_core.specs.Kernels.{the_core}
use Rattle.cg_inst.specs.Founds.{found_in}
use Rattle.cg_inst.specs.Judged.{core_in}
use Rattle.cg_inst.specs.Lists.{most_nodes, nodes_in}
use Rattle.cg_inst.proofs.LimitSteps.{all_counted, counted_on, counted_past, too_many_nodes}
use Rattle.cg_inst.proofs.limits.check_cores.Goals as goal
use Rattle.cg_inst.proofs.limits.check_cores.Goals.{in-Some+in_ok-nodes+else-len-count, in_default}

pub returns-then-len-count : goal.returns-then-len-count
returns-then-len-count c =
    too_many_nodes (λ node. the_core node.now) (core_in c.args.checked.now) (found_in c.args.found.now) c.loop-at.at c.in-Some.fun c.in_ok-nodes.nodes.items c.loop-at.count c.len.result _
    (sym c.function.ensures ∙ c.in-Some.is) c.in_ok-nodes.ensures (c.len.ensures ∙ c.in_ok-nodes.nodes.ok.0) c.loop-at.invariant.1 c.loop-at.invariant.0 c.if-len-count.true

pub loop-at-preserved : goal.loop-at-preserved
loop-at-preserved c =
    let cores = core_in c.args.checked.now in
    let list = found_in c.args.found.now in
    elim c.match-function.branch [
      | in-Some+in_ok-nodes+else-len-count w ↦
          subst (λ count. (count ≤ most_nodes) × (count + nodes_in cores (drop (c.loop-at.at + 1) list) ≡ nodes_in cores list))
          (sym w.count-is) (
            omega (arith, c.loop-at.invariant.0, w.if-len-count.false, w.len.ensures, w.len-count.ensures),
            counted_on (λ node. the_core node.now) cores list c.loop-at.at w.in-Some.fun w.in_ok-nodes.nodes.items c.loop-at.count w.len-count.result _
                (sym c.function.ensures ∙ w.in-Some.is) w.in_ok-nodes.ensures (w.len-count.ensures ∙ w.in_ok-nodes.nodes.ok.0) c.loop-at.invariant.1,
          )
      | in_default w ↦
          subst (λ count. (count ≤ most_nodes) × (count + nodes_in cores (drop (c.loop-at.at + 1) list) ≡ nodes_in cores list))
          (sym w.count-is)
          (c.loop-at.invariant.0, counted_past cores list c.loop-at.at c.loop-at.count _ (sym c.function.ensures ∙ w.in_default.is) c.loop-at.invariant.1)
    ]

pub returns : goal.returns
returns c =
    all_counted (core_in c.args.checked.now) (found_in c.args.found.now) c.loop-at.at c.loop-at.count _ (omega (arith, c.len-at-end.ensures, c.loop-at-test.false)) c.loop-at.invariant.0 c.loop-at.invariant.1
