use Rattle.std.proofs.Common.{◌≡◌, arith, ap, map, slice_get, subst, sym, ◌∙◌, ⊎_elim}
use Rattle.cg_core.specs.Kernels.{the_core}
use Rattle.cg_inst.specs.Founds.{found_in}
use Rattle.cg_inst.specs.Judged.{core_in}
use Rattle.cg_inst.specs.Limited.{AreSmallAt}
use Rattle.cg_inst.specs.Lists.{core_of, nodes_maybe}
use Rattle.cg_inst.specs.Measured.{width_in}
use Rattle.cg_inst.proofs.LimitSteps.{all_fit, fits_there, last_or_before, there_within}
use Rattle.cg_inst.proofs.WidthSteps.{small_as_told, told_as_small}
use Rattle.cg_inst.proofs.limits.check_types_of.Goals as goal

pub returns-then-not-branch : goal.returns-then-not-branch
returns-then-not-branch c = λ all.
    let cores = core_in c.args.checked.now in
    let list = found_in c.args.found.now in
    let widths = map width_in c.as_slice-in-loop-at.result.now in
    let are_widths = ap (map width_in) c.as_slice-in-loop-at.ensures.value ∙ c.in_ok-widths.ensures in
    let are_nodes = ap (map (λ node. the_core node.now)) c.as_slice.ensures.value ∙ c.in_ok-nodes.ensures in
    let told = told_as_small (λ node. node.now) c.as_slice.result.now widths (nodes_maybe (core_of cores c.args.fun)) are_widths are_nodes in
    let yes = c.in_ok-fits.ensures.1 (all_fit cores c.args.fun widths list c.loop-at.at told all) in
    let no = c.if-not-branch.true in
    absurd (cc)

pub loop-at-preserved : goal.loop-at-preserved
loop-at-preserved c = λ i l e.
    let cores = core_in c.args.checked.now in
    let list = found_in c.args.found.now in
    let widths = map width_in c.as_slice-in-loop-at.result.now in
    let are_widths = ap (map width_in) c.as_slice-in-loop-at.ensures.value ∙ c.in_ok-widths.ensures in
    let are_nodes = ap (map (λ node. the_core node.now)) c.as_slice.ensures.value ∙ c.in_ok-nodes.ensures in
    let told = small_as_told (λ node. node.now) c.as_slice.result.now widths (nodes_maybe (core_of cores c.args.fun)) are_widths are_nodes in
    let fits = c.in_ok-fits.ensures.0 c.if-not-branch.false in
    ⊎_elim (λ (q : i ≡ c.loop-at.at). fits_there cores c.args.fun widths (slice_get list i) told e (subst (λ k. AreSmallAt c.args.fun widths (slice_get list k)) (sym q) fits))
    (λ m. c.loop-at.invariant i m e) (last_or_before i c.loop-at.at l)

pub returns : goal.returns
returns c = λ i e.
    let within = there_within (found_in c.args.found.now) i c.args.fun e in
    c.loop-at.invariant i (omega (arith, within, c.len-at-end.ensures, c.loop-at-test.false)) e
