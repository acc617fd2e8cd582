use Rattle.std.proofs.Common.{◌≡◌, ap, ◌∙◌}
use Rattle.cg_certcheck.proofs.FrontSteps.{one_more_before}
use Rattle.cg_certcheck.specs.Standings.{all_before}
use Rattle.cg_certcheck_gots.specs.Gots.{fields_in, got_in}
use Rattle.cg_certcheck_def.specs.Pass.{in_front}
use Rattle.cg_certcheck.proofs.pass.all_in_front.Goals as goal

pub loop-name-preserved : goal.loop-name-preserved
loop-name-preserved c =
    let nodes = c.args.source.now.nodes.now in
    let more : in_front c.in-Some.field-0.name.now (got_in nodes c.in-Some.field-0.got) (fields_in nodes c.loop-name.later) ≡ fields_in nodes c.in_ok-later.later =
    cc (c.in_ok-later.ensures) in
    c.loop-name.invariant
    ∙ one_more_before nodes c.pop.new.self c.loop-name.before c.in-Some.field-0 (fields_in nodes c.loop-name.later) c.in-Some.ensures.items
    ∙ ap (all_before nodes c.pop.new.self) more
