use Rattle.std.proofs.Common.{◌≡◌, length}
use Rattle.cg_certcheck.specs.Standings.{all_before}
use Rattle.cg_certcheck_gots.specs.Gots.{fields_in}
use Rattle.cg_certcheck.proofs.pass.all_in_front.Given as goal

abbrev pub invariant-loop-name : goal.invariant-loop-name
invariant-loop-name l =
    all_before l.source.nodes.now l.initial.before (fields_in l.source.nodes.now l.initial.later) ≡ all_before l.source.nodes.now l.before (fields_in l.source.nodes.now l.later)

abbrev pub decreases-loop-name : goal.decreases-loop-name
decreases-loop-name l = length l.before
