use Rattle.std.proofs.Common.{codes, ◌+◌}
use Rattle.cg_gen.specs.Generated.{body_line, name, subject, sum_text}
use Rattle.cg_gen.proofs.Functions.{four}
use Rattle.cg_gen.proofs.text.put_body.Goals as goal

pub returns : goal.returns
unfolding body_line
returns c =
    four c.args.text.now.items _ _ _ _ (name (c.args.before + 1)) (codes " c = let c' {val = v} = ") (subject c.args.before) (sum_text c.args.before) c.in_ok-put_name.ensures c.in_ok-put.ensures c.in_ok-put_subject.ensures
    c.in_ok-put_sum.ensures
