use Rattle.std.proofs.Common.{Ok, sym, ap, ◌∙◌}
use Rattle.cg_check.proofs.FieldSteps.{none_ahead, put_ahead}
use Rattle.cg_check_nodes.specs.Fields.{fields_of}
use Rattle.cg_check.proofs.pass.put_together.Goals as goal

pub loop-field-preserved : goal.loop-field-preserved
loop-field-preserved c =
    put_ahead c.loop-field.gots c.pop.new.self c.in-Some.field c.loop-field.alone (fields_of c.loop-field.later) (fields_of c.in_ok-later-2.later) c.in-Some.ensures.items
    c.in_ok-later-2.ensures ∙ c.loop-field.invariant

pub returns : goal.returns
returns c = ap Ok (sym c.loop-field.invariant ∙ none_ahead c.loop-field.gots c.loop-field.alone (fields_of c.loop-field.later) c.in_default.ensures.none)
