use Rattle.std.proofs.Common.{rules}
use Rattle.cg_resolve_declared.specs.Declarations.{entries_of}
use Rattle.cg_resolve_names.proofs.PartSteps.{mention_first, part_steps}
use Rattle.cg_resolve_names.proofs.parts.in_name.Goals as goal

pub returns-in_err-check_mention : goal.returns-in_err-check_mention
returns-in_err-check_mention c =
    let first = mention_first (entries_of c.args.declared.now) c.args.vars.now c.args.scope.now c.args.place c.args.name.now c.args.types.now c.in_err-check_mention.field-0.0 in
    search (rules, first, part_steps)
