use Rattle.std.proofs.Common.{◌∙◌}
use Rattle.std.proofs.lemmas.Result.{on_ok_weaker}
use Rattle.cg_surface.specs.Written.{written_of}
use Rattle.cg_resolve_def.specs.Declared.{definition_named}
use Rattle.cg_resolve_def.specs.Mentions.{type_mentions, defined_mentions}
use Rattle.cg_resolve_declared.specs.Declarations.{entries_of}
use Rattle.cg_resolve_mentions.proofs.GraphSteps.{synonyms_found, signatures_found}
use Rattle.cg_resolve_mentions.proofs.graph.push_item.Goals as goal

pub returns-in-Synonym : goal.returns-in-Synonym
returns-in-Synonym c =
    rw c.in-Synonym.is
    (on_ok_weaker c.push_type.result (λ h. h ∙ synonyms_found (entries_of c.args.declared.now) c.args.firsts.now c.requires.firsts c.args.targets.now.items (type_mentions (written_of c.in-Synonym.body))) c.push_type.ensures)

pub returns-in-Signature : goal.returns-in-Signature
returns-in-Signature c =
    rw c.in-Signature.is
    (on_ok_weaker c.push_function.result
    (λ h. h ∙ signatures_found (entries_of c.args.declared.now) c.args.firsts.now c.requires.firsts c.args.targets.now.items (defined_mentions (definition_named (entries_of c.args.declared.now) c.in-Signature.at.name))) c.push_function.ensures)
