use Rattle.std.proofs.Common.{ap, ◌∙◌, cond, Some, rules, ◌≡◌}
use Rattle.std.specs.Str.{bytes_eq}
use Rattle.cg_resolve_declared.specs.Tables.{texts}
use Rattle.cg_resolve_def.specs.Expand.{expanded}
use Rattle.cg_resolve_def.specs.Faults.{names_of}
use Rattle.cg_surface.specs.Written.{written_of}
use Rattle.cg_resolve_expand.specs.Known.{known_of}
use Rattle.cg_resolve_written.proofs.SynonymSteps.{known_more}
use Rattle.cg_resolve_written.proofs.build.keep_body.Goals as goal

pub returns-clause-ok : goal.returns-clause-ok
returns-clause-ok c =
    let vars : texts c.deref.result.now ≡ names_of c.args.params.now = search rules in
    λ other. known_more c.args.synonyms.now (record { bodies = c.insert.new.self }) c.args.name c.in_ok-ty.ty c.in_ok-insert.ensures.updates other
    ∙ ap (λ t. cond (bytes_eq c.args.name.now other) (Some t) (known_of c.args.synonyms.now other)) (c.in_ok-ty.ensures ∙ ap (λ v. expanded (known_of c.args.synonyms.now) v (written_of c.args.body.now)) vars)
