use Rattle.std.proofs.Common.{◌≡◌, ap, ◌∙◌, Ok, subst}
use Rattle.cg_base.specs.Types.{type_of}
use Rattle.cg_resolve_declared.specs.Declarations.{entries_of}
use Rattle.cg_resolve_declared.specs.Tables.{texts}
use Rattle.cg_resolve_def.specs.Declared.{definition_named}
use Rattle.cg_resolve_def.specs.Desugar.{body_of}
use Rattle.cg_resolve_def.specs.Expand.{expanded}
use Rattle.cg_surface.specs.Written.{written_of}
use Rattle.cg_resolve_expand.specs.Known.{known_of}
use Rattle.cg_resolve.specs.Answers.{MaybeBodySays}
use Rattle.cg_resolve.proofs.FunctionSteps.{function_made}
use Rattle.cg_resolve.proofs.functions.function.Goals as goal

pub returns : goal.returns
returns c =
    let ty : type_of c.in_ok-written_type.field-0 ≡ expanded (known_of c.args.synonyms.now) (texts c.in_ok-names.names.items) (written_of c.args.ty.now) =
    c.in_ok-written_type.ensures ∙ ap (λ names. expanded (known_of c.args.synonyms.now) (texts names) (written_of c.args.ty.now)) c.as_slice-2.ensures.value in
    let body : MaybeBodySays (body_of (entries_of c.args.declared.now) (texts c.in_ok-names.names.items) (definition_named (entries_of c.args.declared.now) c.bytes.result.now)) (Ok c.in_ok-body.body) =
    subst (λ names. MaybeBodySays (body_of (entries_of c.args.declared.now) (texts names) (definition_named (entries_of c.args.declared.now) c.bytes.result.now)) (Ok c.in_ok-body.body)) c.as_slice.ensures.value c.in_ok-body.ensures in
    function_made (entries_of c.args.declared.now) c.args.at.now c.args.vars.now c.args.ty.now (known_of c.args.synonyms.now) (texts c.in_ok-names.names.items) c.bytes.result.now
    c.in_ok-copy.field-0 c.in_ok-copy_bounds.field-0 c.in_ok-written_type.field-0 c.in_ok-body.body
    c.requires.bodies c.in_ok-names.ensures c.bytes.ensures c.in_ok-copy.ensures c.in_ok-copy_bounds.ensures ty body
