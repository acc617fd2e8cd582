use Rattle.std.proofs.Common.{refl, sym, ◌∙◌}
use Rattle.cg_heaptext_def.specs.Tokens.{upper}
use Rattle.cg_heaptext_values.proofs.Heads.{tells_applied, tells_constant}
use Rattle.cg_heaptext_values.proofs.head.applied.Goals as goal

pub returns-then-begins_value : goal.returns-then-begins_value
returns-then-begins_value c p k =
    tells_applied c.args.lexer.now (record { token = upper c.args.name.now; place = p }) c.args.name c.copy.result refl k c.copy.ensures (λ ts b. sym c.if-begins_value.true ∙ c.begins_value.ensures ts b)

pub returns-else-begins_value : goal.returns-else-begins_value
returns-else-begins_value c p k =
    tells_constant c.args.lexer.now (record { token = upper c.args.name.now; place = p }) c.args.name refl k (λ ts b. sym c.if-begins_value.false ∙ c.begins_value.ensures ts b)
