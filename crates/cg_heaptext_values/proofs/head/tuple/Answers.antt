use Rattle.std.proofs.Common.{refl, sym, true, ◌∙◌}
use Rattle.cg_heaptext_def.specs.Tokens.{sign}
use Rattle.cg_heaptext_values.proofs.Heads.{tells_tuple, tells_unit}
use Rattle.cg_heaptext_values.proofs.head.tuple.Goals as goal

pub returns-then-begins_value : goal.returns-then-begins_value
returns-then-begins_value c x p o =
    tells_tuple c.args.lexer.now (record { token = sign x; place = p }) x (record { lexer = c.copy.result; more = true }) refl o refl c.copy.ensures (λ ts b. sym c.if-begins_value.true ∙ c.begins_value.ensures ts b)

pub returns-else-begins_value : goal.returns-else-begins_value
returns-else-begins_value c x p o = tells_unit c.args.lexer.now (record { token = sign x; place = p }) x refl o (λ ts b. sym c.if-begins_value.false ∙ c.begins_value.ensures ts b)
