use Rattle.std.proofs.Common.{◌+◌, ◌*◌, ◌<◌, ◌≤◌, length, sym, ap, ◌∙◌, arith}
use Rattle.std.proofs.lemmas.Bool.Decides.{nat_tests}
use Rattle.std.specs.declared.option.Option.TheVariants.{Some}
use Rattle.cg_flat.proofs.Cells.{slot_none, slot_some}
use Rattle.cg_flat.proofs.read.pair_at.Goals as goal

pub returns-then-at-words : goal.returns-then-at-words
returns-then-at-words c =
    let low : 2 * c.args.slot + 1 < length c.args.words.now = grind (arith, nat_tests) in
    ap (λ x. Some x) c.scalar.ensures ∙ sym (slot_some c.args.words.now c.args.slot low)

pub returns-else-at-words : goal.returns-else-at-words
returns-else-at-words c =
    let few : length c.args.words.now ≤ 2 * c.args.slot + 1 = grind (arith, nat_tests) in
    sym (slot_none c.args.words.now c.args.slot few)
