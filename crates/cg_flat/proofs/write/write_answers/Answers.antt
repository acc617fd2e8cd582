use Rattle.std.proofs.Common.{◌+◌, ◌∷◌, false, get_or, map, set, take, refl, ap, ◌∙◌, arith}
use Rattle.std.proofs.lemmas.List.{length-set}
use Rattle.cg_flat.specs.Flat.{answer_word, written}
use Rattle.cg_flat.proofs.Loops.{answers_step}
use Rattle.cg_flat.proofs.write.write_answers.Goals as goal

pub loop-index-preserved : goal.loop-index-preserved
loop-index-preserved c =
    let before = c.loop-index.invariant in
    let fits = c.requires in (
      ap (λ l. set l (c.args.at + 1 + c.loop-index.index) c.word_of.result) before.0
          ∙ ap (set (written c.args.at (0 ∷ map answer_word (take c.loop-index.index c.args.answers.now)) c.args.words.now.items) (c.args.at + 1 + c.loop-index.index)) c.word_of.ensures
          ∙ answers_step c.args.at c.loop-index.index (get_or c.args.answers.now c.loop-index.index false) false c.args.answers.now c.args.words.now.items (omega arith) refl fits,
      length-set c.loop-index.words.items (c.args.at + 1 + c.loop-index.index) c.word_of.result ∙ before.1,
    )
