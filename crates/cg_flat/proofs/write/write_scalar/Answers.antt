use Rattle.std.proofs.Common.{ap, ◌∙◌}
use Rattle.cg_flat.specs.Flat.{written}
use Rattle.cg_flat.proofs.Wordy.{two_written}
use Rattle.cg_flat.proofs.write.write_scalar.Goals as goal

pub returns : goal.returns
returns c =
    two_written c.args.at c.pair_of-kind.result.0 c.pair_of-kind.result.1 c.args.words.now.items c.requires
    ∙ ap (λ ws. written c.args.at ws c.args.words.now.items) c.pair_of-kind.ensures
