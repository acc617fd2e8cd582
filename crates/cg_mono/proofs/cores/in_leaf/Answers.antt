use Rattle.cg_core.proofs.FormGroups.{no_leaf}
use Rattle.cg_mono.proofs.cores.in_leaf.Goals as goal

pub unreachable-requires : goal.unreachable-requires
unreachable-requires c = let d = c.in_default in let e = no_leaf c.args.core.now.form d.not-Var d.not-Unit d.not-Bool d.not-Lit d.not-Fun in absurd (cc)
