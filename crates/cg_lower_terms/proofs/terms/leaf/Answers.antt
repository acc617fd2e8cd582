use Rattle.cg_core.proofs.FormGroups.{no_leaf}
use Rattle.cg_lower_terms.proofs.terms.leaf.Goals as goal

pub unreachable-requires : goal.unreachable-requires
unreachable-requires c = let d = c.in_default in let e = no_leaf c.args.term.now.form d.not-Var d.not-Unit d.not-Bool d.not-Lit d.not-Fun in absurd (cc)
