use Rattle.std.proofs.Common.{◌≡◌, drop}
use Rattle.cg_graphs.specs.Reached.{reached, mark_all}
use Rattle.cg_graphs.proofs.reach.mark_all.Given as goal

abbrev pub invariant-loop-target : goal.invariant-loop-target
invariant-loop-target l = mark_all (reached l.marks.items l.work.items) (drop l.target-index l.targets) ≡ mark_all (reached l.initial.marks.items l.initial.work.items) l.targets
