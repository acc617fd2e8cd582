-- Where a scope ends of a variable of which it is known whether it may be dropped.
use Rattle.std.specs.Prelude.{Bool, cond, ◌||◌}
use Rattle.cg_base.specs.declared.place.Place.{Place}
use Rattle.cg_check_def.specs.Pass.{Out, need, none_bad}
use Rattle.cg_faults.specs.declared.rule.Rule.TheVariants.{K3}
use Rattle.cg_check_uses.specs.declared.entry.Use.{Use}

abbrev pub ended : {A : Type 0} → Bool → Place → Use → Out A → Out A
ended droppable binder u k = need K3 binder (droppable || u.used) (cond droppable k (none_bad u.bad k))
