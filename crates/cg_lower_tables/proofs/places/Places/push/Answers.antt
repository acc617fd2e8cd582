use Rattle.std.proofs.Common.{map}
use Rattle.cg_base.specs.Types.{type_of}
use Rattle.cg_inst.specs.Views.{instance_of}
use Rattle.cg_lower_tables.proofs.HintSteps.{list_sound}
use Rattle.cg_lower_tables.proofs.places.Places.push.Goals as goal

pub invariant_of-self : goal.invariant_of-self
invariant_of-self c =
    list_sound c.self.inside.table (map instance_of c.self.inside.list) c.self.inside.places.entries (map type_of c.self.inside.arrows) c.self.inside.numbers.entries c.self.invariant
    c.add_instance.new.table c.add_instance.ensures.kept (map instance_of c.add_instance.new.list) c.add_instance.new.places.entries c.add_instance.ensures.few c.add_instance.ensures.hints
