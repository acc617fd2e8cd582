use Rattle.std.proofs.Common.{◌≡◌, map, subst}
use Rattle.std.specs.Prelude.{OnOk}
use Rattle.cg_base.specs.Types.{type_of}
use Rattle.cg_inst.specs.Views.{instance_of}
use Rattle.cg_lower_tables.specs.Found.{with_arrow}
use Rattle.cg_lower_tables.proofs.HintSteps.{arrows_sound}
use Rattle.cg_lower_tables.proofs.places.Places.add_arrow.Goals as goal

pub invariant_of-self : goal.invariant_of-self
invariant_of-self c =
    arrows_sound c.self.inside.table (map instance_of c.self.inside.list) c.self.inside.places.entries (map type_of c.self.inside.arrows) c.self.inside.numbers.entries c.self.invariant
    c.add_type.new.table c.add_type.ensures.kept (map type_of c.add_type.new.arrows) c.add_type.new.numbers.entries c.add_type.ensures.few c.add_type.ensures.hints

pub returns-clause-arrows : goal.returns-clause-arrows
returns-clause-arrows c =
    subst (λ s. OnOk c.add_type.result (map type_of c.add_type.new.arrows ≡ with_arrow s.arrows (type_of c.args.ty.now))) c.self.view_is c.add_type.ensures.ok
