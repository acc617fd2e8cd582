use Rattle.std.proofs.Common.{ap, map}
use Rattle.cg_base.specs.declared.fun.Fun.TheVariants.{User}
use Rattle.cg_base.specs.Types.{type_of}
use Rattle.cg_typing.specs.Instances.{Instance}
use Rattle.cg_driver.proofs.Placing.{not_missed}
use Rattle.cg_driver.proofs.entry.instance_place.Goals as goal

pub unreachable-requires : goal.unreachable-requires
unreachable-requires c =
    let here : _ → Instance = λ args. record { fun = User c.args.at; types = map type_of args } in
    not_missed c.functions_stand.ensures c.args.checked.now c.args.list.now c.requires.list c.args.at c.requires.there _ (ap here c.new.ensures) c.in-None.ensures
