use Rattle.std.proofs.Common.{map}
use Rattle.cg_inst.specs.Views.{instance_of}
use Rattle.cg_lower_tables.specs.Hints.{IsKeyOf, hint_of, same_key}
use Rattle.cg_lower_tables.proofs.HintSteps.{rekeyed}
use Rattle.cg_lower_tables.proofs.KeySteps.{key_stays}
use Rattle.cg_lower_tables.proofs.adds.add_instance.Goals as goal

pub returns-in_err-key-clause-hints : goal.returns-in_err-key-clause-hints
returns-in_err-key-clause-hints c =
    rekeyed (IsKeyOf c.args.table.now) (hint_of same_key c.args.places.now.entries) (map instance_of c.args.list.now) c.requires (IsKeyOf c.key_of.new.table)
    (key_stays c.args.table.now c.key_of.new.table c.key_of.ensures.kept)

pub returns-clause-hints : goal.returns-clause-hints
returns-clause-hints c =
    c.list_more.ensures.hints c.key_of.new.table c.in_ok-key.ensures.key
    (rekeyed (IsKeyOf c.args.table.now) (hint_of same_key c.args.places.now.entries) (map instance_of c.args.list.now) c.requires (IsKeyOf c.key_of.new.table)
    (key_stays c.args.table.now c.key_of.new.table c.in_ok-key.ensures.kept))
