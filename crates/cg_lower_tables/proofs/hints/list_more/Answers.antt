use Rattle.std.proofs.Common.{map, sym, ◌∙◌}
use Rattle.std.proofs.lemmas.List.{length-map}
use Rattle.cg_inst.specs.Views.{instance_of}
use Rattle.cg_lower_tables.specs.Hints.{IsKeyOf, same_key}
use Rattle.cg_lower_tables.proofs.HintSteps.{few_more, keeps_more}
use Rattle.cg_lower_tables.proofs.hints.list_more.Goals as goal

pub returns-clause-few : goal.returns-clause-few
returns-clause-few c =
    few_more (λ ts. IsKeyOf ts) same_key c.args.key (instance_of c.args.instance.now) (map instance_of c.args.list.now) c.args.places.now.entries c.note_place.new.places.entries c.len.result
    (c.len.ensures ∙ sym (length-map c.args.list.now instance_of)) c.note_place.ensures.kept c.note_place.ensures.low c.put_instance.result (map instance_of c.put_instance.new.list) c.put_instance.ensures.ok
    c.put_instance.ensures.err c.in_ok-note_place.ensures.room

pub returns-clause-hints : goal.returns-clause-hints
returns-clause-hints c =
    keeps_more (λ ts. IsKeyOf ts) same_key c.args.key (instance_of c.args.instance.now) (map instance_of c.args.list.now) c.args.places.now.entries c.note_place.new.places.entries c.len.result
    (c.len.ensures ∙ sym (length-map c.args.list.now instance_of)) c.note_place.ensures.kept c.note_place.ensures.low c.put_instance.result (map instance_of c.put_instance.new.list) c.put_instance.ensures.ok
    c.put_instance.ensures.err c.in_ok-note_place.ensures.held
