use Rattle.std.proofs.Common.{◌∙◌, ap, Some}
use Rattle.cg_inst_types.specs.Places.{type_at, name_at}
use Rattle.cg_inst_types.specs.Layers.{made}
use Rattle.cg_inst_types.proofs.Built.{argument_built, part_built}
use Rattle.cg_inst_types.proofs.layers.Layers.+build.Goals as goal

pub build_arguments-loop-preserved : goal.build_arguments-loop-preserved
build_arguments-loop-preserved t c =
    argument_built c.args.self.now.types c.loop.arguments c.push.new.self c.in_ok-build-in-Some-Argument.field-0 c.loop.rest c.in-Some-Argument.next c.in-Some-Argument.ty
    (type_at c.args.self.now.types c.args.at) c.in_ok-push-in-Some-Argument.ensures.ok c.in_ok-build-in-Some-Argument.ensures
    (c.in-Some-Argument.ensures.found ∙ ap (λ n. Some (made c.args.self.now.names c.args.self.now.types n)) c.in-Some-Argument.field-0-is) c.loop.invariant

pub build_parts-loop-preserved : goal.build_parts-loop-preserved
build_parts-loop-preserved t c =
    part_built c.args.self.now.types c.loop.parts c.push.new.self c.in_ok-build_part-in-Some-Part.field-0 c.loop.rest c.in-Some-Part.next c.in-Some-Part.ty
    (name_at c.args.self.now.names c.in-Some-Part.name) c.in-Some-Part.taken (type_at c.args.self.now.types c.args.at)
    c.in_ok-push-in-Some-Part.ensures.ok c.in_ok-build_part-in-Some-Part.ensures
    (c.in-Some-Part.ensures.found ∙ ap (λ n. Some (made c.args.self.now.names c.args.self.now.types n)) c.in-Some-Part.field-0-is) c.loop.invariant
