use Rattle.std.proofs.Common.{◌≡◌, map, take}
use Rattle.cg_core.specs.Terms.{arg_of}
use Rattle.cg_surface.specs.Written.{written_of}
use Rattle.cg_resolve_nodes.specs.Names.{written_in}
use Rattle.cg_resolve_nodes.proofs.names.written_args.Given as goal

abbrev pub invariant-loop-ty : goal.invariant-loop-ty
invariant-loop-ty l = map arg_of l.args ≡ map (written_in l.names) (map written_of (take l.ty-index l.ty-items))
