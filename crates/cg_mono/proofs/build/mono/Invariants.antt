use Rattle.std.proofs.Common.{◌≡◌, map, take}
use Rattle.cg_inst.specs.Judged.{core_in, functions_in}
use Rattle.cg_inst.specs.Views.{instance_of}
use Rattle.cg_inst_laws.specs.Laws.{entry_of}
use Rattle.cg_mono.specs.Copies.{copy_of}
use Rattle.cg_mono.proofs.build.mono.Given as goal

abbrev pub invariant-loop-instance : goal.invariant-loop-instance
invariant-loop-instance l =
    (map (λ c. instance_of c.instance) l.copies.items ≡ map instance_of (take l.instance-index l.instances))
    × (map copy_of l.copies.items ≡ map (entry_of (functions_in l.checked) (core_in l.checked)) (map instance_of (take l.instance-index l.instances)))
