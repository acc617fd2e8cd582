-- The copies of a list of instances, as lowering sees them.
use Rattle.std.specs.Prelude.{List, map}
use Rattle.cg_lower.specs.Collected.{Copy}
use Rattle.cg_inst.specs.Views.{instance_of}
use Rattle.cg_mono.specs.Copies.{copy_of}
use Rattle.cg_mono.specs.declared.copies.Copy.{Copy as OneCopy}
use Rattle.cg_mono.specs.declared.copies.Mono.{Mono}
use Rattle.cg_mono.specs.Monos.{copies_in}

abbrev pub pair_of : OneCopy → Copy
pair_of c = (instance_of c.instance, copy_of c)

abbrev pub copies_of : Mono → List Copy
copies_of m = map pair_of (copies_in m)
