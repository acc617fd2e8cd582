-- What instances of the program stand for.
use Rattle.std.specs.Prelude.{map}
use Rattle.cg_base.specs.Types.{type_of}
use Rattle.cg_inst.specs.declared.instance.Instance.{Instance as Held}
use Rattle.cg_typing.specs.Instances.{Instance}

abbrev pub instance_of : Held → Instance
instance_of x = record { fun = x.fun; types = map type_of x.args }
