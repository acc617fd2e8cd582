-- Where the scopes of variables of a part end.
use Rattle.std.specs.Prelude.{Bool, List, Ok}
use Rattle.std.specs.declared.alloc.Global.{Global}
use Rattle.std.specs.declared.vec.Vec.{Vec}
use Rattle.cg_base.specs.declared.kind.Kinds.{Kinds}
use Rattle.cg_base.specs.declared.place.Place.{Place}
use Rattle.cg_base.specs.Types.{Tau}
use Rattle.cg_check_def.specs.Pass.{Out, Got, bind, leave}
use Rattle.cg_core.specs.Kernels.{Function}
use Rattle.cg_check_uses.specs.Uses.{last, front}

-- a test that holds
abbrev pub fine : Out (Unit {0})
fine = Ok tt

-- flags as they are listed
abbrev pub flags_in : Vec Bool Global → List Bool
flags_in flags = flags.items

module _ (functions : List Function) (vars : List Kinds) where
  -- the end of the scope of a variable of this type
  abbrev pub scope_end : Place → Tau → Got → Out Got
  scope_end binder t v = bind (leave functions vars binder t (last v.uses) fine) (λ _. Ok v)

  -- the end of the scopes of two variables of these types
  abbrev pub taken_end : Place → Tau → Place → Tau → Got → Out Got
  taken_end rest t binder h v =
      bind (leave functions vars rest t (last (front v.uses)) fine) (λ _. bind (leave functions vars binder h (last v.uses) fine) (λ _. Ok v))
