-- Calls by what is called.
use Rattle.std.proofs.Common.{◌≡◌, List, refl, arith}
use Rattle.std.specs.Prelude.{IfOk, Err, Ok, Result}
use Rattle.cg_cmachine_builtins.specs.Called.{state_of}
use Rattle.cg_cmachine_builtins.specs.declared.built_in.BuiltIn.{BuiltIn}
use Rattle.cg_cmachine_resolve.specs.declared.line.Callee.{Callee}
use Rattle.cg_cmachine_resolve.specs.declared.line.Callee.TheVariants as callee
use Rattle.cg_cmachine_resolve.specs.Resolutions.{Resolution}
use Rattle.cg_cmachine_def.specs.Operands.{Value}
use Rattle.cg_cmachine_values.specs.declared.fault.RunFault.{RunFault}
use Rattle.cg_cmachine_values.specs.declared.place.Place.{Place}
use Rattle.cg_heap.specs.Stored.{Stored}
use Rattle.cg_cmachine_running.specs.declared.machine.Machine.{Machine}
use Rattle.cg_cmachine_running.specs.declared.machine.Next.{Next}
use Rattle.cg_cmachine_running.specs.declared.machine.Next.TheVariants.{Goes, Back, Ask}
use Rattle.cg_cmachine_running.specs.Machine.{Asked, IsLow, called_in, landed_here, slack}
use Rattle.cg_cmachine_running.specs.Statements.{called_aside, called_to}
use Rattle.std.specs.Prelude.{ℕ}

module _ (r : Resolution) (asked : Asked) (n : ℕ) (m : Machine) (store : Stored) where
  pub other_to : (place : Place) (c : Callee) (vs : List Value) → ((b : BuiltIn) → c ≡ callee.BuiltIn b → ⊥)
      → landed_here r asked n m (called_in r asked n c vs (state_of store m.changes) m.left) ≡ called_to r asked n m store place c vs
  other_to place (callee.BuiltIn b) vs h = absurd (h b refl)
  other_to place (callee.Own i) vs h = refl
  other_to place callee.Missing vs h = refl
  other_to place (callee.Linked i name) vs h = refl

  pub other_aside : (c : Callee) (vs : List Value) → ((b : BuiltIn) → c ≡ callee.BuiltIn b → ⊥)
      → landed_here r asked n m (called_in r asked n c vs (state_of store m.changes) m.left) ≡ called_aside r asked n m store c vs
  other_aside (callee.BuiltIn b) vs h = absurd (h b refl)
  other_aside (callee.Own i) vs h = refl
  other_aside callee.Missing vs h = refl
  other_aside (callee.Linked i name) vs h = refl

-- room that is there stays where no step is counted
pub low_within : (result : Result Next RunFault) (m m' : Machine) (store : Stored) → m'.left ≡ m.left → IsLow 2 m store → IfOk result (λ next. IsLow (slack next) m' store)
low_within (Ok Goes) m m' store e low = omega (arith, e, low)
low_within (Ok (Back v)) m m' store e low = omega (arith, e, low)
low_within (Ok (Ask f name vs)) m m' store e low = omega (arith, e, low)
low_within (Err fault) m m' store e low = tt

-- where the top stays too
pub low_top : (result : Result Next RunFault) (m m' : Machine) (store store' : Stored) → m'.left ≡ m.left → store'.top ≡ store.top → IsLow 2 m store → IfOk result (λ next. IsLow (slack next) m' store')
low_top (Ok Goes) m m' store store' e t low = omega (arith, e, t, low)
low_top (Ok (Back v)) m m' store store' e t low = omega (arith, e, t, low)
low_top (Ok (Ask f name vs)) m m' store store' e t low = omega (arith, e, t, low)
low_top (Err fault) m m' store store' e t low = tt
