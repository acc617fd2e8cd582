-- What C sees of abstract types.
use Rattle.std.proofs.Common.{◌≡◌, ℕ, Bool, true, false, cond, ◌≤◌, List, [], ◌∷◌, ◌++◌, length, refl, arith}
use Rattle.std.specs.Prelude.{codes}
use Rattle.std.specs.Str.{bytes_eq}
use Rattle.cg_base.specs.declared.ty.Part.{the_lemmas}
use Rattle.cg_base.specs.Types.{Tau, word, Taus, to_taus}
use Rattle.cg_base.specs.declared.kind.Word.TheVariants.{U8}
use Rattle.cg_cmachine_def.specs.BuiltIns.{width_text}
use Rattle.cg_lower_def.specs.CTypes.{abstract_struct, element}
use Rattle.cg_lower_tables.specs.declared.host.Host.TheVariants as host
use Rattle.cg_lower_tables.specs.Plain.{host_of, host_struct}

-- the struct of an abstract type is that of what C sees of it
pub struct_is : (x : List ℕ) (args : Taus) → abstract_struct x args ≡ host_struct (host_of x args)
struct_is x args = by_tests (bytes_eq x (codes "SysState")) (bytes_eq x (codes "WordArray"))
  where
    by_tests : (a b : Bool) → cond a (codes "SysState") (cond b (codes "W" ++ width_text (element args)) (codes "Foreign"))
        ≡ host_struct (cond a host.System (cond b (host.Array (element args)) host.Foreign))
    by_tests true b = refl
    by_tests false true = refl
    by_tests false false = refl

-- more than one argument is no word of elements
pub element_long : (ts : List Tau) → 2 ≤ length ts → element (to_taus ts) ≡ U8
unfolding to_taus
element_long [] h = absurd (omega (arith, h))
element_long (t ∷ []) h = absurd (omega (arith, h))
element_long (word w ∷ u ∷ ts) h = refl
element_long (t ∷ u ∷ ts) h = refl

pub ruleset host_steps = the_lemmas
