-- What contexts stand for, and that an answer is the one of the pass.
use Rattle.std.specs.Prelude.{◌≡◌, Bool, false, cond, Result, Ok, Err, List, map, ⊤}
use Rattle.cg_base.specs.Types.{Tau, type_of}
use Rattle.cg_check_context.specs.declared.source.Known.{Known}
use Rattle.cg_check_context.specs.declared.stop.Stop.{Stop}
use Rattle.cg_check_context.specs.declared.stop.Stop.TheVariants.{Rule as Broken, Size, Memory}
use Rattle.cg_check_def.specs.Pass.{Out}
use Rattle.cg_faults.specs.Rule.{rule, type_limit}
use Rattle.cg_kinds.specs.Kinds.{bang}

-- a variable of a context: its own type, and whether a `let!` observes it
pub record Entry : Type 0 where
  pub ty : Tau
  pub observed : Bool

abbrev pub entries_of : List Known → List Entry
entries_of = map (λ (k : Known). record { ty = type_of k.ty; observed = k.observed })

-- a new variable
abbrev pub fresh : Tau → Entry
fresh t = record { ty = t; observed = false }

-- the types that a context gives its variables
abbrev pub type_seen : Entry → Tau
type_seen e = cond e.observed (bang e.ty) e.ty

abbrev pub types_in : List Entry → List Tau
types_in = map type_seen

-- the type of one of them
abbrev pub type_of_known : Known → Tau
type_of_known k = cond k.observed (bang (type_of k.ty)) (type_of k.ty)

abbrev pub itself : {A : Type 0} → A → A
itself a = a

-- the answer is that of the pass, unless memory is wanting
abbrev pub Agrees : {A B : Type 0} → (A → B) → Result A Stop → Out B → Type 0
Agrees view (Ok a) answer = answer ≡ Ok (view a)
Agrees view (Err (Broken r place)) answer = answer ≡ Err (rule r, place)
Agrees view (Err (Size place)) answer = answer ≡ Err (type_limit, place)
Agrees view (Err Memory) answer = ⊤
