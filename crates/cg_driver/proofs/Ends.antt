-- A run has one end.
use Rattle.std.proofs.Common.{◌≡◌, ℕ, List}
use Rattle.cg_cmachine_def.specs.Outcomes.{State, Outcome as Ended, done}
use Rattle.cg_heap.specs.declared.cell.Scalar.{Scalar}

pub record SameEnd (us vs : List Scalar) (s z : State) (l l' : ℕ) : Type 0 where
  pub given : us ≡ vs
  pub state : s ≡ z
  pub left : l ≡ l'

pub end_same : (us vs : List Scalar) (s z : State) (l l' : ℕ) (o : Ended (List Scalar)) → o ≡ done us s l → o ≡ done vs z l' → SameEnd us vs s z l l'
end_same us vs s z l l' o a b = record { given = cc; state = cc; left = cc }
