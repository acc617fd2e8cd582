-- Lists by place: what grows and keeps what it has, and what stands in it once.
use Rattle.std.specs.Prelude.{◌≡◌, ℕ, List, [], ◌∷◌, Option, Some, None, length, take, slice_get}
use Rattle.cg_base.specs.Types.{Tau}
use Rattle.cg_kinds.specs.Kinds.{or_unit}

module _ {A : Type 0} where
  -- what was there stays at its place
  abbrev pub Keeps : List A → List A → Type 0
  Keeps old new = take (length old) new ≡ old

  -- it stands at some place
  abbrev pub IsIn : List A → A → Type 0
  IsIn xs x = (i : ℕ) × (slice_get xs i ≡ Some x)

  -- the place where it stands, and None exactly where it stands at none
  abbrev pub Locates : List A → A → Option ℕ → Type 0
  Locates xs x (Some i) = slice_get xs i ≡ Some x
  Locates xs x None = IsIn xs x → ⊥

  -- it holds of each
  abbrev pub Each : (A → Type 0) → List A → Type 0
  Each P [] = Unit
  Each P (x ∷ xs) = P x × Each P xs

  -- nothing stands at two places
  abbrev pub IsOnce : List A → Type 0
  IsOnce xs = (i j : ℕ) (x : A) → slice_get xs i ≡ Some x → slice_get xs j ≡ Some x → i ≡ j

-- the type at a place, or unit where there is none
abbrev pub type_at : List Tau → ℕ → Tau
type_at types at = or_unit (slice_get types at)

abbrev pub or_empty : Option (List ℕ) → List ℕ
or_empty (Some name) = name
or_empty None = []

-- the name at a place, or the empty one where there is none
abbrev pub name_at : List (List ℕ) → ℕ → List ℕ
name_at names at = or_empty (slice_get names at)
