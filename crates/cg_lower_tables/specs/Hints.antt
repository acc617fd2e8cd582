-- Hints to where items of a list first stand, by keys: none with a key stands before the place that is kept for it. What stands at that place
-- is looked at, so that a key may be that of several items.
use Rattle.std.specs.Prelude.{◌≡◌, ℕ, ◌≤◌, Bool, ◌&&◌, nat_eq, List, [], Option, Some, None, length, map, slice_get}
use Rattle.std.specs.Map.{lookup}
use Rattle.cg_base.specs.Types.{Tau}
use Rattle.cg_lower_tables.specs.declared.keys.Key.{Key}
use Rattle.cg_inst.specs.Lists.{same_function}
use Rattle.cg_kinds.specs.Kinds.{subst}
use Rattle.cg_inst_types.specs.Listings.{listing}
use Rattle.cg_typing.specs.Instances.{Instance}

-- two keys are one
abbrev pub same_key : Key → Key → Bool
same_key j k = same_function j.fun k.fun && nat_eq j.types k.types

-- the key of an instance: its types stand in a table as one list, with the unit type for type variables
abbrev pub IsKeyOf : List Tau → Key → Instance → Type 0
IsKeyOf types key x = (key.fun ≡ x.fun) × (slice_get types key.types ≡ Some (listing (map (subst []) x.types)))

-- the key of a type: where it stands in a table, with the unit type for type variables
abbrev pub IsPlaceOf : List Tau → ℕ → Tau → Type 0
IsPlaceOf types at t = slice_get types at ≡ Some (subst [] t)

-- what is kept for a key
abbrev pub hint_of : {K : Type 0} → (K → K → Bool) → List (K × ℕ) → K → Option ℕ
hint_of eq entries k = lookup (eq k) entries

-- an item stands nowhere in a list before a place, or nowhere at all
abbrev pub IsHint : {A : Type 0} → List A → A → Option ℕ → Type 0
IsHint xs x None = (i : ℕ) → slice_get xs i ≡ Some x → ⊥
IsHint xs x (Some at) = (i : ℕ) → slice_get xs i ≡ Some x → at ≤ i

-- each item has a key, for which a place is kept that is no later than its own
pub record AreHints {A K : Type 0} (IsKey : K → A → Type 0) (hint : K → Option ℕ) (xs : List A) : Type 0 where
  pub each : (i : ℕ) (x : A) → slice_get xs i ≡ Some x → (k : K) × IsKey k x × (j : ℕ) × (hint k ≡ Some j) × (j ≤ i)
  pub low : (k : K) (j : ℕ) → hint k ≡ Some j → j ≤ length xs

-- what is kept stays right, over each table in which an item has a key
abbrev pub KeepsHints : {A K : Type 0} → (List Tau → K → A → Type 0) → (K → K → Bool) → K → A → List A → List (K × ℕ) → List A → List (K × ℕ) → Type 0
KeepsHints IsKey eq key x old hints new more =
    (types : List Tau) → IsKey types key x → AreHints (IsKey types) (hint_of eq hints) old → AreHints (IsKey types) (hint_of eq more) new

-- what is kept is right, and there are few enough of each
pub record IsSound (types : List Tau) (list : List Instance) (places : List (Key × ℕ)) (arrows : List Tau) (numbers : List (ℕ × ℕ)) : Type 0 where
  pub few : length list ≤ 4294967296
  pub few_arrows : length arrows ≤ 4294967296
  pub of_list : AreHints (IsKeyOf types) (hint_of same_key places) list
  pub of_arrows : AreHints (IsPlaceOf types) (hint_of nat_eq numbers) arrows
